-- 02, CR 9: every message has a parity, and only one.
use Rattle.std.specs.Prelude.{ℕ, ◌+◌, ◌<◌, ◌≡◌, true, List, [], ◌∷◌, ◌++◌, get_or, length}
use Rattle.std.specs.Int.Bits.{bit_xor}
use Rattle.bits.specs.Table.{table}
use Rattle.field64.specs.Field.{product}
use Rattle.parity_tables.specs.Tables.{positions, factors}
use Rattle.parity.specs.Parity.{symbol_of, parity_ok}

-- 01, Parity and check bits: a group's sum of factor times symbol at the position, over a word of symbols
unfoldable pub group_sum : List ℕ → List ℕ → List ℕ → ℕ
group_sum w [] fs = 0
group_sum w (p ∷ ps) [] = 0
group_sum w (p ∷ ps) (f ∷ fs) = bit_xor (product f (get_or w p 0)) (group_sum w ps fs)

-- 02, CR 9: v is a parity of the 81 message symbols m: 81 symbols of six bits, and with them "all 81 groups zero"
pub record IsParity (m v : List ℕ) : Type 0 where
  pub long : length v ≡ 81
  pub six : (i : ℕ) → i < 81 → get_or v i 0 < 64
  pub zero : (g : ℕ) → g < 81 → group_sum (m ++ v) (get_or positions g []) (get_or factors g []) ≡ 0

-- 02, CR 9: m has a parity, which "is also the only one"
pub record OneParity (m : List ℕ) : Type 0 where
  pub parity : List ℕ
  pub is : IsParity m parity
  pub only : (v : List ℕ) → IsParity m v → v ≡ parity

-- 02, CR 9: "No message may be refused for want of parity symbols": 81 message symbols of any value
abbrev pub EachHasOne : Type 0
EachHasOne = (m : List ℕ) → length m ≡ 81 → OneParity m

-- 01, What arrives: n symbols of a frame's coded part, from symbol k on
abbrev pub symbols_from : List ℕ → ℕ → ℕ → List ℕ
symbols_from frame k n = table (λ (i : ℕ). symbol_of frame (k + i)) n

-- 01, What arrives: "The first 81 are the message of 486 bits; the rest is parity"
abbrev pub ParityInFrame : List ℕ → Type 0
ParityInFrame frame = IsParity (symbols_from frame 0 81) (symbols_from frame 81 81)

-- 01, 6: a frame passes the parity check exactly if its last 81 symbols are a parity of the first 81
pub record PassesBy (frame : List ℕ) : Type 0 where
  pub to : parity_ok frame ≡ true → ParityInFrame frame
  pub back : ParityInFrame frame → parity_ok frame ≡ true
