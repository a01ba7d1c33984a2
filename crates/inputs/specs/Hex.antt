-- Hexadecimal digits as bytes, two digits each, the high one first.
use Rattle.std.specs.Prelude.{ℕ, ◌+◌, ◌-◌, ◌*◌, ◌/◌, ◌%◌, ◌≡◌, Bool, not, ◌&&◌, List, ◌++◌, eqb, ltb, length, get_or, drop}
use Rattle.io.specs.Counts.{IsPrefixLen}
use Rattle.bits.specs.Pick.{pick}
use Rattle.bits.specs.Some.{any_of}
use Rattle.bits.specs.Table.{table}

-- what a digit says: 0 to 9, A to F, a to f; 16 for any other byte
unfoldable pub digit_of : ℕ → ℕ
digit_of b =
    pick (ltb b 48) 16
    (pick (ltb b 58) (b - 48)
    (pick (ltb b 65) 16
    (pick (ltb b 71) (b - 55)
    (pick (ltb b 97) 16
    (pick (ltb b 103) (b - 87) 16)))))

-- a byte is no digit
abbrev pub is_no_digit : ℕ → List ℕ → Bool
is_no_digit b rest = ltb 15 (digit_of b)

-- a word is an even number of digits, and not empty
abbrev pub is_hex : List ℕ → Bool
is_hex w = (ltb 0 (length w) && eqb (length w % 2) 0) && not (any_of is_no_digit w)

-- the byte that the digits 2 i and 2 i + 1 of a word say; what is no digit counts as 0
abbrev pub byte_of : List ℕ → ℕ → ℕ
byte_of w i = 16 * (digit_of (get_or w (2 * i) 0) % 16) + digit_of (get_or w (2 * i + 1) 0) % 16

-- how many bytes so many digits say, or a room takes of them
abbrev pub count_of : ℕ → ℕ → ℕ
count_of digits room = pick (ltb (digits / 2) room) (digits / 2) room

-- r bytes of a word stand at the start of a room, and the rest of it is as it was
pub record Hexed (w room : List ℕ) (r : ℕ) (after : List ℕ) : Type 0 where
  pub count : r ≡ count_of (length w) (length room)
  pub bytes : after ≡ table (byte_of w) r ++ drop r room
  pub counted : IsPrefixLen r after
