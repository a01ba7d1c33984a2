-- 02, CR 9: frames made from a message's 486 bits, a PRN among the ten and the six flags.
use Rattle.std.specs.Prelude.{ℕ, ◌*◌, ◌≡◌, ◌≢◌, Bool, not, ◌||◌, List, [], ◌∷◌, ◌++◌, eqb, ltb, length, replicate}
use Rattle.bits.specs.Bits.{field_at, puts_at}
use Rattle.bits.specs.Some.{first}
use Rattle.bits.specs.Table.{table}
use Rattle.one_parity.specs.OneParity.{IsParity}
use Rattle.frame.specs.Frame.{is_prn}

-- 01, What arrives: symbol k, from 0, of a message alone: six bits, high bit first
unfoldable pub message_symbol : List ℕ → ℕ → ℕ
message_symbol message k = field_at message (6 * k) 6

-- 01, What arrives: the 81 symbols of a message of 486 bits
unfoldable pub message_symbols : List ℕ → List ℕ
message_symbols message = table (message_symbol message) 81

-- 01, What arrives: 16 symbols of sync, 6 of PRN, 6 of flags, then 162 of six bits
unfoldable pub frame_widths : List ℕ
frame_widths = 16 ∷ 6 ∷ 6 ∷ replicate 162 6

-- 01, What arrives: the 125 bytes of a frame, every bit of which is put
unfoldable pub framed : ℕ → ℕ → List ℕ → List ℕ
framed prn flags symbols = puts_at (replicate 125 0) 0 frame_widths (0xEB90 ∷ prn ∷ flags ∷ symbols)

-- 02, CR 9: the frame is sync, PRN, flags, the 81 message symbols and their parity
pub record Made (message : List ℕ) (prn flags : ℕ) (frame : List ℕ) : Type 0 where
  pub parity : List ℕ
  pub is : IsParity (message_symbols message) parity
  pub bytes : frame ≡ framed prn flags (message_symbols message ++ parity)

-- 01, 1: not as long as a message, or not as long as a frame
abbrev pub wrong_length : ℕ → ℕ → Bool
wrong_length message frame = not (eqb message 61) || not (eqb frame 125)

-- 02, CR 9: "1 for message or room of wrong length, 2, 4 for a foreign PRN, 16 for flags above 63"
unfoldable pub make_refusal : List ℕ → ℕ → ℕ → List ℕ → ℕ
make_refusal message prn flags room =
    first
    ((1, wrong_length (length message) (length room))
    ∷ (2, not (eqb (field_at message 486 2) 0))
    ∷ (4, not (is_prn prn))
    ∷ (16, ltb 63 flags)
    ∷ [])

-- 02, CR 9: what the room holds at the end: the frame, or on a refusal what it held
pub record Leaves (message : List ℕ) (prn flags : ℕ) (room end : List ℕ) : Type 0 where
  pub made : make_refusal message prn flags room ≡ 0 → Made message prn flags end
  pub kept : make_refusal message prn flags room ≢ 0 → end ≡ room
