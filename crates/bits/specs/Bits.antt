-- Bits of a list of bytes, high bit first (01, What arrives), and the number that n of them in a row make. Past the end every bit is 0.
use Rattle.std.specs.Prelude.{ℕ, zero, suc, ◌+◌, ◌-◌, ◌*◌, ◌/◌, ◌%◌, ◌^◌, ◌<◌, List, [], ◌∷◌, get_or, set, leb}
use Rattle.bits.specs.Pick.{pick}

-- bit i, from 0; 0 past the end
unfoldable pub bit_at : List ℕ → ℕ → ℕ
bit_at s i = get_or s (i / 8) 0 / 2 ^ (7 - i % 8) % 2

-- the n bits from bit i on, as a list
unfoldable pub bits_from : List ℕ → ℕ → ℕ → List ℕ
bits_from s i zero = []
bits_from s i (suc n) = bit_at s i ∷ bits_from s (i + 1) n

-- the number that the n bits from bit `at` on say
unfoldable pub field_at : List ℕ → ℕ → ℕ → ℕ
field_at s at zero = 0
field_at s at (suc n) = 2 * field_at s at n + bit_at s (at + n)

-- a field of n bits as a number of w bits: 0 where the field is wider than that
abbrev pub got_at : ℕ → List ℕ → ℕ → ℕ → ℕ
got_at w s at n = pick (leb n w) (field_at s at n) 0

-- the byte x with its bit of weight 2 ^ h made b
unfoldable pub byte_with : ℕ → ℕ → ℕ → ℕ
byte_with x h b = (x / 2 ^ h / 2 * 2 + b) * 2 ^ h + x % 2 ^ h

-- the bytes with bit i made b; past the end, the bytes as they are
unfoldable pub set_bit : List ℕ → ℕ → ℕ → List ℕ
set_bit s i b = set s (i / 8) (byte_with (get_or s (i / 8) 0) (7 - i % 8) b)

-- the bytes with the n bits from bit `at` on made the n low bits of v
unfoldable pub put_at : List ℕ → ℕ → ℕ → ℕ → List ℕ
put_at s at zero v = s
put_at s at (suc n) v = put_at (set_bit s (at + n) (v % 2)) at n (v / 2)

-- fields in a row, of the widths ws, from bit `at` on
abbrev pub fields_at : List ℕ → ℕ → List ℕ → List ℕ
fields_at s at [] = []
fields_at s at (w ∷ ws) = field_at s at w ∷ fields_at s (at + w) ws

-- the bytes with the values vs put in the widths ws, one after the other, from bit `at` on
unfoldable pub puts_at : List ℕ → ℕ → List ℕ → List ℕ → List ℕ
puts_at s at [] vs = s
puts_at s at (w ∷ ws) [] = s
puts_at s at (w ∷ ws) (v ∷ vs) = puts_at (put_at s at w v) (at + w) ws vs

-- how many bits a row has
abbrev pub total : List ℕ → ℕ
total [] = 0
total (w ∷ ws) = w + total ws

-- a value for each width, each within its width
abbrev pub Within : List ℕ → List ℕ → Type 0
Within [] [] = Unit {0}
Within [] (v ∷ vs) = ⊥
Within (w ∷ ws) [] = ⊥
Within (w ∷ ws) (v ∷ vs) = (v < 2 ^ w) × Within ws vs

-- the bytes with n records of one layout in a row, f i being the values of record i
unfoldable pub put_rows : List ℕ → ℕ → List ℕ → (ℕ → List ℕ) → ℕ → List ℕ
put_rows s at ws f zero = s
put_rows s at ws f (suc n) = puts_at (put_rows s at ws f n) (at + total ws * n) ws (f n)
