-- A field out of a wider one, and out of bytes joined.
use mathlib.Core.Path.{◌≡◌, sym, ap, ◌∙◌}
use Prim.Native.Nat.{ℕ, ◌+◌, ◌-◌, ◌*◌, ◌/◌, ◌%◌, ◌^◌, ◌<◌, ◌≤◌}
use mathlib.Core.List.{List}
use native.Mathlib.Nat.{add-zero}
use native.Mathlib.Omega.{arith}
use lib.ListN.{get_or}
use lib.Pow.{high, low}
use Rattle.bits.specs.Bits.{field_at, got_at}
use Rattle.bits.proofs.FieldLaws.{field_lt, got_field}
use Rattle.bits.proofs.ByteWise.{field_split, field_byte}

-- two fields side by side, read as one: the first is the high part, the second the low one
pub field_high : (s : List ℕ) (at m n : ℕ) → field_at s at (m + n) / 2 ^ n ≡ field_at s at m
field_high s at m n = ap (λ (x : ℕ). x / 2 ^ n) (field_split s at m n) ∙ high (field_at s at m) n (field_lt s (at + m) n)

pub field_low : (s : List ℕ) (at m n : ℕ) → field_at s at (m + n) % 2 ^ n ≡ field_at s (at + m) n
field_low s at m n = ap (λ (x : ℕ). x % 2 ^ n) (field_split s at m n) ∙ low (field_at s at m) n (field_lt s (at + m) n)

-- the m bits that stand k bits from the end of a wider field
pub field_part : (s : List ℕ) (at a m k : ℕ) → field_at s at (a + m + k) / 2 ^ k % 2 ^ m ≡ field_at s (at + a) m
field_part s at a m k = ap (λ (x : ℕ). x % 2 ^ m) (field_high s at (a + m) k) ∙ field_low s at a m

-- a byte is the field of its eight bits
pub byte_field : (s : List ℕ) (j : ℕ) → get_or s j 0 < 256 → field_at s (8 * j) 8 ≡ get_or s j 0
byte_field s j h =
    let e : get_or s j 0 / 2 ^ (8 - 0 - 8) % 2 ^ 8 ≡ get_or s j 0 = omega arith in
    ap (λ (i : ℕ). field_at s i 8) (sym (add-zero (8 * j))) ∙ field_byte s j 0 8 (omega arith) ∙ e

-- four of them in a row
pub four_bytes : (s : List ℕ) (j : ℕ) → ((i : ℕ) → get_or s i 0 < 256)
    → get_or s j 0 * 2 ^ 24 + get_or s (j + 1) 0 * 2 ^ 16 + get_or s (j + 2) 0 * 2 ^ 8 + get_or s (j + 3) 0 ≡ field_at s (8 * j) 32
four_bytes s j h =
    let at : (i : ℕ) → field_at s (8 * j + 8 * i) 8 ≡ get_or s (j + i) 0 =
    λ i. let e : 8 * j + 8 * i ≡ 8 * (j + i) = omega arith in ap (λ (k : ℕ). field_at s k 8) e ∙ byte_field s (j + i) (h (j + i)) in
    omega (
      arith,
      field_split s (8 * j) 24 8,
      field_split s (8 * j) 16 8,
      field_split s (8 * j) 8 8,
      byte_field s j (h j),
      at 1,
      at 2,
      at 3,
    )

-- a field of n bits out of the w bits from its first byte on
pub window : (s : List ℕ) (at n w : ℕ) → at % 8 + n ≤ w → n ≤ 64 → field_at s (8 * (at / 8)) w / 2 ^ (w - at % 8 - n) % 2 ^ n ≡ got_at 64 s at n
window s at n w h l =
    let j = at / 8 in
    let r = at % 8 in
    let k = w - r - n in
    let f : w ≡ r + n + k = omega arith in
    let g : 8 * j + r ≡ at = omega arith in
    ap (λ (x : ℕ). field_at s (8 * j) x / 2 ^ k % 2 ^ n) f
    ∙ field_part s (8 * j) r n k
    ∙ ap (λ (i : ℕ). field_at s i n) g
    ∙ sym (got_field 64 s at n l)

-- eight bytes in a row, four and four
pub eight_bytes : (s : List ℕ) (j : ℕ) → field_at s (8 * j) 32 * 4294967296 + field_at s (8 * (j + 4)) 32 ≡ field_at s (8 * j) 64
eight_bytes s j =
    let e : 8 * (j + 4) ≡ 8 * j + 32 = omega arith in
    ap (λ (i : ℕ). field_at s (8 * j) 32 * 4294967296 + field_at s i 32) e ∙ sym (field_split s (8 * j) 32 32)
