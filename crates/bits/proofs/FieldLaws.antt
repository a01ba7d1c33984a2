-- Laws of bits and fields, for any width.
use mathlib.Core.Path.{◌≡◌, refl, sym, ap, ◌∙◌}
use Prim.Native.Nat.{ℕ, zero, suc, ◌+◌, ◌-◌, ◌*◌, ◌/◌, ◌%◌, ◌^◌, ◌≤◌, ◌<◌}
use mathlib.Core.List.{List}
use lib.ListN.{get_or, length, get_or-eq_default}
use lib.Pow.{pow_mono}
use native.Mathlib.Nat.{add-zero, pow-suc, zero-div}
use native.Mathlib.Numerals.{add-one}
use native.Mathlib.Omega.{arith}
use borrow.Author.Tests.{le-leb, lt-leb}
use Rattle.bits.specs.Bits.{bit_at, field_at, got_at}

-- a bit by the byte and the offset within it, where the offset is taken apart first
pub bit_split : (s : List ℕ) (at k : ℕ) → bit_at s (at + k) ≡ get_or s (at / 8 + (at % 8 + k) / 8) 0 / 2 ^ (7 - (at % 8 + k) % 8) % 2
unfolding bit_at
bit_split s at k =
    let e : (at + k) / 8 ≡ at / 8 + (at % 8 + k) / 8 = omega arith in
    let f : (at + k) % 8 ≡ (at % 8 + k) % 8 = omega arith in
    rw (e, f)

pub bit_past : (s : List ℕ) (at k : ℕ) → length s ≤ at / 8 + (at % 8 + k) / 8 → bit_at s (at + k) ≡ 0
bit_past s at k h =
    bit_split s at k
    ∙ ap (λ (x : ℕ). x / 2 ^ (7 - (at % 8 + k) % 8) % 2) (get_or-eq_default s 0 h)
    ∙ ap (λ (x : ℕ). x % 2) (zero-div (2 ^ (7 - (at % 8 + k) % 8)))

pub bit_lt : (s : List ℕ) (i : ℕ) → bit_at s i < 2
unfolding bit_at
bit_lt s i = omega arith

-- a field of n bits is below 2 ^ n
pub field_lt : (s : List ℕ) (at n : ℕ) → field_at s at n < 2 ^ n
unfolding field_at
field_lt s at zero = omega arith
field_lt s at (suc n) =
    let h : field_at s at n < 2 ^ n = field_lt s at n in
    rw (pow-suc 2 n) (omega (arith, bit_lt s (at + n)))

pub field_suc : (s : List ℕ) (at n : ℕ) → field_at s at (n + 1) ≡ 2 * field_at s at n + bit_at s (at + n)
unfolding field_at
field_suc s at n = rw (add-one n)

-- with room for all of 64 bits, one bit more
pub field_room : (s : List ℕ) (at n : ℕ) → n < 64 → field_at s at n < 2 ^ 63
field_room s at n h = omega (arith, field_lt s at n, pow_mono {i = n} {j = 63} (omega arith))

pub field_zero : (s : List ℕ) (at : ℕ) → field_at s at 0 ≡ 0
unfolding field_at
field_zero s at = refl

-- a field within the width is answered
pub got_field : (w : ℕ) (s : List ℕ) (at n : ℕ) → n ≤ w → got_at w s at n ≡ field_at s at n
got_field w s at n h = simp (le-leb n w h)

-- one that is wider is not
pub got_wide : (w : ℕ) (s : List ℕ) (at n : ℕ) → w < n → 0 ≡ got_at w s at n
got_wide w s at n h = simp (lt-leb n w h)

-- a field within the narrower of two widths is the same in both
pub got_narrow : (w v : ℕ) (s : List ℕ) (at n : ℕ) → n ≤ w → w ≤ v → got_at v s at n ≡ got_at w s at n
got_narrow w v s at n h k = got_field v s at n (omega arith) ∙ sym (got_field w s at n h)

-- and fits it
pub got_lt : (w v : ℕ) (s : List ℕ) (at n : ℕ) → n ≤ w → w ≤ v → got_at v s at n < 2 ^ w
got_lt w v s at n h k = rw (got_field v s at n (omega arith)) (omega (arith, field_lt s at n, pow_mono {i = n} {j = w} h))

-- a field of one bit is the bit
pub one_bit : (s : List ℕ) (i : ℕ) → field_at s i 1 ≡ bit_at s i
unfolding field_at
one_bit s i = rw (add-zero i) (omega arith)
