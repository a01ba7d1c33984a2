-- Laws of two's complement, for any weight of the highest bit.
use mathlib.Core.Path.{◌≡◌, refl, ap}
use mathlib.Core.Bool.{true, false}
use mathlib.Core.Logic.{dite}
use mathlib.Core.List.{List}
use Prim.Native.Nat.{ℕ, zero, suc, ◌-◌, ◌*◌, ◌^◌, ◌<◌}
use native.Mathlib.Nat.{not-suc-le-zero, pow-suc}
use native.Mathlib.Decide.{dec_lt}
use native.Mathlib.Omega.{arith}
use lib.IntN.{ℤ, pos, negsuc}
use lib.Signed.{mag, lt_z}
use borrow.Author.Tests.{lt-ltb, le-ltb, ltb-true}
use Rattle.bits.specs.Bits.{field_at}
use Rattle.bits.proofs.FieldLaws.{field_lt}
use Rattle.bits.proofs.SignLaws.{not_neg}
use Rattle.records.specs.Signed.{signed_half, signed_at, raw_half}

-- z is a number of n bits: from -2 ^ (n - 1) up to, and without, 2 ^ (n - 1)
abbrev pub InBits : ℕ → ℤ → Type 0
InBits n z = mag z < 2 ^ (n - 1)

-- what was written is read
pub signed_raw : (half : ℕ) (z : ℤ) → mag z < half → signed_half half (raw_half half z) ≡ z
signed_raw half (pos x) l = simp (lt-ltb x half l)
signed_raw half (negsuc m) l = simp (le-ltb (2 * half - 1 - m) half (omega arith)) (ap negsuc (omega arith))

-- what was read is written
pub raw_signed : (half x : ℕ) → x < 2 * half → raw_half half (signed_half half x) ≡ x
raw_signed half x l =
    dite (dec_lt x half)
    (λ h. simp (lt-ltb x half h))
    (λ h. simp (le-ltb x half (omega arith)) (omega arith))

-- a number that fits has bits that fit
pub raw_lt : (half : ℕ) (z : ℤ) → mag z < half → raw_half half z < 2 * half
raw_lt half (pos x) l = omega arith
raw_lt half (negsuc m) l = omega arith

-- and bits that fit say a number that fits
pub signed_lt : (half x : ℕ) → x < 2 * half → mag (signed_half half x) < half
signed_lt half x l =
    dite (dec_lt x half)
    (λ h. simp (lt-ltb x half h) h)
    (λ h. simp (le-ltb x half (omega arith)) (omega arith))

twice_half : (n : ℕ) → 0 < n → 2 ^ n ≡ 2 * 2 ^ (n - 1)
twice_half zero h = absurd (not-suc-le-zero h)
twice_half (suc n) h = let e : suc n - 1 ≡ n = omega arith in rw (e, pow-suc 2 n) (omega arith)

-- a field of n bits says a number of n bits
pub signed_in_bits : (n : ℕ) → 0 < n → (s : List ℕ) (at : ℕ) → InBits n (signed_at n s at)
signed_in_bits n h s at = signed_lt (2 ^ (n - 1)) (field_at s at n) (omega (arith, field_lt s at n, twice_half n h))

-- the bits of a negative number, by its magnitude
pub neg_raw : (half : ℕ) (z : ℤ) → lt_z z (pos 0) ≡ true → raw_half half z ≡ 2 * half - 1 - mag z
neg_raw half (pos x) e = absurd (not-suc-le-zero (ltb-true x 0 e))
neg_raw half (negsuc m) e = refl

-- a number that is not negative is its own bits
pub pos_raw : (half : ℕ) (z : ℤ) → lt_z z (pos 0) ≡ false → raw_half half z ≡ mag z
pos_raw half (pos x) e = refl
pos_raw half (negsuc m) e = absurd (not_neg m e)
