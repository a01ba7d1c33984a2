-- Raw numbers scaled. 01, Message fields: "A value never lies beyond 262,144 either way". 02, CR 2: a bias is raw × 17 mm, of any 12 bits.
use mathlib.Core.Path.{◌≡◌, refl}
use mathlib.Core.Bool.{true}
use mathlib.Core.List.{List}
use Prim.Native.Nat.{ℕ, zero, suc, ◌-◌, ◌*◌, ◌^◌, ◌+◌, ◌≤◌, ◌<◌}
use native.Mathlib.Nat.{mul-le-mul}
use native.Mathlib.Omega.{arith}
use lib.Dec.{lit<}
use borrow.Author.Tests.{le-leb}
use lib.IntN.{ℤ, pos, negsuc, neg_ℤ, nat_abs, ◌*ℤ◌}
use lib.Signed.{mag, le_z}
use mir.Syntax.{w16, w32}
use mir.Val.{SFits}
use Rattle.records.specs.Signed.{signed_at}
use Rattle.records.proofs.SignedLaws.{InBits, signed_in_bits}

abs_neg : (n : ℕ) → nat_abs (neg_ℤ (pos n)) ≡ n
abs_neg zero = refl
abs_neg (suc n) = refl

-- the absolute value of a product
pub abs_times : (z : ℤ) (k : ℕ) → nat_abs (z *ℤ pos k) ≡ nat_abs z * k
abs_times (pos n) k = refl
abs_times (negsuc n) k = abs_neg (suc n * k)

-- the absolute value of a number of n bits
pub abs_in_bits : (n : ℕ) (z : ℤ) → InBits n z → nat_abs z ≤ 2 ^ (n - 1)
abs_in_bits n (pos x) h = omega arith
abs_in_bits n (negsuc x) h = h

mag_abs : (z : ℤ) → mag z ≤ nat_abs z
mag_abs (pos n) = omega arith
mag_abs (negsuc n) = omega arith

-- a number of n bits, k times
pub abs_scaled : (n k : ℕ) (z : ℤ) → InBits n z → nat_abs (z *ℤ pos k) ≤ 2 ^ (n - 1) * k
abs_scaled n k z h = rw (abs_times z k) (mul-le-mul (abs_in_bits n z h) (let e : k ≤ k = omega arith in e))

-- radial and C0: 15 bits, times 16
pub within_16 : (z : ℤ) → InBits 15 z → nat_abs (z *ℤ pos 16) ≤ 262144
within_16 = abs_scaled 15 16

-- along and cross: 13 bits, times 64
pub within_64 : (z : ℤ) → InBits 13 z → nat_abs (z *ℤ pos 64) ≤ 262144
within_64 = abs_scaled 13 64

-- so no value that is read does
pub read_within_16 : (s : List ℕ) (at : ℕ) → nat_abs (signed_at 15 s at *ℤ pos 16) ≤ 262144
read_within_16 s at = within_16 (signed_at 15 s at) (signed_in_bits 15 (lit< tt) s at)

pub read_within_64 : (s : List ℕ) (at : ℕ) → nat_abs (signed_at 13 s at *ℤ pos 64) ≤ 262144
read_within_64 s at = within_64 (signed_at 13 s at) (signed_in_bits 13 (lit< tt) s at)

-- a bias: 12 bits, times 17; from -2048 x 17 to 2047 x 17 mm
pub within_17 : (z : ℤ) → InBits 12 z → (le_z (negsuc 34815) (z *ℤ pos 17) ≡ true) × (le_z (z *ℤ pos 17) (pos 34799) ≡ true)
within_17 (pos x) h = (refl, le-leb (x * 17) 34799 (omega arith))
within_17 (negsuc m) h =
    let e : suc m * 17 ≡ suc (m * 17 + 16) = omega arith in
    rw e (le-leb (m * 17 + 16) 34815 (omega arith), refl)

-- so any 12 bits give -34816 to 34799 mm
pub read_within_17 : (s : List ℕ) (at : ℕ) → (le_z (negsuc 34815) (signed_at 12 s at *ℤ pos 17) ≡ true) × (le_z (signed_at 12 s at *ℤ pos 17) (pos 34799) ≡ true)
read_within_17 s at = within_17 (signed_at 12 s at) (signed_in_bits 12 (lit< tt) s at)

-- in the code: 16 bits are some of 32, and a product by up to 64 fits 32
pub wider : (z : ℤ) → SFits w16 z → SFits w32 z
wider z h = record { sfits = let k : mag z < 32768 = h.sfits in omega arith }

pub scaled : (k : ℕ) (z : ℤ) → k ≤ 64 → SFits w16 z → SFits w32 (z *ℤ pos k)
scaled k z l h =
    let m : nat_abs (z *ℤ pos k) ≤ 32768 * k = abs_scaled 16 k z h.sfits in
    record { sfits = omega (arith, mag_abs (z *ℤ pos k)) }
