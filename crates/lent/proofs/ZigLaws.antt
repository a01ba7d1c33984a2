-- What zig and zag make of a number, by its sign.
use mathlib.Core.Path.{◌≡◌, refl}
use Prim.Native.Nat.{ℕ, ◌+◌, ◌*◌, ◌/◌, ◌%◌}
use mathlib.Core.Bool.{true, false}
use lib.IntN.{ℤ, pos, negsuc, nat_abs}
use lib.Signed.{mag, lt_z}
use native.Mathlib.Nat.{not-suc-le-zero}
use native.Mathlib.Omega.{arith}
use borrow.Author.Tests.{ltb-true, eq-eqb, ne_eqb}
use Rattle.bits.proofs.SignLaws.{not_neg}
use Rattle.lent.specs.Digits.{zig_of, zag_of}

pub neg_zig : (z : ℤ) → lt_z z (pos 0) ≡ true → zig_of z ≡ 2 * mag z + 1
neg_zig (pos x) e = absurd (not-suc-le-zero (ltb-true x 0 e))
neg_zig (negsuc m) e = refl

pub pos_zig : (z : ℤ) → lt_z z (pos 0) ≡ false → 2 * nat_abs z ≡ zig_of z
pos_zig (pos x) e = refl
pos_zig (negsuc m) e = absurd (not_neg m e)

pub zag_even : (n : ℕ) → n % 2 ≡ 0 → zag_of n ≡ pos (n / 2)
zag_even n e = rw (eq-eqb (n % 2) 0 e)

pub zag_odd : (n : ℕ) → n % 2 ≡ 1 → zag_of n ≡ negsuc (n / 2)
zag_odd n e = rw (ne_eqb (n % 2) 0 (λ q. omega arith))
