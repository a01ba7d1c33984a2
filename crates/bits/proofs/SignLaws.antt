-- A number with its sign as the code computes it: -1 - z turns one side of zero into the other.
use mathlib.Core.Path.{◌≡◌, refl, ap, ◌∙◌}
use Prim.Native.Nat.{ℕ, zero, suc}
use mathlib.Core.Bool.{true, false, true≢false}
use lib.IntN.{ℤ, pos, negsuc, ◌-ℤ◌, nat_abs}
use lib.Signed.{mag, lt_z, non_neg}
use lib.Dec.{T, ltb}
use mir.Syntax.{Width}
use mir.Val.{to_z, of_z, SFits, Fits, hbits, bits}
use mir.Facts.{to_z-of_z, to_z_pos, Fits-nat_abs}
use native.Mathlib.Nat.{not-suc-le-zero}
use native.Mathlib.Omega.{arith}
use borrow.Author.Tests.{le-ltb, ltb-true}

-- a negative number, counted from -1 down
pub neg_sub : (d : ℕ) → negsuc 0 -ℤ pos d ≡ negsuc d
neg_sub zero = refl
neg_sub (suc d) = ap negsuc (omega arith)

pub neg_flip : (z : ℤ) → lt_z z (pos 0) ≡ true → negsuc 0 -ℤ z ≡ pos (mag z)
neg_flip (pos x) e = absurd (not-suc-le-zero (ltb-true x 0 e))
neg_flip (negsuc m) e = simp (le-ltb (suc m) 1 (omega arith)) (ap pos (omega arith))

pub not_neg : (m : ℕ) → lt_z (negsuc m) (pos 0) ≡ false → ⊥
not_neg m e = true≢false e

-- a number that is not negative is its own magnitude
pub pos_mag : (z : ℤ) → lt_z z (pos 0) ≡ false → nat_abs z ≡ mag z
pos_mag (pos x) e = refl
pos_mag (negsuc m) e = absurd (not_neg m e)

-- ---- the same in machine numbers, for any width
module _ (w : Width) (z : ℤ) (f : SFits w z) where
  pub back : to_z w (of_z w z) ≡ z
  back = to_z-of_z f

  pub flip : lt_z z (pos 0) ≡ true → to_z w (of_z w (negsuc 0 -ℤ z)) ≡ pos (mag z)
  flip e = ap (λ (y : ℤ). to_z w (of_z w y)) (neg_flip z e) ∙ to_z_pos w f.sfits

  pub flip_fits : lt_z z (pos 0) ≡ true → SFits w (negsuc 0 -ℤ z)
  flip_fits e = rw (neg_flip z e) (record { sfits = f.sfits })

not_below : (z : ℤ) → lt_z z (pos 0) ≡ false → T (non_neg z)
not_below (pos x) e = tt
not_below (negsuc m) e = absurd (not_neg m e)

-- a number that is not negative, cast to an unsigned type as wide or wider
pub cast_of : (w : Width) {v : Width} (z : ℤ) → SFits w z → T (ltb (hbits w) (bits v)) → lt_z z (pos 0) ≡ false → T (non_neg z) × Fits v (nat_abs z)
cast_of w z f t e = (not_below z e, Fits-nat_abs t f)
