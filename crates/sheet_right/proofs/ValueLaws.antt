-- Values that a usable raw number gives, the test for them, and how large they are.
use Prim.Native.Nat.{ℕ, suc, ◌+◌, ◌-◌, ◌*◌, ◌/◌, ◌%◌, ◌≤◌, ◌<◌}
use mathlib.Core.Path.{◌≡◌, refl, sym, ap, ◌∙◌}
use mathlib.Core.Bool.{true}
use mathlib.Core.Logic.{dite}
use native.Mathlib.Nat.{mul-le-mul, mul-mod_left, mul-div_left, div-add-mod'}
use native.Mathlib.Decide.{ℕ_discrete}
use native.Mathlib.Omega.{arith}
use lib.Dec.{eqb, leb}
use lib.IntN.{ℤ, pos, negsuc, nat_abs, ◌*ℤ◌}
use lib.Signed.{mag}
use borrow.Author.Tests.{le-leb, eqb-true, leb-true}
use Rattle.bits.proofs.TestLaws.{both_hold}
use Rattle.records.proofs.ScaleLaws.{abs_times}
use Rattle.sheet_form.specs.Reading.{absolute, is_given}
use Rattle.sheet_right.specs.Allowed.{Given}

-- the number without its sign, as the library has it
absolute_is : (z : ℤ) → absolute z ≡ nat_abs z
absolute_is (pos x) = refl
absolute_is (negsuc m) = omega arith

-- and times k
absolute_times : (z : ℤ) (k : ℕ) → absolute (z *ℤ pos k) ≡ absolute z * k
absolute_times z k = absolute_is (z *ℤ pos k) ∙ abs_times z k ∙ ap (λ (n : ℕ). n * k) (sym (absolute_is z))

-- a magnitude is at most that
mag_le : (z : ℤ) → mag z ≤ absolute z
mag_le (pos x) = omega arith
mag_le (negsuc m) = omega arith

-- a multiple back from its quotient
divided : (k n : ℕ) → n % k ≡ 0 → n / k * k ≡ n
divided k n e = omega (arith, div-add-mod' n k)

module _ (scale most : ℕ) (pos-scale : 0 < scale) where
  -- such a value passes the test
  pub given_test : (z : ℤ) → Given scale most z → is_given scale most z ≡ true
  unfolding is_given
  given_test z g =
      let e : absolute z ≡ absolute g.raw * scale = ap absolute g.scaled ∙ absolute_times g.raw scale in
      rw (e, mul-mod_left (absolute g.raw) scale, mul-div_left (absolute g.raw) {n = scale} pos-scale) (le-leb (absolute g.raw) most g.near)

  -- and what passes it is such a value
  given_by : (z : ℤ) → absolute z % scale ≡ 0 → absolute z / scale ≤ most → Given scale most z
  given_by (pos x) e l = record { raw = pos (x / scale); near = l; scaled = ap pos (sym (divided scale x e)) }
  given_by (negsuc m) e l = record {
    raw = negsuc ((m + 1) / scale - 1);
    near = omega (arith, high);
    scaled = (let f : suc ((m + 1) / scale - 1) ≡ (m + 1) / scale = omega (arith, high) in
        let g : (m + 1) / scale * scale ≡ suc m = divided scale (m + 1) e ∙ omega arith in
        sym (rw (f, g)));
  }
    where
      high : 1 ≤ (m + 1) / scale
      high =
          dite (ℕ_discrete ((m + 1) / scale) 0)
          (λ z. absurd (let q : 0 * scale ≡ m + 1 = rw z at (divided scale (m + 1) e) in omega arith))
          (λ n. omega arith)

  pub test_given : (z : ℤ) → is_given scale most z ≡ true → Given scale most z
  unfolding is_given
  test_given z e =
      let p = both_hold (eqb (absolute z % scale) 0) (leb (absolute z / scale) most) e in
      given_by z (eqb-true _ _ p.0) (leb-true _ _ p.1)

-- a value is small
pub given_small : (scale most : ℕ) (z : ℤ) → Given scale most z → mag z ≤ most * scale
given_small scale most z g =
    let e : absolute z ≡ absolute g.raw * scale = ap absolute g.scaled ∙ absolute_times g.raw scale in
    let k : scale ≤ scale = omega arith in
    omega (arith, mag_le z, mul-le-mul g.near k)
