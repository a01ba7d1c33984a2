-- The bit at which an epoch begins, and that there is none.
use mathlib.Core.Path.{◌≡◌, refl}
use mathlib.Core.Bool.{Bool, true, false}
use Prim.Native.Nat.{ℕ}
use lib.Dec.{eqb}
use Rattle.std.specs.Prelude.{Option, Some, None}
use Rattle.bits.specs.Pick.{pick}

module _ (x : ℕ) where
  pub epoch_none : None ≡ pick {A = Option ℕ} (eqb x 0) None (Some x) → eqb x 0 ≡ true
  epoch_none = go (eqb x 0)
    where
      go : (b : Bool) → None ≡ pick {A = Option ℕ} b None (Some x) → b ≡ true
      go true e = refl
      go false e = cc

  pub epoch_some : (at : ℕ) → Some at ≡ pick {A = Option ℕ} (eqb x 0) None (Some x) → (eqb x 0 ≡ false) × (x ≡ at)
  epoch_some at = go (eqb x 0)
    where
      go : (b : Bool) → Some at ≡ pick {A = Option ℕ} b None (Some x) → (b ≡ false) × (x ≡ at)
      go true e = cc
      go false e = (refl, cc)
