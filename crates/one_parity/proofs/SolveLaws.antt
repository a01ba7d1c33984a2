-- A matrix of n rows and columns that has an inverse: what it makes of a vector, and back. For any n and any matrix.
use Prim.Native.Nat.{ℕ, ◌<◌}
use mathlib.Core.Path.{◌≡◌, refl, sym, ap, ◌∙◌}
use mathlib.Core.Bool.{Bool, true, false}
use lib.Dec.{eqb}
use Rattle.bits.specs.Pick.{pick}
use Rattle.field64.specs.Field.{product}
use Rattle.field64.proofs.FieldLaws.{product_assoc, product_zero_left, product_one_left}
use Rattle.one_parity.specs.Inverse.{sum_to, unit, times, HasInverse}
use Rattle.one_parity.proofs.SumLaws.{sum_ext, sum_left, sum_right, sum_swap, sum_single}

-- a factor that is there or not
pub product_pick : (t : Bool) (f x : ℕ) → product (pick t f 0) x ≡ pick t (product f x) 0
product_pick true f x = refl
product_pick false f x = product_zero_left x

module _ (n : ℕ) where
  -- entry i of a matrix times a vector
  abbrev pub act : (ℕ → ℕ → ℕ) → (ℕ → ℕ) → ℕ → ℕ
  act a v i = sum_to (λ (j : ℕ). product (a i j) (v j)) n

  pub act_ext : (a : ℕ → ℕ → ℕ) (v w : ℕ → ℕ) (i : ℕ) → ((j : ℕ) → j < n → v j ≡ w j) → act a v i ≡ act a w i
  act_ext a v w i h = sum_ext _ _ n (λ j l. ap (product (a i j)) (h j l))

  -- one after the other is by the product
  act_act : (a b : ℕ → ℕ → ℕ) (v : ℕ → ℕ) (i : ℕ) → act a (act b v) i ≡ act (times n a b) v i
  act_act a b v i =
      sum_ext _ (λ (j : ℕ). sum_to (λ (k : ℕ). product (product (a i j) (b j k)) (v k)) n) n
      (λ j l. sym (sum_left (a i j) (λ (k : ℕ). product (b j k) (v k)) n) ∙ sum_ext _ _ n (λ k m. product_assoc (a i j) (b j k) (v k)))
      ∙ sum_swap (λ (j k : ℕ). product (product (a i j) (b j k)) (v k)) n n
      ∙ sum_ext _ _ n (λ k l. sum_right (v k) (λ (j : ℕ). product (a i j) (b j k)) n)

  -- by 1 on the diagonal, else 0, nothing changes
  act_unit : (c : ℕ → ℕ → ℕ) (v : ℕ → ℕ) (i : ℕ) → i < n → ((k : ℕ) → k < n → c i k ≡ unit i k) → v i < 64 → act c v i ≡ v i
  act_unit c v i h e l =
      sum_ext _ (λ (k : ℕ). pick (eqb i k) (product 1 (v k)) 0) n (λ k m. ap (λ (x : ℕ). product x (v k)) (e k m) ∙ product_pick (eqb i k) 1 (v k))
      ∙ sum_single (λ (k : ℕ). product 1 (v k)) i n h
      ∙ product_one_left (v i) l

  module _ (a : ℕ → ℕ → ℕ) (H : HasInverse n a) where
    pub there : (v : ℕ → ℕ) (i : ℕ) → i < n → v i < 64 → act a (act H.inverse v) i ≡ v i
    there v i h l = act_act a H.inverse v i ∙ act_unit (times n a H.inverse) v i h (λ k m. H.right i k h m) l

    pub back : (v : ℕ → ℕ) (i : ℕ) → i < n → v i < 64 → act H.inverse (act a v) i ≡ v i
    back v i h l = act_act H.inverse a v i ∙ act_unit (times n H.inverse a) v i h (λ k m. H.left i k h m) l
