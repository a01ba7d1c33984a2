-- The second half times its inverse, both ways, by one computed test each: of each sum, the terms that are not zero.
use Prim.Native.Nat.{ℕ, zero, suc, ◌<◌}
use mathlib.Core.Path.{◌≡◌, refl, sym, ◌∙◌}
use mathlib.Core.Bool.{Bool}
use mathlib.Core.List.{List}
use lib.Dec.{T, eqb, eqb→eq}
use Rattle.bits.specs.Poly.{times_x}
use Rattle.bits.proofs.Below.{all, below}
use Rattle.field64.specs.Field.{product, product_run, add_if, twice_of}
use Rattle.field64.proofs.FieldLaws.{product_zero_left, product_zero_right}
use Rattle.parity_tables.specs.Tables.{positions, factors}
use Rattle.one_parity.specs.Inverse.{factor_at, second_half, unit, times, HasInverse}
use Rattle.one_parity.proofs.Rows.{rows, entry}
use Rattle.one_parity.proofs.SumLaws.{sum_ext, terms, sum_over, sum_terms}

-- f of n, with n worked out first, so that f does not work it out anew at each use: it spares the tests most of their time
worked : ℕ → (ℕ → ℕ) → ℕ
worked zero f = f zero
worked (suc n) f = f (suc n)

worked_same : (n : ℕ) (f : ℕ → ℕ) → worked n f ≡ f n
unfolding worked
worked_same zero f = refl
worked_same (suc n) f = refl

-- ---- row g of the second half times column k of the inverse
abbrev right_term : ℕ → ℕ → ℕ → ℕ
right_term k x j = worked (entry j k) (λ (e : ℕ). product x e)

right_at : ℕ → List (ℕ × ℕ) → ℕ → Bool
right_at g ts k = eqb (sum_over (right_term k) ts) (unit g k)

right_row : ℕ → Bool
right_row g = all (right_at g (terms (second_half g) 81)) 81

right_test : T (all right_row 81)
unfolding right_row right_at worked terms sum_over factor_at positions factors rows entry product product_run add_if twice_of times_x
right_test = tt

right_times : (g k : ℕ) → g < 81 → k < 81 → times 81 second_half entry g k ≡ unit g k
unfolding right_row right_at
right_times g k h l =
    sum_ext _ (λ (j : ℕ). right_term k (second_half g j) j) 81 (λ j m. sym (worked_same (entry j k) (product (second_half g j))))
    ∙ sum_terms (right_term k) (second_half g) 81 (λ j. worked_same (entry j k) (product 0) ∙ product_zero_left (entry j k))
    ∙ eqb→eq _ _ (below (right_at g (terms (second_half g) 81)) 81 (below right_row 81 right_test g h) k l)

-- ---- row i of the inverse times column k of the second half
abbrev column : ℕ → ℕ → ℕ
column k j = second_half j k

abbrev left_term : ℕ → ℕ → ℕ → ℕ
left_term i x j = worked (entry i j) (λ (e : ℕ). product e x)

left_at : ℕ → List (ℕ × ℕ) → ℕ → Bool
left_at k ts i = eqb (sum_over (left_term i) ts) (unit i k)

left_column : ℕ → Bool
left_column k = all (left_at k (terms (column k) 81)) 81

left_test : T (all left_column 81)
unfolding left_column left_at worked terms sum_over factor_at positions factors rows entry product product_run add_if twice_of times_x
left_test = tt

left_times : (i k : ℕ) → i < 81 → k < 81 → times 81 entry second_half i k ≡ unit i k
unfolding left_column left_at
left_times i k h l =
    sum_ext _ (λ (j : ℕ). left_term i (column k j) j) 81 (λ j m. sym (worked_same (entry i j) (λ (e : ℕ). product e (column k j))))
    ∙ sum_terms (left_term i) (column k) 81 (λ j. worked_same (entry i j) (λ (e : ℕ). product e 0) ∙ product_zero_right (entry i j))
    ∙ eqb→eq _ _ (below (left_at k (terms (column k) 81)) 81 (below left_column 81 left_test k l) i h)

-- CR 9: the second half of 000's matrix has an inverse
pub has_inverse : HasInverse 81 second_half
has_inverse = record { inverse = entry; right = right_times; left = left_times }
