-- A group's sum over message and parity, by the two halves of the matrix.
use Prim.Native.Nat.{ℕ, ◌+◌, ◌<◌}
use mathlib.Core.Path.{◌≡◌, sym, ap, ap₂, ◌∙◌}
use mathlib.Core.Bool.{Bool, true}
use mathlib.Core.List.{List, [], ◌∷◌, ◌++◌}
use native.Mathlib.Omega.{arith}
use lib.Dec.{T, eqb, ltb, ltb→lt}
use lib.ListN.{get_or, length, get_or-append}
use lib.Seq.{get_or-append-add}
use lib.Bits.{bit_xor}
use Rattle.bits.specs.Pick.{pick}
use Rattle.bits.proofs.Below.{both, both_left, both_right, all, below}
use Rattle.field64.specs.Field.{product}
use Rattle.field64.proofs.FieldLaws.{product_xor_left, product_zero_left}
use Rattle.parity_tables.specs.Tables.{positions, factors}
use Rattle.one_parity.specs.Inverse.{sum_to, factor_at, matrix, second_half}
use Rattle.one_parity.specs.OneParity.{group_sum}
use Rattle.one_parity.proofs.SumLaws.{sum_ext, sum_zero, sum_xor, sum_split, sum_single}
use Rattle.one_parity.proofs.SolveLaws.{product_pick, act}

-- every position is below 162
unfoldable pub small : List ℕ → Bool
small [] = true
small (p ∷ ps) = both (ltb p 162) (small ps)

small_row : ℕ → Bool
small_row g = small (get_or positions g [])

small_test : T (all small_row 81)
unfolding small_row small positions
small_test = tt

pub all_small : (g : ℕ) → g < 81 → T (small (get_or positions g []))
unfolding small_row
all_small g h = below small_row 81 small_test g h

-- a group's sum is a sum over all positions
nothing : (w : List ℕ) (n : ℕ) → 0 ≡ sum_to (λ (k : ℕ). product 0 (get_or w k 0)) n
nothing w n = sym (sum_ext _ (λ (k : ℕ). 0) n (λ k l. product_zero_left (get_or w k 0)) ∙ sum_zero n)

group_sum_lem : (w ps fs : List ℕ) → T (small ps) → group_sum w ps fs ≡ sum_to (λ (k : ℕ). product (factor_at k ps fs) (get_or w k 0)) 162
unfolding group_sum factor_at small
group_sum_lem w [] fs t = nothing w 162
group_sum_lem w (p ∷ ps) [] t = nothing w 162
group_sum_lem w (p ∷ ps) (f ∷ fs) t =
    ap₂ bit_xor
    (sym (sum_ext _ (λ (k : ℕ). pick (eqb p k) (product f (get_or w k 0)) 0) 162 (λ k l. product_pick (eqb p k) f (get_or w k 0))
    ∙ sum_single (λ (k : ℕ). product f (get_or w k 0)) p 162 (ltb→lt p 162 (both_left (ltb p 162) (small ps) t))))
    (group_sum_lem w ps fs (both_right (ltb p 162) (small ps) t))
    ∙ sym (sum_xor (λ (k : ℕ). product (pick (eqb p k) f 0) (get_or w k 0)) (λ (k : ℕ). product (factor_at k ps fs) (get_or w k 0)) 162)
    ∙ sum_ext _ _ 162 (λ k l. sym (product_xor_left (pick (eqb p k) f 0) (factor_at k ps fs) (get_or w k 0)))

-- what the message adds to the sum of group g
abbrev pub given : List ℕ → ℕ → ℕ
given m g = sum_to (λ (k : ℕ). product (matrix g k) (get_or m k 0)) 81

-- by halves
pub halves : (m v : List ℕ) (g : ℕ) → length m ≡ 81 → g < 81
    → group_sum (m ++ v) (get_or positions g []) (get_or factors g []) ≡ bit_xor (given m g) (act 81 second_half (λ (j : ℕ). get_or v j 0) g)
halves m v g e h =
    group_sum_lem (m ++ v) (get_or positions g []) (get_or factors g []) (all_small g h)
    ∙ sum_split (λ (k : ℕ). product (matrix g k) (get_or (m ++ v) k 0)) 81 81
    ∙ ap₂ bit_xor
    (sum_ext _ _ 81 (λ k l. ap (product (matrix g k)) (get_or-append m v 0 k (omega arith))))
    (sum_ext _ _ 81 (λ j l. ap (product (second_half g j)) (ap (λ (x : ℕ). get_or (m ++ v) (x + j) 0) (sym e) ∙ get_or-append-add m v j 0)))
