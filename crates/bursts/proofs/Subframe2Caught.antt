-- 02, CR 6 and CR 8: a run of errors within 24 neighbouring positions of subframe 2 of B-CNAV1 is refused 36.
use mathlib.Core.Path.{◌≡◌, refl, ◌∙◌}
use mathlib.Core.Logic.{◌≢◌}
use mathlib.Core.Bool.{Bool, true, false, not}
use mathlib.Core.List.{List, [], ◌∷◌}
use Prim.Native.Nat.{ℕ}
use native.Mathlib.Omega.{arith}
use borrow.Author.Tests.{eq-eqb, eqb-true}
use lib.Dec.{eqb, ltb}
use lib.ListN.{length}
use Rattle.bits.specs.Some.{first}
use Rattle.check24.specs.Check.{check_ok}
use Rattle.subframe2.specs.Read.{hour_of, subframe2_refusal, answer, read_subframe2}
use Rattle.verdict.proofs.NumberLaws.{number_back}
use Rattle.bursts.specs.Subframe2.{subframe2_number, Subframe2Passes, subframe2_refused_with, Subframe2RunsCaught}
use Rattle.bursts.proofs.RunLaws.{run_caught}

-- what reading makes of the length, the check and the hour
abbrev number_from : Bool → Bool → Bool → ℕ
number_from a b c = first ((35, not a) ∷ (36, not b) ∷ (37, c) ∷ [])

number_by : (s : List ℕ) → subframe2_number s ≡ number_from (eqb (length s) 75) (check_ok s 0 576) (ltb 167 (hour_of s))
unfolding subframe2_refusal answer
number_by s = number_back _

neither : (a b c : Bool) → number_from a b c ≢ 35 → number_from a b c ≢ 36 → (a ≡ true) × (b ≡ true)
neither false b c p q = absurd (p refl)
neither true false c p q = absurd (q refl)
neither true true c p q = (refl, refl)

-- refused neither 35 nor 36: the length and the check are right
passes : (s : List ℕ) → Subframe2Passes s → (length s ≡ 75) × (check_ok s 0 576 ≡ true)
passes s p =
    let e = number_by s in
    let a = neither _ _ (ltb 167 (hour_of s)) (λ z. p.0 (e ∙ z)) (λ z. p.1 (e ∙ z)) in
    (eqb-true _ _ a.0, a.1)

-- and where the check is wrong, the subframe is refused 36
wrong_check : (t : List ℕ) → length t ≡ 75 → check_ok t 0 576 ≡ false → read_subframe2 t ≡ subframe2_refused_with 36
unfolding subframe2_refusal answer
wrong_check t a b = rw (eq-eqb _ _ a, b)

-- CR 8, of a subframe: a run of errors is always caught
pub subframe2_runs_caught : Subframe2RunsCaught
subframe2_runs_caught s t p R =
    let a = passes s p in
    wrong_check t (R.long ∙ a.0) (run_caught 576 _ s t (omega arith) R a.1)
