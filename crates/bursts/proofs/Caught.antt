-- 02, CR 8: a run of errors within 24 neighbouring positions of a message is refused 7.
use mathlib.Core.Path.{◌≡◌, refl, sym, ◌∙◌}
use mathlib.Core.Logic.{◌≢◌}
use mathlib.Core.Bool.{Bool, true, false, not}
use mathlib.Core.List.{List, [], ◌∷◌}
use Prim.Native.Nat.{ℕ, ◌+◌}
use native.Mathlib.Omega.{arith}
use borrow.Author.Tests.{eq-eqb, eqb-true}
use lib.Dec.{eqb}
use lib.ListN.{length}
use Rattle.bits.specs.Bits.{field_at}
use Rattle.bits.specs.Some.{first}
use Rattle.bits.proofs.PutLaws.{field_ext}
use Rattle.check24.specs.Check.{check_ok}
use Rattle.judge.specs.Judge.{refusal_at}
use Rattle.message.specs.Read.{answer, read_message}
use Rattle.verdict.proofs.NumberLaws.{number_back}
use Rattle.bursts.specs.Burst.{refusal, Passes, refused_with, RunsCaught}
use Rattle.bursts.proofs.RunLaws.{past, run_caught}

-- ---- what reading makes of the length, the two closing bits and the check
abbrev number_from : Bool → Bool → Bool → ℕ → ℕ
number_from a b c n = first ((1, not a) ∷ (2, not b) ∷ (7, not c) ∷ (n, not (eqb n 0)) ∷ [])

refusal_by : (s : List ℕ) → refusal s ≡ number_from (eqb (length s) 61) (eqb (field_at s 486 2) 0) (check_ok s 0 462) (refusal_at s 0)
unfolding read_message answer
refusal_by s = number_back _

neither : (a b c : Bool) (n : ℕ) → number_from a b c n ≢ 1 → number_from a b c n ≢ 2 → number_from a b c n ≢ 7 → (a ≡ true) × (b ≡ true) × (c ≡ true)
neither false b c n p q r = absurd (p refl)
neither true false c n p q r = absurd (q refl)
neither true true false n p q r = absurd (r refl)
neither true true true n p q r = (refl, refl, refl)

-- refused neither 1, 2 nor 7: the length, the closing bits and the check are right
passes : (s : List ℕ) → Passes s → (length s ≡ 61) × (field_at s 486 2 ≡ 0) × (check_ok s 0 462 ≡ true)
passes s p =
    let e = refusal_by s in
    let a = neither _ _ _ (refusal_at s 0) (λ z. p.0 (e ∙ z)) (λ z. p.1 (e ∙ z)) (λ z. p.2 (e ∙ z)) in
    (eqb-true _ _ a.0, eqb-true _ _ a.1, a.2)

-- and where the check alone is wrong, the message is refused 7
wrong_check : (t : List ℕ) → length t ≡ 61 → field_at t 486 2 ≡ 0 → check_ok t 0 462 ≡ false → read_message t ≡ refused_with 7
unfolding read_message answer
wrong_check t a b c = rw (eq-eqb _ _ a, eq-eqb _ _ b, c)

-- CR 8: a run of errors is always caught
pub runs_caught : RunsCaught
runs_caught s t p R =
    let a = passes s p in
    wrong_check t (R.long ∙ a.0)
    (sym (field_ext s t 486 2 (λ j l. past R (486 + j) (omega arith))) ∙ a.1)
    (run_caught 462 _ s t (omega arith) R a.2)
