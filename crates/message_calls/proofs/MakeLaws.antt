-- Laws of the functions that make and check frames: where the answer is 0 the room holds the frame, else what it held; the checker's number and its groups.
use mathlib.Core.Path.{◌≡◌, sym, ap, ◌∙◌}
use mathlib.Core.Logic.{◌≢◌, dite}
use mathlib.Core.List.{List}
use Prim.Native.Nat.{ℕ, ◌+◌, ◌*◌}
use native.Mathlib.Decide.{ℕ_discrete}
use native.Mathlib.Omega.{arith}
use borrow.Author.Tests.{eq-eqb, ne_eqb}
use Rattle.verdict.specs.Verdict.{refused_by}
use Rattle.verdict.proofs.NumberLaws.{number_back}
use Rattle.parity.specs.Parity.{failed_groups}
use Rattle.frame.specs.Frame.{frame_says}
use Rattle.frame.proofs.VerdictLaws.{told_alone}
use Rattle.making.specs.Make.{make_refusal, Made, Leaves}
use Rattle.making.specs.Check.{check_refusal}
use Rattle.answers.specs.Detail.{detail_in}
use Rattle.message_calls.specs.Make.{make_answer, check_answer}

module _ (message : List ℕ) (prn flags : ℕ) (room end : List ℕ) (leaves : Leaves message prn flags room end) where
  pub make_given : make_answer message prn flags room ≡ 0 → Made message prn flags end
  make_given e = leaves.made (sym (number_back (make_refusal message prn flags room)) ∙ e)

  pub make_kept : make_answer message prn flags room ≢ 0 → end ≡ room
  make_kept n = leaves.kept (λ e. n (number_back (make_refusal message prn flags room) ∙ e))

-- a number by itself is its own detail
detail_alone : (n : ℕ) → detail_in (refused_by n) ≡ n
detail_alone n = dite (ℕ_discrete n 0) (λ e. rw (eq-eqb n 0 e) (sym e)) (λ z. rw (ne_eqb n 0 z) (omega arith))

module _ (message frame : List ℕ) where
  -- include/quieuvodan.h: with 6 the first failing group and how many fail
  pub check_groups : check_refusal message frame ≡ 6 →
      check_answer message frame ≡ 6 + 256 * (failed_groups frame).first + 65536 * (failed_groups frame).failing
  unfolding frame_says
  check_groups e = rw e

  -- any other answer is the number alone
  pub check_alone : check_refusal message frame ≢ 6 → check_answer message frame ≡ check_refusal message frame
  check_alone n = ap detail_in (told_alone frame (check_refusal message frame) n) ∙ detail_alone (check_refusal message frame)
