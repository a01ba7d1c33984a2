use borrow.Author.Tests.{ne_eqb}
use native.Mathlib.Omega.{arith}
use mathlib.Core.Path.{ap, ◌∙◌}
use Rattle.verdict.specs.Verdict.{says}
use Rattle.verdict.proofs.NumberLaws.{none_said, one_said, handed_on}
use Rattle.joining.proofs.JoinLaws.{join_fits}
use Rattle.joining.proofs.join.Goals as goal

pub returns-in_err-refusal_of : goal.returns-in_err-refusal_of
returns-in_err-refusal_of c =
    let e = c.in_err-refusal_of.ensures in
    let k = one_said _ _ e in
    record { verdict = ap says (handed_on _ _ c.from_residual.ensures) ∙ e; entries = rw (ne_eqb _ _ k.1) }

pub overflow_sub-issues : goal.overflow_sub-issues
overflow_sub-issues c = let z = join_fits _ _ _ (none_said _ c.in_ok-refusal_of.ensures) in omega arith

pub bounds-issues-prn : goal.bounds-issues-prn
bounds-issues-prn c = let z = join_fits _ _ _ (none_said _ c.in_ok-refusal_of.ensures) in omega arith

pub returns : goal.returns
returns c = let z = none_said _ c.in_ok-refusal_of.ensures in record { verdict = c.in_ok-refusal_of.ensures; entries = rw z }
