use borrow.Author.Tests.{ne_eqb}
use mathlib.Core.Path.{ap, ◌∙◌}
use Rattle.verdict.proofs.NumberLaws.{none_said, one_said, handed_on}
use Rattle.subframe2.specs.Read.{answer, subframe2_says}
use Rattle.subframe2.proofs.read.Goals as goal

pub returns-in_err-refusal_of : goal.returns-in_err-refusal_of
unfolding answer
returns-in_err-refusal_of c =
    let e = c.in_err-refusal_of.ensures in
    let k = one_said _ _ e in
    ap subframe2_says (handed_on _ _ c.from_residual.ensures) ∙ rw (e, ne_eqb _ _ k.1)

pub returns : goal.returns
unfolding answer
returns c = let z = none_said _ c.in_ok-refusal_of.ensures in rw (z, c.fields_of.ensures)
