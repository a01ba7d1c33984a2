use mathlib.Core.Path.{ap, ◌∙◌}
use Rattle.judge.specs.Judge.{refusal_at}
use Rattle.verdict.specs.declared.Refusal.TheVariants.{Number}
use Rattle.verdict.proofs.NumberLaws.{handed_on}
use Rattle.message.specs.Read.{reading_says}
use Rattle.message.proofs.AnswerLaws.{answer_good, answer_bad}
use Rattle.message.proofs.read_at.Goals as goal

pub returns-in_err-refusal_of : goal.returns-in_err-refusal_of
unfolding refusal_at
returns-in_err-refusal_of c =
    rw (← c.end_at.ensures, ← c.contents_at-c.ensures)
    (ap reading_says (handed_on _ _ c.from_residual.ensures) ∙ answer_bad _ c.contents_at-c.result (Number _) c.in_err-refusal_of.ensures)

pub returns : goal.returns
unfolding refusal_at
returns c = rw (← c.end_at.ensures, ← c.contents_at-c.ensures) (answer_good _ c.contents_at-c.result c.in_ok-refusal_of.ensures)
