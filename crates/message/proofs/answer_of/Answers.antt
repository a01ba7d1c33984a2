use mathlib.Core.Path.{ap, ◌∙◌}
use Rattle.verdict.proofs.NumberLaws.{handed_on}
use Rattle.message.specs.Read.{reading_says}
use Rattle.message.proofs.AnswerLaws.{answer_good, answer_bad}
use Rattle.message.proofs.answer_of.Goals as goal

pub returns-in_err-verdict_of : goal.returns-in_err-verdict_of
returns-in_err-verdict_of c =
    ap reading_says (handed_on _ _ c.from_residual.ensures) ∙ answer_bad c.args.n c.args.c _ c.in_err-verdict_of.ensures

pub returns : goal.returns
returns c = answer_good c.args.n c.args.c c.in_ok-verdict_of.ensures
