use borrow.Author.Rules.{rules}
use mathlib.Core.Path.{ap, ◌∙◌}
use Rattle.answers.specs.Detail.{detail_in}
use Rattle.quieuvodan.proofs.qvd_check_frame.Goals as goal

pub returns : goal.returns
returns c = c.detail.ensures ∙ ap detail_in c.check.ensures
