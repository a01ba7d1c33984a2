use mathlib.Core.Path.{ap, ◌∙◌}
use Rattle.verdict.proofs.NumberLaws.{handed_on}
use Rattle.message.specs.Read.{reading_says}
use Rattle.frame.proofs.VerdictLaws.{way_shut, way_open}
use Rattle.frame.proofs.read_with.Goals as goal

pub returns-in_err-shell_verdict : goal.returns-in_err-shell_verdict
returns-in_err-shell_verdict c =
    ap reading_says (handed_on _ _ c.from_residual.ensures) ∙ way_shut c.args.foreign c.args.f.now _ c.in_err-shell_verdict.ensures

pub returns : goal.returns
returns c = way_open c.args.foreign c.args.f.now _ c.in_ok-shell_verdict.ensures c.read_at.ensures
