use Rattle.judge.proofs.JudgeLaws.{codes_judged}
use Rattle.judging.proofs.refusal_of_codes.Goals as goal

pub returns : goal.returns
returns c = rw (codes_judged c.args.u, ← c.is_late.ensures) c.refusal_by.ensures
