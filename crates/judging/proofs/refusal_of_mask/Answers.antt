use Rattle.judge.proofs.JudgeLaws.{mask_judged}
use Rattle.judging.proofs.refusal_of_mask.Goals as goal

pub returns : goal.returns
returns c = rw (mask_judged c.args.m, ← c.is_late.ensures) c.refusal_by.ensures
