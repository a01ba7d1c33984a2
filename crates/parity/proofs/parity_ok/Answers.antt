use Rattle.std.proofs.Common.{eqb, sym, ap, ◌∙◌}
use Rattle.parity.proofs.GroupLaws.{parity_none}
use Rattle.parity.proofs.parity_ok.Goals as goal

pub returns : goal.returns
returns c = ap (λ r. eqb r.failing 0) c.failed_groups.ensures ∙ sym (parity_none _)
