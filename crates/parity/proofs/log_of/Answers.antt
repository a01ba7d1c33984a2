use Rattle.std.proofs.Common.{rules}
use Rattle.field64.proofs.PaddedLaws.{pad_at}
use Rattle.parity.proofs.log_of.Goals as goal

pub returns : goal.returns
returns c = rw c.padded_log.ensures (pad_at _ (search rules))
