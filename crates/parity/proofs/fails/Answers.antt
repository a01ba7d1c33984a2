use Rattle.std.proofs.Common.{refl}
use Rattle.parity.specs.Unpacked.{fails_by_logs}
use Rattle.parity.proofs.fails.Goals as goal

pub returns : goal.returns
unfolding fails_by_logs
returns c = rw (c.row.ensures, c.requires.1, c.requires.2) refl
