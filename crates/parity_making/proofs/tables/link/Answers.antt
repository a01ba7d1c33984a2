use Rattle.std.proofs.Common.{refl}
use Rattle.parity_making.specs.Walk.{links}
use Rattle.parity_making.proofs.tables.link.Goals as goal

pub returns : goal.returns
unfolding links
returns c = refl
