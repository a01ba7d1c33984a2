use Rattle.std.proofs.Common.{refl}
use Rattle.parity_making.specs.Walk.{carries}
use Rattle.parity_making.proofs.tables.carry.Goals as goal

pub returns : goal.returns
unfolding carries
returns c = refl
