use Rattle.std.proofs.Common.{refl}
use Rattle.parity_making.specs.Walk.{turns}
use Rattle.parity_making.proofs.WalkLaws.{turn_lt}
use Rattle.parity_making.proofs.tables.turn.Goals as goal

pub returns-clause-entry : goal.returns-clause-entry
unfolding turns
returns-clause-entry c = refl

pub returns-clause-within : goal.returns-clause-within
unfolding turns
returns-clause-within c = turn_lt c.args.j c.requires
