use mathlib.Core.Path.{refl}
use Rattle.row.specs.Row.{is_assigned}
use Rattle.row.proofs.is_assigned.Goals as goal

pub returns : goal.returns
unfolding is_assigned
returns c = refl
