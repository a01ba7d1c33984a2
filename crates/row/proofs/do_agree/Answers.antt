use mathlib.Core.Path.{refl}
use Rattle.row.specs.Row.{agrees}
use Rattle.row.proofs.do_agree.Goals as goal

pub returns : goal.returns
unfolding agrees
returns c = refl
