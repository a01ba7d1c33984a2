use mathlib.Core.Path.{◌∙◌}
use Rattle.bias_writing.proofs.EightLaws.{sat_eight}
use Rattle.bias_writing.proofs.sat_fits.Goals as goal

pub returns : goal.returns
returns c = rw c.sat_vals.ensures at c.row_fits.ensures ∙ sat_eight _
