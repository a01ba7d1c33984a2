use mathlib.Core.Path.{◌∙◌}
use Rattle.bias_writing.proofs.EightLaws.{bias_eight}
use Rattle.bias_writing.proofs.bias_fits.Goals as goal

pub returns : goal.returns
returns c = rw c.bias_vals.ensures at c.row_fits.ensures ∙ bias_eight c.args.b
