use mathlib.Core.Path.{◌∙◌}
use Rattle.bias_writing.proofs.EightLaws.{bias_put}
use Rattle.bias_writing.proofs.put_bias.Goals as goal

pub returns : goal.returns
returns c = c.puts.ensures ∙ rw c.bias_vals.ensures (bias_put _ _ c.args.b)
