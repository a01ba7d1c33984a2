use native.Mathlib.Omega.{arith}
use mathlib.Core.Path.{◌∙◌}
use Rattle.flat_numbers.proofs.DigitLaws.{two_bytes}
use Rattle.flat_biases.proofs.sat_bytes.Goals as goal

pub returns : goal.returns
returns c = rw (c.to_be_bytes.ensures ∙ two_bytes c.args.r.slot (omega arith))
