use native.Mathlib.Omega.{arith}
use mathlib.Core.Path.{◌∙◌}
use Rattle.flat_numbers.proofs.DigitLaws.{four_bytes}
use Rattle.flat_forms.proofs.mask_head.Goals as goal

pub returns : goal.returns
returns c = rw (c.to_be_bytes.ensures ∙ four_bytes c.args.epoch (omega arith))
