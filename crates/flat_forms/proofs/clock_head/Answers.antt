use native.Mathlib.Omega.{arith}
use mathlib.Core.Path.{◌∙◌}
use Rattle.flat_numbers.proofs.DigitLaws.{two_bytes, four_bytes}
use Rattle.flat_forms.proofs.clock_head.Goals as goal

pub returns : goal.returns
returns c =
    let a = c.args in
    rw (c.to_be_bytes.ensures ∙ four_bytes a.epoch (omega arith), c.to_be_bytes-2.ensures ∙ two_bytes a.start (omega arith))
