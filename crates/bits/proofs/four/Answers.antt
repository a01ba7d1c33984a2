use mathlib.Core.Path.{◌∙◌}
use native.Mathlib.Omega.{arith}
use Rattle.bits.proofs.WindowLaws.{four_bytes}
use Rattle.bits.proofs.four.Goals as goal

pub returns : goal.returns
returns c = c.from.ensures ∙ c.from_be_bytes.ensures ∙ four_bytes c.args.s.now c.args.j (λ i. omega (arith, c.type_inv.s i))
