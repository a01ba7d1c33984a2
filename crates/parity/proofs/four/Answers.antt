use Rattle.std.proofs.Common.{◌∙◌, arith}
use Rattle.bits.proofs.WindowLaws.{four_bytes}
use Rattle.parity.proofs.four.Goals as goal

pub returns-then-j-s : goal.returns-then-j-s
returns-then-j-s c = c.from_be_bytes.ensures ∙ four_bytes c.args.s.now c.args.j (λ i. omega (arith, c.type_inv.s i))
