use Rattle.check24.proofs.EightLaws.{by_eights}
use Rattle.check24.proofs.shift8.Goals as goal

pub returns : goal.returns
returns c = rw c.eight.ensures (by_eights c.args.r c.requires)
