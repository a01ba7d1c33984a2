use Rattle.std.proofs.Common.{rules}
use Rattle.bits.proofs.MadeLaws.{made_table}
use Rattle.parity_making.specs.Walk.{adds, added}
use Rattle.parity_making.proofs.all_added.Goals as goal

pub returns : goal.returns
unfolding added
returns c = made_table (adds c.args.m.now) _ _ _ c.from_fn.ensures.items (λ j y q k. search rules)
