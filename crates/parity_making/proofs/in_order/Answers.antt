use Rattle.std.proofs.Common.{ℕ, get_or, rules}
use Rattle.bits.proofs.MadeLaws.{made_table}
use Rattle.parity_making.specs.Walk.{turns}
use Rattle.parity_making.proofs.in_order.Goals as goal

pub returns : goal.returns
returns c = made_table (λ (j : ℕ). get_or c.args.y.now (get_or turns j 0) 0) _ _ _ c.from_fn.ensures.items (λ j y q k. search rules)
