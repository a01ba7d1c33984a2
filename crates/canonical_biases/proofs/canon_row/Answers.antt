use borrow.Author.Rules.{rules}
use Rattle.bits.proofs.MadeLaws.{made_table}
use Rattle.canonical_biases.specs.Canon.{canon_bias, canon_row}
use Rattle.canonical_biases.proofs.canon_row.Goals as goal

pub returns : goal.returns
unfolding canon_row
returns c = made_table (canon_bias c.args.n c.args.bs.now) _ _ _ c.from_fn.ensures.items (λ j y q k. search rules)
