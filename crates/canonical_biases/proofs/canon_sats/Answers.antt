use borrow.Author.Rules.{rules}
use Rattle.bits.proofs.MadeLaws.{made_table}
use Rattle.canonical_biases.specs.Canon.{canon_sat, canon_sats}
use Rattle.canonical_biases.proofs.canon_sats.Goals as goal

pub returns : goal.returns
unfolding canon_sats
returns c = made_table (canon_sat c.args.n c.args.rs.now) _ _ _ c.from_fn.ensures.items (λ j y q k. search rules)
