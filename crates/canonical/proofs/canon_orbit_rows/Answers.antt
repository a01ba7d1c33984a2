use borrow.Author.Rules.{rules}
use Rattle.bits.proofs.MadeLaws.{made_table}
use Rattle.canonical.specs.Canon.{canon_orbit_nth, canon_orbit_rows}
use Rattle.canonical.proofs.canon_orbit_rows.Goals as goal

pub returns : goal.returns
unfolding canon_orbit_rows
returns c = made_table (canon_orbit_nth c.args.n c.args.os.now) _ _ _ c.from_fn.ensures.items (λ j y q k. search rules)
