use borrow.Author.Rules.{rules}
use Rattle.bits.proofs.MadeLaws.{made_table}
use Rattle.contents.specs.Parts.{orbits_at, orbit_nth}
use Rattle.orbit_reading.proofs.read_orbits.Goals as goal

pub returns : goal.returns
unfolding orbits_at
returns c = made_table (orbit_nth c.args.s.now c.args.at c.args.count) _ _ _ c.from_fn.ensures.items (λ j y q k. search rules)
