use borrow.Author.Rules.{rules}
use Rattle.from_flat.specs.Read.{flat_orbits_in}
use Rattle.from_flat.proofs.read_orbit_part.Goals as goal

pub returns : goal.returns
unfolding flat_orbits_in
returns c = rw (c.read_orbits-orbits.ensures, c.byte-count.ensures, c.byte-ssr.ensures, c.four-epoch.ensures)
