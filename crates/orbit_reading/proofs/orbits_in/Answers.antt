use native.Mathlib.Omega.{arith}
use borrow.Author.Rules.{rules}
use borrow.Author.Tests.{eq-eqb, ne_eqb}
use Rattle.contents.specs.Parts.{orbits_in}
use Rattle.layout.proofs.LayoutLaws.{from_near}
use Rattle.orbit_reading.proofs.orbits_in.Goals as goal

pub overflow_add-from : goal.overflow_add-from
overflow_add-from c =
    let l = c.args.l in
    omega (arith, c.orbits_from.ensures, from_near l (search rules) (search rules) (search rules) (search rules))

pub read_orbit_part-requires : goal.read_orbit_part-requires
read_orbit_part-requires c =
    let l = c.args.l in
    omega (arith, c.orbits_from.ensures, from_near l (search rules) (search rules) (search rules) (search rules))

pub returns-then-l-eq0 : goal.returns-then-l-eq0
unfolding orbits_in
returns-then-l-eq0 c = rw (eq-eqb _ _ c.if-l-eq0.true) c.no_orbits.ensures

pub returns-else-l-eq0 : goal.returns-else-l-eq0
unfolding orbits_in
returns-else-l-eq0 c = rw (ne_eqb _ _ c.if-l-eq0.false, ← c.orbits_from.ensures) c.read_orbit_part.ensures
