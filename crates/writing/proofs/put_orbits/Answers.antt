use native.Mathlib.Omega.{arith}
use borrow.Author.Rules.{rules}
use borrow.Author.Tests.{eq-eqb, ne_eqb}
use Rattle.layout.proofs.LayoutLaws.{from_near}
use Rattle.writing.specs.Write.{orbits_put}
use Rattle.writing.proofs.put_orbits.Goals as goal

pub overflow_add-at : goal.overflow_add-at
overflow_add-at c =
    let l = c.args.l in
    omega (arith, c.orbits_from-at.ensures, from_near l (search rules) (search rules) (search rules) (search rules))

pub put_orbit_rows-requires : goal.put_orbit_rows-requires
put_orbit_rows-requires c =
    let l = c.args.l in
    (omega (arith, c.orbits_from-at.ensures, from_near l (search rules) (search rules) (search rules) (search rules)), search rules)

pub returns-then-n-ne0 : goal.returns-then-n-ne0
unfolding orbits_put
returns-then-n-ne0 c =
    rw (ne_eqb _ _ c.if-n-ne0.true, ← c.orbits_from-at.ensures, ← c.put_part_head.ensures) c.put_orbit_rows.ensures

pub returns-else-n-ne0 : goal.returns-else-n-ne0
unfolding orbits_put
returns-else-n-ne0 c = rw (eq-eqb _ _ c.if-n-ne0.false)
