use borrow.Author.Tests.{eq-eqb, ne_eqb}
use Rattle.places.specs.Keeps.{place_says}
use Rattle.places.proofs.no_place.Goals as goal

pub returns-then-kind-eq4 : goal.returns-then-kind-eq4
unfolding place_says
returns-then-kind-eq4 c = rw (eq-eqb _ _ c.if-kind-eq4.true)

pub returns-else-kind-eq4 : goal.returns-else-kind-eq4
unfolding place_says
returns-else-kind-eq4 c = rw (ne_eqb _ _ c.if-kind-eq4.false, c.set_count.ensures)
