use borrow.Author.Rules.{rules}
use borrow.Author.Tests.{eq-eqb, ne_eqb, lt-ltb}
use mathlib.Core.Path.{refl}
use Rattle.places.proofs.first_place.Goals as goal

pub returns-then-kind-eq4 : goal.returns-then-kind-eq4
returns-then-kind-eq4 c = rw (eq-eqb _ _ c.if-kind-eq4.true) c.as_place.ensures

pub returns-else-kind-eq4 : goal.returns-else-kind-eq4
returns-else-kind-eq4 c = rw (ne_eqb _ _ c.if-kind-eq4.false, lt-ltb c.args.p.start 65536 (search rules)) refl
