use mathlib.Core.Path.{◌≡◌}
use lib.ListN.{length, drop}
use Rattle.records.specs.declared.orbit.Orbit.{Orbit}
use Rattle.places.specs.Keeps.{held_orbit, by_slot}
use Rattle.in_force.specs.Bytes.{kept_orbits}
use Rattle.keeping.proofs.orbits_by_slot.Given as goal

abbrev pub invariant-loop-o : goal.invariant-loop-o
invariant-loop-o l =
    (length l.fn.p.orbits ≡ 6) × (length l.t ≡ length l.initial.t) × (kept_orbits l.t (by_slot (λ (o : Orbit). o.slot) (held_orbit l.fn.p.epoch l.fn.p.ssr) (drop l.o-index l.fn.p.orbits)) ≡ kept_orbits l.initial.t (by_slot (λ (o : Orbit). o.slot) (held_orbit l.fn.p.epoch l.fn.p.ssr) l.fn.p.orbits))
