use borrow.Author.Rules.{rules}
use native.Mathlib.Omega.{arith}
use mathlib.Core.Path.{sym, ◌∙◌, refl}
use Rattle.records.specs.Orbit.{blank_orbit}
use Rattle.records.specs.declared.orbit.Orbit.{Orbit}
use Rattle.places.specs.Keeps.{held_orbit, orbits_of}
use Rattle.places.proofs.KeepLaws.{length_mapped, slot_step, slot_end}
use Rattle.in_force.specs.Bytes.{kept_orbit}
use Rattle.in_force.proofs.KeptLaws.{kept_orbit_named}
use Rattle.keeping.proofs.orbits_by_slot.Goals as goal

pub loop-o-init : goal.loop-o-init
loop-o-init c = (search (rules, length_mapped), refl, refl)

pub loop-o-preserved : goal.loop-o-preserved
loop-o-preserved c =
    let l = c.loop-o in
    let p = c.args.p in
    let put = rw (c.held_orbit-h.ensures, c.slot_named.ensures) at c.keep_orbit.ensures in (
      l.invariant.0,
      c.keep_orbit.auto.t ∙ l.invariant.1,
      rw put (sym (slot_step kept_orbit (held_orbit p.epoch p.ssr) p.orbits l.o-index blank_orbit l.t (λ (o : Orbit). o.slot) (kept_orbit_named l.t) (omega arith)) ∙ l.invariant.2),
    )

pub returns : goal.returns
unfolding orbits_of
returns c =
    let l = c.loop-o in
    let p = c.args.p in
    sym (slot_end kept_orbit (held_orbit p.epoch p.ssr) p.orbits l.o-index blank_orbit l.t (λ (o : Orbit). o.slot) (omega arith)) ∙ l.invariant.2
