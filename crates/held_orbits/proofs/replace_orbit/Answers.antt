use native.Mathlib.Omega.{arith}
use mathlib.Core.Path.{sym, ◌∙◌}
use Rattle.newest.proofs.RowLaws.{came_yes, came_no}
use Rattle.held_orbits.specs.Orbits.{orbit_replaces, no_orbit, held_orbit_of, held_orbit_bytes}
use Rattle.held_orbits.proofs.OrbitLaws.{orbit_long, orbit_row_comes}
use Rattle.held_orbits.proofs.replace_orbit.Goals as goal

pub returns-then-not-replaces : goal.returns-then-not-replaces
returns-then-not-replaces c =
    let a = c.args in
    let stayed = sym (orbit_row_comes a.t.now a.slot.0 a.h) ∙ sym c.replaces.ensures ∙ c.if-not-replaces.true in record {
      came = sym stayed;
      bytes = came_no orbit_replaces no_orbit held_orbit_of held_orbit_bytes 24 orbit_long a.t.now 3096 a.slot.0 a.h stayed;
    }

pub returns : goal.returns
returns c =
    let a = c.args in
    let came = sym (orbit_row_comes a.t.now a.slot.0 a.h) ∙ sym c.replaces.ensures ∙ c.if-not-replaces.false in record {
      came = sym came;
      bytes = rw (c.store.ensures, c.offset.ensures, c.orbit_bytes.ensures)
          (came_yes orbit_replaces no_orbit held_orbit_of held_orbit_bytes 24 orbit_long a.t.now 3096 a.slot.0 a.h came (omega arith));
    }
