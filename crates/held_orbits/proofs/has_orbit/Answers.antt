use Rattle.held_orbits.proofs.ReadLaws.{orbit_has}
use Rattle.held_orbits.proofs.has_orbit.Goals as goal

pub returns : goal.returns
returns c =
    let a = c.args in
    rw c.byte.ensures (orbit_has a.t.now a.slot.0 _ c.offset.ensures)
