use Rattle.flat_forms.proofs.FlatLaws.{orbits_two}
use Rattle.flat_forms.proofs.put_orbit_part.Goals as goal

pub returns : goal.returns
returns c =
    let a = c.args in
    rw (c.put_orbits.ensures, c.store.ensures, c.orbit_head-head.ensures) (orbits_two a.room.now a.p)
