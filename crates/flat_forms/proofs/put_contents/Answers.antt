use Rattle.flat_forms.proofs.FlatLaws.{contents_four}
use Rattle.flat_forms.proofs.put_contents.Goals as goal

pub returns : goal.returns
returns c =
    let a = c.args in
    rw (c.put_last_parts.ensures, c.put_orbit_part.ensures, c.put_clock_part.ensures, c.put_mask_part.ensures)
    (contents_four a.room.now a.c)
