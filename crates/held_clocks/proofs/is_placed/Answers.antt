use Rattle.held_clocks.proofs.ReadLaws.{clock_placed}
use Rattle.held_clocks.proofs.is_placed.Goals as goal

pub returns : goal.returns
returns c =
    let a = c.args in
    rw (c.byte-2.ensures, c.byte.ensures) (clock_placed a.t.now a.slot.0 _ c.offset-at.ensures)
