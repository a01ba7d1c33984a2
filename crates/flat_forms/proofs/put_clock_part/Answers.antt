use Rattle.flat_forms.proofs.FlatLaws.{clocks_two}
use Rattle.flat_forms.proofs.put_clock_part.Goals as goal

pub returns : goal.returns
returns c =
    let a = c.args in
    rw (c.put_clocks.ensures, c.store.ensures, c.clock_head-head.ensures) (clocks_two a.room.now a.p)
