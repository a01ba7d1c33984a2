use native.Mathlib.Omega.{arith}
use mathlib.Core.Path.{sym}
use Rattle.lent.proofs.HeldLaws.{put_none, put_slot}
use Rattle.held_clocks.specs.Clocks.{held_clock_of, held_clock_bytes}
use Rattle.held_clocks.proofs.ClockLaws.{clock_long}
use Rattle.held_clocks.proofs.put_clock.Goals as goal

pub returns-then-slot-eq0 : goal.returns-then-slot-eq0
returns-then-slot-eq0 c = sym (put_none held_clock_of held_clock_bytes 12 clock_long _ 36 _ _ (omega arith))

pub returns : goal.returns
returns c =
    let a = c.args in
    rw (c.store.ensures, c.offset.ensures, c.clock_bytes.ensures) (sym (put_slot held_clock_of held_clock_bytes 12 clock_long a.t.now 36 a.slot.0 a.h (omega arith) (omega arith)))
