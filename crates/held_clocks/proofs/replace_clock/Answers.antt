use native.Mathlib.Omega.{arith}
use mathlib.Core.Path.{sym, ◌∙◌}
use Rattle.newest.proofs.RowLaws.{came_yes, came_no}
use Rattle.held_clocks.specs.Clocks.{clock_replaces, no_clock, held_clock_of, held_clock_bytes}
use Rattle.held_clocks.proofs.ClockLaws.{clock_long, clock_comes}
use Rattle.held_clocks.proofs.replace_clock.Goals as goal

pub returns-then-replaces : goal.returns-then-replaces
returns-then-replaces c =
    let a = c.args in
    let came = sym (clock_comes a.t.now a.slot.0 a.h) ∙ sym c.replaces.ensures ∙ c.if-replaces.true in
    rw (c.store.ensures, c.offset.ensures, c.clock_bytes.ensures)
    (came_yes clock_replaces no_clock held_clock_of held_clock_bytes 12 clock_long a.t.now 36 a.slot.0 a.h came (omega arith))

pub returns-else-replaces : goal.returns-else-replaces
returns-else-replaces c =
    let a = c.args in
    let stayed = sym (clock_comes a.t.now a.slot.0 a.h) ∙ sym c.replaces.ensures ∙ c.if-replaces.false in
    came_no clock_replaces no_clock held_clock_of held_clock_bytes 12 clock_long a.t.now 36 a.slot.0 a.h stayed
