use native.Mathlib.Omega.{arith}
use mathlib.Core.Path.{sym, ◌∙◌}
use lib.ListN.{get_or}
use Rattle.bits.proofs.RowLaws.{rows_step, rows_none}
use Rattle.records.specs.Clock.{blank_clock}
use Rattle.layout.proofs.LayoutLaws.{width_near}
use Rattle.writing.proofs.RoomLaws.{clock_put}
use Rattle.writing.proofs.put_clock_rows.Goals as goal
use Rattle.writing.proofs.put_clock_rows.Goals.{then-slotted, else-slotted}

pub overflow_mul-each : goal.overflow_mul-each
overflow_mul-each c =
    let near = width_near _ c.args.slotted c.loop-i.i c.loop-i.invariant.0 (omega arith) in
    omega arith

pub overflow_add-at : goal.overflow_add-at
overflow_add-at c =
    let near = width_near _ c.args.slotted c.loop-i.i c.loop-i.invariant.0 (omega arith) in
    omega arith

pub loop-i-init : goal.loop-i-init
loop-i-init c = (
  elim c.if-slotted.branch [ then-slotted w ↦ rw w.if-slotted.true w.each-is | else-slotted w ↦ rw w.if-slotted.false w.each-is ],
  c.clock_widths-ws.ensures,
  sym (rows_none _ _ _ _),
)

pub loop-i-preserved : goal.loop-i-preserved
loop-i-preserved c =
    let a = c.args in
    let i = c.loop-i in
    let k = get_or a.ks.now i.i blank_clock in (
      i.invariant.0,
      i.invariant.1,
      rw (rows_step, ← i.invariant.2) (c.puts.ensures ∙ clock_put _ _ _ i.i a.slotted k _ _ i.invariant.0 i.invariant.1 c.clock_vals.ensures),
    )
