use native.Mathlib.Omega.{arith}
use mathlib.Core.Path.{ap, ◌∙◌}
use Rattle.in_force.specs.Bytes.{take_says, take_bytes}
use Rattle.in_force.proofs.LogLaws.{start_in, piece_whole, piece_last}
use Rattle.ledger.proofs.replay.take_nth.Goals.{then-left-lt125, else-left-lt125}
use Rattle.ledger.proofs.replay.take_nth.Goals as goal

-- the frame begins within the log
pub overflow_sub-left : goal.overflow_sub-left
overflow_sub-left c = let a = c.args in omega (arith, start_in a.log.now a.i _ c.frame_start-a.ensures)

pub overflow_add-e : goal.overflow_add-e
overflow_add-e c = let a = c.args in omega (arith, start_in a.log.now a.i _ c.frame_start-a.ensures)

pub slice_bounds-take_in-count : goal.slice_bounds-take_in-count
slice_bounds-take_in-count c =
    let a = c.args in
    let l = start_in a.log.now a.i _ c.frame_start-a.ensures in
    elim c.if-left-lt125.branch [ then-left-lt125 w ↦ omega arith | else-left-lt125 w ↦ omega arith ]

pub slice_bounds-take_in-start : goal.slice_bounds-take_in-start
slice_bounds-take_in-start c =
    let a = c.args in
    let l = start_in a.log.now a.i _ c.frame_start-a.ensures in
    elim c.if-left-lt125.branch [ then-left-lt125 w ↦ omega arith | else-left-lt125 w ↦ omega arith ]

pub slice_bounds-take_in-end : goal.slice_bounds-take_in-end
slice_bounds-take_in-end c =
    let a = c.args in
    let l = start_in a.log.now a.i _ c.frame_start-a.ensures in
    elim c.if-left-lt125.branch [ then-left-lt125 w ↦ omega arith | else-left-lt125 w ↦ omega arith ]

pub returns : goal.returns
returns c =
    let a = c.args in
    let t = c.take_in.ensures in
    let start = c.frame_start-a.ensures in
    let last = piece_last a.log.now a.i _ start in
    let whole = piece_whole a.log.now a.i _ start in record {
      verdict = t.verdict ∙ ap (take_says a.t.now) (elim c.if-left-lt125.branch [ then-left-lt125 w ↦ rw w.e-is (last w.if-left-lt125.true) | else-left-lt125 w ↦ rw w.e-is whole ]);
      bytes = t.bytes ∙ ap (take_bytes a.t.now) (elim c.if-left-lt125.branch [ then-left-lt125 w ↦ rw w.e-is (last w.if-left-lt125.true) | else-left-lt125 w ↦ rw w.e-is whole ]);
    }
