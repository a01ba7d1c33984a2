use borrow.Author.Rules.{rules}
use native.Mathlib.Omega.{arith}
use Prim.Native.Nat.{◌+◌, ◌*◌, ◌-◌, ◌≤◌}
use mathlib.Core.Path.{◌≡◌, sym, ap, ◌∙◌, refl}
use lib.ListN.{length}
use Rattle.bits.specs.Bytes.{store_at}
use Rattle.lookback.specs.Walk.{rows_from}
use Rattle.row.specs.Row.{row_says, answer_of}
use Rattle.list.specs.Rows.{row_in, list_in}
use mathlib.Core.Option.{none}
use Rattle.list.proofs.AnswerLaws.{found_le, row_next}
use Rattle.answers.specs.Size.{row_size}
use Rattle.row_calls.specs.Rows.{rows_bytes}
use Rattle.row_calls.proofs.RowsLaws.{rows_turn, rows_over}
use Rattle.row_rooms.proofs.put_rows.Goals as goal

pub loop-i-init : goal.loop-i-init
loop-i-init c = (omega arith, c.requires, refl, refl)

pub loop-i-preserved : goal.loop-i-preserved
loop-i-preserved c =
    let l = c.loop-i in
    let a = c.args in
    let p = c.put_answer-n in
    let e = c.slot_row-a.ensures ∙ ap (answer_of 0) (sym (row_next a.ledger.now a.issues.now l.i)) in (
      omega (arith, p.ensures.count, found_le c.slot_row-a.result),
      l.invariant.1,
      p.auto.rows ∙ l.invariant.2,
      rows_turn (row_in a.ledger.now a.issues.now) l.i l.n p.result l.rows _ _ (omega arith) e p.ensures.count p.ensures.bytes ∙ l.invariant.3,
    )

pub returns : goal.returns
returns c =
    let l = c.loop-i in
    let a = c.args in
    sym (rows_over (row_in a.ledger.now a.issues.now) l.i l.n 0 l.rows l.rows (0, none) (omega arith)) ∙ l.invariant.3
