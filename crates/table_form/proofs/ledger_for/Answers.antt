use borrow.Author.Rules.{rules}
use native.Mathlib.Omega.{arith}
use Prim.Native.Nat.{◌≤◌}
use mathlib.Core.Path.{◌≡◌, sym, ◌∙◌}
use lib.ListN.{length}
use Rattle.table_form.specs.Table.{table_size, ledger_for}
use Rattle.table_form.proofs.RoomLaws.{table_long, of_le, ledger_own, ledger_none}
use Rattle.table_form.proofs.ledger_for.Goals as goal

pub returns-then-not-is_table : goal.returns-then-not-is_table
unfolding ledger_for
returns-then-not-is_table c = rw (sym c.is_table.ensures ∙ c.if-not-is_table.true)

pub overflow_mul-a : goal.overflow_mul-a
overflow_mul-a c = omega (arith, of_le c.args.t.now c.args.prn, c.room_of-a.ensures)

pub slice_bounds-result-end-then-a-eq-TABLE_SIZE : goal.slice_bounds-result-end-then-a-eq-TABLE_SIZE
slice_bounds-result-end-then-a-eq-TABLE_SIZE c =
    let long = table_long _ (sym c.is_table.ensures ∙ c.if-not-is_table.false) in
    omega (arith, long, of_le c.args.t.now c.args.prn, c.room_of-a.ensures)

pub slice_bounds-result-end-2 : goal.slice_bounds-result-end-2
slice_bounds-result-end-2 c =
    let long = table_long _ (sym c.is_table.ensures ∙ c.if-not-is_table.false) in
    omega (arith, long, of_le c.args.t.now c.args.prn, c.room_of-a.ensures)

pub returns-then-a-eq-TABLE_SIZE : goal.returns-then-a-eq-TABLE_SIZE
returns-then-a-eq-TABLE_SIZE c = ledger_none _ _ _ (sym c.is_table.ensures ∙ c.if-not-is_table.false) c.room_of-a.ensures c.if-a-eq-TABLE_SIZE.true

pub overflow_add-e : goal.overflow_add-e
overflow_add-e c = omega (arith, of_le c.args.t.now c.args.prn, c.room_of-a.ensures)

pub returns : goal.returns
returns c = ledger_own _ _ _ (sym c.is_table.ensures ∙ c.if-not-is_table.false) c.room_of-a.ensures
