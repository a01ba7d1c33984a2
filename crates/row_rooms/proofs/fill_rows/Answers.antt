use borrow.Author.Rules.{rules}
use Prim.Native.Nat.{ℕ}
use mathlib.Core.Path.{sym, ap, ◌∙◌}
use mathlib.Core.List.{List}
use Rattle.bits.specs.Bytes.{store_at}
use Rattle.list.specs.Rows.{list_in}
use Rattle.row_calls.specs.Rows.{rows_bytes}
use Rattle.row_calls.proofs.RowsLaws.{filled_none, filled_all}
use Rattle.row_rooms.proofs.fill_rows.Goals as goal

pub returns-then-issues-ne255 : goal.returns-then-issues-ne255
returns-then-issues-ne255 c = let a = c.args in filled_none a.ledger.now a.issues.now a.rows.now c.if-issues-ne255.true

pub returns : goal.returns
returns c =
    let a = c.args in
    c.put_rows.ensures
    ∙ ap (λ (x : List ℕ). store_at x 0 (rows_bytes (list_in a.ledger.now a.issues.now))) c.clear.ensures
    ∙ sym (filled_all a.ledger.now a.issues.now a.rows.now c.if-issues-ne255.false)
