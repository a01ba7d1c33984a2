use borrow.Author.Rules.{rules}
use Prim.Native.Nat.{ℕ, ◌≤◌}
use mathlib.Core.Path.{sym, ◌∙◌, subst}
use lib.ListN.{length}
use Rattle.broadcast.proofs.IssueLaws.{issues_long}
use Rattle.list.specs.Rows.{list_in, most_rows}
use Rattle.list.proofs.FitsLaws.{list_fits}
use Rattle.sheet_form.specs.Layout.{sheet_length}
use Rattle.sheet_writing.proofs.AnswerLaws.{right_20, right_22, right_written}
use Rattle.sheet_writing.proofs.write_list.Goals as goal

pub returns-then-not-has_mask : goal.returns-then-not-has_mask
returns-then-not-has_mask c =
    let a = c.args in
    let p = right_20 a.ledger.now a.issues.now a.room.now c.requires.0 _ c.requires.1 (sym c.has_mask.ensures ∙ c.if-not-has_mask.true) in
    record { answer = p.0; bytes = p.1 }

pub returns-then-room-size : goal.returns-then-room-size
returns-then-room-size c =
    let a = c.args in
    let p = right_22 a.ledger.now a.issues.now a.room.now c.requires.0 _ c.requires.1 (sym c.has_mask.ensures ∙ c.if-not-has_mask.false) c.if-room-size.true in
    record { answer = p.0; bytes = p.1 }

pub put_sheet-requires : goal.put_sheet-requires
put_sheet-requires c =
    (issues_long _ c.requires.0, subst (λ (k : ℕ). sheet_length k ≤ length c.args.room.now) c.requires.1 c.if-room-size.false)

pub overflow_cast-result : goal.overflow_cast-result
overflow_cast-result c =
    let e = c.requires.1 in
    let f : length (list_in c.args.ledger.now c.args.issues.now) ≤ most_rows = list_fits c.args.ledger.now c.args.issues.now in
    search rules

pub returns : goal.returns
returns c =
    let a = c.args in
    let p =
    right_written a.ledger.now a.issues.now a.room.now c.requires.0 _ c.requires.1 (sym c.has_mask.ensures ∙ c.if-not-has_mask.false)
    _ _ c.if-room-size.false c.header_of-h.ensures c.put_sheet.ensures in
    record { answer = p.0; bytes = p.1 }
