use borrow.Author.Rules.{rules}
use mathlib.Core.Path.{◌∙◌}
use Rattle.sheet_calls.proofs.CheckSheetLaws.{check_near, check_sheet_size, check_sheet_right}
use Rattle.quieuvodan.proofs.sheet.qvd_check_sheet.Goals as goal

pub returns-then-ledger-ne-LEDGER_SIZE : goal.returns-then-ledger-ne-LEDGER_SIZE
returns-then-ledger-ne-LEDGER_SIZE c =
    let a = c.args in check_sheet_size a.ledger.now a.issues.now a.sheet.now c.if-ledger-ne-LEDGER_SIZE.true

pub checked-requires : goal.checked-requires
checked-requires c =
    λ at e. let a = c.args in check_near a.ledger.now a.issues.now a.sheet.now at (e ∙ c.check_sheet.ensures)

pub returns : goal.returns
returns c =
    let a = c.args in
    check_sheet_right a.ledger.now a.issues.now a.sheet.now _ _ c.if-ledger-ne-LEDGER_SIZE.false c.check_sheet.ensures c.checked.ensures
