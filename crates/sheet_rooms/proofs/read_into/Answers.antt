use borrow.Author.Rules.{rules}
use native.Mathlib.Omega.{arith}
use Prim.Native.Nat.{ℕ, ◌+◌, ◌*◌, ◌≤◌}
use mathlib.Core.Path.{◌≡◌, sym, ap, ◌∙◌}
use mathlib.Core.Bool.{true}
use mathlib.Core.List.{List}
use Rattle.bits.specs.Bytes.{store_at}
use Rattle.sheet_form.specs.Reading.{rows_said_from}
use Rattle.sheet_writing.specs.Writing.{most_sheet_rows}
use Rattle.sheet_reading.specs.Answer.{read_says, read_answer}
use Rattle.sheet_reading.proofs.ReadingLaws.{wrong}
use Rattle.row_calls.specs.Rows.{rows_bytes}
use Rattle.sheet_calls.proofs.SheetLaws.{answer_near, read_header_size, read_rows_size, read_wrong, read_right}
use Rattle.sheet_rooms.proofs.read_into.Goals as goal

pub returns-then-header-ne-SHEET_HEADER_SIZE : goal.returns-then-header-ne-SHEET_HEADER_SIZE
returns-then-header-ne-SHEET_HEADER_SIZE c =
    let a = c.args in
    let p = read_header_size a.sheet.now a.header.now a.rows.now c.if-header-ne-SHEET_HEADER_SIZE.true in
    record { answer = p.0; header = p.1.0; rows = p.1.1 }

pub returns-then-rows-ne-ROWS_SIZE : goal.returns-then-rows-ne-ROWS_SIZE
returns-then-rows-ne-ROWS_SIZE c =
    let a = c.args in
    let p = read_rows_size a.sheet.now a.header.now a.rows.now c.if-header-ne-SHEET_HEADER_SIZE.false c.if-rows-ne-ROWS_SIZE.true in
    record { answer = p.0; header = p.1.0; rows = p.1.1 }

pub overflow_mul-result : goal.overflow_mul-result
overflow_mul-result c =
    let e : read_says (wrong c.in-Err.field-0.0) ≡ read_answer most_sheet_rows true c.args.sheet.now = sym (ap read_says c.in-Err.is) ∙ c.read_sheet-a.ensures in
    omega (arith, answer_near most_sheet_rows true c.args.sheet.now c.in-Err.field-0.0 e)

pub overflow_add-result : goal.overflow_add-result
overflow_add-result c =
    let e : read_says (wrong c.in-Err.field-0.0) ≡ read_answer most_sheet_rows true c.args.sheet.now = sym (ap read_says c.in-Err.is) ∙ c.read_sheet-a.ensures in
    omega (arith, answer_near most_sheet_rows true c.args.sheet.now c.in-Err.field-0.0 e)

pub returns-in-Err : goal.returns-in-Err
returns-in-Err c =
    let e : read_says (wrong c.in-Err.field-0.0) ≡ read_answer most_sheet_rows true c.args.sheet.now = sym (ap read_says c.in-Err.is) ∙ c.read_sheet-a.ensures in
    let a = c.args in
    let p = read_wrong a.sheet.now a.header.now a.rows.now c.if-header-ne-SHEET_HEADER_SIZE.false c.if-rows-ne-ROWS_SIZE.false c.in-Err.field-0.0 e in
    record { answer = p.0; header = p.1.0; rows = p.1.1 }

pub returns-in-Ok : goal.returns-in-Ok
returns-in-Ok c =
    let a = c.args in
    let p = read_right a.sheet.now a.header.now a.rows.now c.if-header-ne-SHEET_HEADER_SIZE.false c.if-rows-ne-ROWS_SIZE.false c.in-Ok.h _ _ (sym (ap read_says c.in-Ok.is) ∙ c.read_sheet-a.ensures) c.put_header.ensures (c.put_rows.ensures ∙ ap (λ (x : List ℕ). store_at x 0 (rows_bytes (rows_said_from a.sheet.now c.in-Ok.h.rows 8))) c.clear.ensures) in
    record { answer = p.0; header = p.1.0; rows = p.1.1 }
