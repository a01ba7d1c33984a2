use mathlib.Core.Path.{sym, ap, ◌∙◌}
use Rattle.verdict.proofs.NumberLaws.{handed_on}
use Rattle.list.proofs.AnswerLaws.{count_refused, count_rows}
use Rattle.sheet_form.specs.declared.Header.{Header}
use Rattle.sheet_reading.proofs.ReadingLaws.{read_wrong, read_right}
use Rattle.sheet_checking.specs.Checking.{checked_says}
use Rattle.sheet_checking.proofs.AnswerLaws.{says_issues, says_no_mask, says_wrong, says_other, says_rows}
use Rattle.sheet_checking.proofs.check_sheet.Goals as goal

pub returns-in_err-ours : goal.returns-in_err-ours
returns-in_err-ours c =
    let p = count_refused _ _ _ c.in_err-ours.ensures in
    ap checked_says (handed_on _ _ c.from_residual.ensures) ∙ says_issues _ _ _ _ p.0 p.1

pub returns-then-not-has_mask : goal.returns-then-not-has_mask
returns-then-not-has_mask c =
    let p = count_rows _ _ _ c.in_ok-ours.ensures in
    says_no_mask _ _ _ p.0 (sym c.has_mask.ensures ∙ c.if-not-has_mask.true)

pub returns-in_err-header : goal.returns-in_err-header
returns-in_err-header c =
    let p = count_rows _ _ _ c.in_ok-ours.ensures in
    let w = read_wrong _ _ _ _ c.in_err-header.ensures in
    ap checked_says (handed_on _ _ c.from_residual-in_err-header.ensures) ∙ says_wrong _ _ _ p.0 (sym c.has_mask.ensures ∙ c.if-not-has_mask.false) _ w

pub returns-then-is_other : goal.returns-then-is_other
returns-then-is_other c =
    let p = count_rows _ _ _ c.in_ok-ours.ensures in
    let w = read_right _ _ _ _ c.in_ok-header.ensures in
    says_other _ _ _ p.0 (sym c.has_mask.ensures ∙ c.if-not-has_mask.false) _ w.0 w.1 (sym c.is_other.ensures ∙ c.if-is_other.true)

pub check_rows-requires : goal.check_rows-requires
check_rows-requires c =
    let p = count_rows _ _ _ c.in_ok-ours.ensures in
    let w = read_right _ _ _ _ c.in_ok-header.ensures in
    (ap (λ (h : Header). h.rows) w.1, p.1)

pub returns : goal.returns
returns c =
    let p = count_rows _ _ _ c.in_ok-ours.ensures in
    let w = read_right _ _ _ _ c.in_ok-header.ensures in
    c.check_rows.ensures
    ∙ says_rows _ _ _ p.0 (sym c.has_mask.ensures ∙ c.if-not-has_mask.false) _ w.0 w.1 (sym c.is_other.ensures ∙ c.if-is_other.false)
