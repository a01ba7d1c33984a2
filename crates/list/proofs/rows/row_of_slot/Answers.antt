use mathlib.Core.Path.{sym, ap, ◌∙◌}
use Rattle.row.specs.Row.{row_says}
use Rattle.list.proofs.AnswerLaws.{slot_len, slot_zero, slot_high, slot_bad, slot_right}
use Rattle.verdict.proofs.NumberLaws.{none_said, one_said, handed_on}
use Rattle.list.proofs.rows.row_of_slot.Goals as goal

pub returns-then-issues-ne255 : goal.returns-then-issues-ne255
returns-then-issues-ne255 c = sym (slot_len _ _ _ c.if-issues-ne255.true)

pub returns-then-slot-eq0 : goal.returns-then-slot-eq0
returns-then-slot-eq0 c = sym (slot_zero _ _ c.if-issues-ne255.false _ c.if-slot-eq0.true)

pub returns-then-slot-gt255 : goal.returns-then-slot-gt255
returns-then-slot-gt255 c = sym (slot_high _ _ c.if-issues-ne255.false _ c.if-slot-eq0.false c.if-slot-gt255.true)

pub returns-in_err-issues_refusal : goal.returns-in_err-issues_refusal
returns-in_err-issues_refusal c =
    let k = one_said _ _ c.in_err-issues_refusal.ensures in
    ap row_says (handed_on _ _ c.from_residual.ensures) ∙ rw k.0 (sym (slot_bad _ _ c.if-issues-ne255.false _ c.if-slot-eq0.false c.if-slot-gt255.false k.1))

pub returns : goal.returns
returns c =
    c.slot_row.ensures ∙ sym (slot_right _ _ c.if-issues-ne255.false _ c.if-slot-eq0.false c.if-slot-gt255.false (none_said _ c.in_ok-issues_refusal.ensures))
