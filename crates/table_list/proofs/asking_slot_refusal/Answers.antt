use borrow.Author.Rules.{rules}
use mathlib.Core.Path.{sym, ap, ◌∙◌}
use Rattle.verdict.specs.Verdict.{refused_by}
use Rattle.table_list.proofs.AskLaws.{slot_39, slot_1, slot_11, slot_rest}
use Rattle.table_list.proofs.asking_slot_refusal.Goals as goal

pub returns-then-not-is_table : goal.returns-then-not-is_table
returns-then-not-is_table c = ap refused_by (slot_39 _ _ _ _ (sym c.is_table.ensures ∙ c.if-not-is_table.true))

pub returns-then-issues-ne255 : goal.returns-then-issues-ne255
returns-then-issues-ne255 c =
    ap refused_by (slot_1 _ _ _ _ (sym c.is_table.ensures ∙ c.if-not-is_table.false) c.if-issues-ne255.true)

pub returns-then-slot : goal.returns-then-slot
returns-then-slot c =
    ap refused_by (slot_11 _ _ _ _ (sym c.is_table.ensures ∙ c.if-not-is_table.false) c.if-issues-ne255.false c.if-slot.true)

pub returns : goal.returns
returns c =
    c.asking_refusal.ensures
    ∙ ap refused_by (slot_rest _ _ _ _ (sym c.is_table.ensures ∙ c.if-not-is_table.false) c.if-issues-ne255.false c.if-slot.false)
