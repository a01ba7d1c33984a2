use native.Mathlib.Omega.{arith}
use mathlib.Core.Path.{refl, sym, ap, ◌∙◌}
use Rattle.verdict.specs.Verdict.{refused_says, refused_by}
use Rattle.verdict.proofs.NumberLaws.{none_said, one_said, handed_on}
use Rattle.table_list.proofs.AskLaws.{ask_39, ask_issues, ask_30, ask_0}
use Rattle.table_list.proofs.asking_refusal.Goals as goal

pub returns-then-not-is_table : goal.returns-then-not-is_table
returns-then-not-is_table c = ap refused_by (ask_39 _ _ _ (sym c.is_table.ensures ∙ c.if-not-is_table.true))

pub returns-in_err-issues_refusal : goal.returns-in_err-issues_refusal
returns-in_err-issues_refusal c =
    let e = c.in_err-issues_refusal.ensures in
    let k = one_said _ _ e in
    ap refused_says (handed_on _ _ c.from_residual.ensures)
    ∙ e ∙ ap refused_by (ask_issues _ _ _ (sym c.is_table.ensures ∙ c.if-not-is_table.false) _ refl k.1)

pub returns-then-room_of-ge-ROOMS : goal.returns-then-room_of-ge-ROOMS
returns-then-room_of-ge-ROOMS c =
    ap refused_by (ask_30 _ _ _ (sym c.is_table.ensures ∙ c.if-not-is_table.false) (none_said _ c.in_ok-issues_refusal.ensures)
    (omega (arith, c.room_of.ensures, c.if-room_of-ge-ROOMS.true)))

pub returns : goal.returns
returns c =
    ap refused_by (ask_0 _ _ _ (sym c.is_table.ensures ∙ c.if-not-is_table.false) (none_said _ c.in_ok-issues_refusal.ensures)
    (omega (arith, c.room_of.ensures, c.if-room_of-ge-ROOMS.false)))
