use borrow.Author.Rules.{rules}
use Prim.Native.Nat.{ℕ}
use mathlib.Core.Path.{ap, ◌∙◌}
use mathlib.Core.Option.{Option, none}
use mathlib.Core.List.{List}
use Rattle.sheet_writing.specs.Writing.{sheet_says, sheet_answer, sheet_room}
use Rattle.verdict.proofs.NumberLaws.{handed_on}
use Rattle.table_list.specs.Questions.{sheet_answer_for, sheet_room_for}
use Rattle.table_list.proofs.AskLaws.{alone, answered}
use Rattle.table_list.proofs.write_sheet.Goals as goal

pub returns-in_err-asking_refusal : goal.returns-in_err-asking_refusal
unfolding sheet_answer_for sheet_room_for
returns-in_err-asking_refusal c =
    let e = c.in_err-asking_refusal.ensures in
    let room = c.args.room.now in
    record { answer = ap sheet_says (handed_on _ _ c.from_residual.ensures) ∙ alone {A = ℕ × Option ℕ} (λ (n : ℕ). (n, none)) _ _ _ e; bytes = alone (λ (n : ℕ). room) _ _ _ e }

pub returns : goal.returns
unfolding sheet_answer_for sheet_room_for
returns c =
    let a = c.args in
    let w = c.write_sheet.ensures in
    let l = c.ledger_for.ensures in
    let e = c.in_ok-asking_refusal.ensures in
    record {
      answer = answered _ _ _ e _ (w.answer ∙ ap (λ (s : List ℕ). sheet_answer s a.issues.now a.room.now) l);
      bytes = answered _ _ _ e _ (w.bytes ∙ ap (λ (s : List ℕ). sheet_room s a.issues.now a.room.now) l);
    }
