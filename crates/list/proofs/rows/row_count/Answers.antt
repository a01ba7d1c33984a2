use borrow.Author.Rules.{rules}
use native.Mathlib.Omega.{arith}
use Prim.Native.Nat.{ℕ, ◌+◌}
use mathlib.Core.Path.{◌≡◌, sym, ap, ◌∙◌}
use lib.ListN.{length, get_or}
use Rattle.lookback.specs.Walk.{count_from, to_list}
use Rattle.lookback.proofs.WalkLaws.{count_step, count_end, count_length}
use mathlib.Core.Option.{Option}
use Rattle.row.specs.Row.{row_held}
use Rattle.list.specs.Rows.{row_in, found_count, count_says}
use Rattle.row.specs.declared.Row.{Row}
use Rattle.std.specs.Prelude.{Ok}
use Rattle.list.proofs.AnswerLaws.{count_bad, count_right, count_one, found_le, row_next}
use Rattle.broadcast.proofs.IssueLaws.{issues_long}
use Rattle.verdict.proofs.NumberLaws.{none_said, one_said, handed_on}
use Rattle.list.proofs.rows.row_count.Goals as goal

pub returns-in_err-issues_refusal : goal.returns-in_err-issues_refusal
returns-in_err-issues_refusal c =
    let k = one_said _ _ c.in_err-issues_refusal.ensures in
    ap count_says (handed_on _ _ c.from_residual.ensures) ∙ rw k.0 (sym (count_bad _ _ k.1))

pub loop-i-init : goal.loop-i-init
loop-i-init c =
    (search rules, issues_long _ (none_said _ c.in_ok-issues_refusal.ensures), omega arith)

pub overflow_add-n : goal.overflow_add-n
overflow_add-n c = omega (arith, rw (← c.one_if_found-n.ensures) at (found_le c.slot_row.result))

pub loop-i-preserved : goal.loop-i-preserved
loop-i-preserved c =
    let w = c.loop-i in
    let a = c.args in
    let s = a.ledger.now in
    let is = a.issues.now in
    let e : c.one_if_found-n.result ≡ length (to_list (row_in s is (w.i + 1))) =
    c.one_if_found-n.ensures ∙ ap found_count c.slot_row.ensures ∙ count_one (row_held s (get_or is w.i 0) (w.i + 1)) ∙ ap (λ (o : Option Row). length (to_list o)) (sym (row_next s is w.i)) in (
      omega (arith, rw (← c.one_if_found-n.ensures) at (found_le c.slot_row.result)),
      w.invariant.1,
      omega (arith, count_step (row_in s is) 255 w.i (w.i + 1) (omega arith)),
    )

pub returns : goal.returns
returns c =
    let w = c.loop-i in
    let a = c.args in
    let f = row_in a.ledger.now a.issues.now in
    let e : w.n ≡ count_from f 255 1 = omega (arith, count_end f 255 w.i (w.i + 1) (omega arith)) in
    ap (λ (n : ℕ). count_says (Ok n)) (e ∙ count_length f 255 1) ∙ sym (count_right _ _ (none_said _ c.in_ok-issues_refusal.ensures))
