use borrow.Author.Rules.{rules}
use native.Mathlib.Omega.{arith}
use Prim.Native.Nat.{◌+◌, ◌<◌}
use mathlib.Core.Path.{sym, ap, ◌∙◌}
use mathlib.Core.Logic.{inl}
use Rattle.lookback.proofs.WalkLaws.{nth_hit, nth_pass, nth_skip, nth_end, nth_rows, nth_missing}
use Rattle.row.specs.Row.{row_says, answer_of}
use Rattle.list.specs.Rows.{row_in}
use Rattle.list.proofs.AnswerLaws.{at_bad, at_right, found_some, refused_none, row_next}
use Rattle.broadcast.proofs.IssueLaws.{issues_long}
use Rattle.verdict.proofs.NumberLaws.{none_said, one_said, handed_on}
use Rattle.list.proofs.rows.row_at.Goals as goal

pub returns-in_err-issues_refusal : goal.returns-in_err-issues_refusal
returns-in_err-issues_refusal c =
    let k = one_said _ _ c.in_err-issues_refusal.ensures in
    ap row_says (handed_on _ _ c.from_residual.ensures) ∙ rw k.0 (sym (at_bad _ _ _ k.1))

pub returns-then-n-eq0 : goal.returns-then-n-eq0
returns-then-n-eq0 c =
    let z : c.args.n < 1 = omega arith in
    sym (at_right _ _ _ (none_said _ c.in_ok-issues_refusal.ensures) ∙ ap (answer_of 0) (nth_missing _ _ (inl z)))

pub loop-i-init : goal.loop-i-init
loop-i-init c = (
  omega arith,
  issues_long _ (none_said _ c.in_ok-issues_refusal.ensures),
  nth_rows _ 255 1 _,
)

pub loop-i-preserved-in_default : goal.loop-i-preserved-in_default
loop-i-preserved-in_default c =
    let w = c.loop-i in
    let a = c.args in
    let f = row_in a.ledger.now a.issues.now in
    let e = row_next a.ledger.now a.issues.now w.i ∙ refused_none _ _ (sym c.in_default.ensures) in
    (w.invariant.0, w.invariant.1, sym (nth_skip f 255 w.i (w.i + 1) w.left (omega arith) e) ∙ w.invariant.2)

pub returns-then-left-eq1 : goal.returns-then-left-eq1
returns-then-left-eq1 c =
    let w = c.loop-i in
    let a = c.args in
    let f = row_in a.ledger.now a.issues.now in
    let e = row_next a.ledger.now a.issues.now w.i ∙ found_some _ _ (sym c.in-Ok.ensures) in
    sym (at_right _ _ _ (none_said _ c.in_ok-issues_refusal.ensures)
    ∙ ap (answer_of 0) (sym w.invariant.2 ∙ nth_hit f 255 w.i (w.i + 1) w.left _ (omega arith) e c.if-left-eq1.true))

pub loop-i-preserved : goal.loop-i-preserved
loop-i-preserved c =
    let w = c.loop-i in
    let a = c.args in
    let f = row_in a.ledger.now a.issues.now in
    let e = row_next a.ledger.now a.issues.now w.i ∙ found_some _ _ (sym c.in-Ok.ensures) in
    (omega arith, w.invariant.1, sym (nth_pass f 255 w.i (w.i + 1) w.left _ (omega arith) e c.if-left-eq1.false) ∙ w.invariant.2)

pub returns : goal.returns
returns c =
    let w = c.loop-i in
    let a = c.args in
    let f = row_in a.ledger.now a.issues.now in
    sym (at_right _ _ _ (none_said _ c.in_ok-issues_refusal.ensures)
    ∙ ap (answer_of 0) (sym w.invariant.2 ∙ nth_end f 255 w.i (w.i + 1) w.left (omega arith)))
