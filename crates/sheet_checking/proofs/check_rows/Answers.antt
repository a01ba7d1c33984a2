use native.Mathlib.Omega.{arith}
use mathlib.Core.Path.{sym, ap, ◌∙◌}
use Rattle.verdict.proofs.NumberLaws.{handed_on}
use Rattle.sheet_checking.specs.Checking.{checked_says}
use Rattle.sheet_checking.proofs.AnswerLaws.{rows_hit, rows_counted, rows_end}
use Rattle.sheet_checking.proofs.CheckLaws.{no_fault, fault_said, walk_start, refusal_now, walk_hit, walk_next, walk_end}
use Rattle.sheet_checking.proofs.check_rows.Goals as goal

pub loop-k-init : goal.loop-k-init
loop-k-init c = walk_start _ _ _ _

pub returns-in_err-row_fault : goal.returns-in_err-row_fault
returns-in_err-row_fault c =
    let w = c.loop-k in
    let f = fault_said _ _ _ c.in_err-row_fault.ensures in
    let e = refusal_now _ _ _ _ _ _ w.invariant c.row_said-row.result c.row_said-row.ensures (omega arith) in
    let h = rows_hit _ _ _ _ c.requires.0 _ _ (walk_hit _ _ _ _ _ _ w.invariant _ (omega arith) e f.0) in
    ap checked_says (handed_on _ _ c.from_residual.ensures) ∙ f.1 ∙ sym h

pub loop-k-preserved : goal.loop-k-preserved
loop-k-preserved c =
    let w = c.loop-k in
    let n = no_fault _ _ c.in_ok-row_fault.ensures in
    let e = refusal_now _ _ _ _ _ _ w.invariant c.row_said-row.result c.row_said-row.ensures (omega arith) in
    walk_next _ _ _ _ _ _ w.invariant c.row_said-row.result (omega arith) c.row_said-row.ensures (omega arith) (sym e ∙ n)

pub overflow_sub-result : goal.overflow_sub-result
overflow_sub-result c =
    let w = c.loop-k in
    let p = c.requires in
    omega (arith, rows_counted _ _ _ _ p.0 (walk_end _ _ _ _ _ _ w.invariant (omega arith)))

pub returns : goal.returns
returns c =
    let w = c.loop-k in
    let p = c.requires in
    sym (rows_end _ _ _ _ p.0 _ p.1 (walk_end _ _ _ _ _ _ w.invariant (omega arith)))
