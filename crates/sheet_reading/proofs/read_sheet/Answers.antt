use borrow.Author.Rules.{rules}
use native.Mathlib.Omega.{arith}
use Prim.Native.Nat.{◌+◌, ◌-◌, ◌*◌}
use mathlib.Core.Path.{◌≡◌, sym, ◌∙◌}
use Rattle.sheet_reading.proofs.ReadingLaws.{row_reaches, wrong_row, right_row, wrong_end, wrong_after, right_end, wrong_header, right_header, says_wrong, says_read}
use Rattle.sheet_reading.proofs.read_sheet.Goals as goal

pub returns-then-not-header_ok : goal.returns-then-not-header_ok
returns-then-not-header_ok c =
    says_wrong _ _ _ _ (wrong_header _ _ _ (sym c.header_ok.ensures ∙ c.if-not-header_ok.true))

pub loop-k-init : goal.loop-k-init
loop-k-init c =
    let h = c.header_said-header in
    let e : h.result.rows - 0 ≡ h.result.rows = omega arith in
    rw e (right_header _ _ _ _ (sym c.header_ok.ensures ∙ c.if-not-header_ok.false) h.ensures)

pub returns-then-not-row_ok : goal.returns-then-not-row_ok
returns-then-not-row_ok c =
    let l = c.loop-k in
    says_wrong _ _ _ _ (sym l.invariant ∙ wrong_row _ _ _ _ _ (omega arith) (sym c.row_ok.ensures ∙ c.if-not-row_ok.true))

pub bounds-sheet-at : goal.bounds-sheet-at
bounds-sheet-at c = omega (arith, row_reaches _ _ _ _ (sym c.row_ok.ensures ∙ c.if-not-row_ok.false))

pub loop-k-preserved : goal.loop-k-preserved
loop-k-preserved c =
    let l = c.loop-k in
    let n = c.header_said-header.result.rows in
    let e : n - l.k - 1 ≡ n - (l.k + 1) = omega arith in
    let f : 8 + 24 * l.k + 24 ≡ 8 + 24 * (l.k + 1) = omega arith in
    rw (← e, ← f) (sym (right_row _ _ _ _ _ (omega arith) (sym c.row_ok.ensures ∙ c.if-not-row_ok.false)) ∙ l.invariant)

pub returns-then-not-end_ok : goal.returns-then-not-end_ok
returns-then-not-end_ok c =
    let e : c.loop-k.k ≡ c.header_said-header.result.rows = omega arith in
    says_wrong _ _ _ _ (sym (rw e at c.loop-k.invariant) ∙ wrong_end _ _ _ _ _ (omega arith) (sym c.end_ok.ensures ∙ c.if-not-end_ok.true))

pub returns-then-sheet-end : goal.returns-then-sheet-end
returns-then-sheet-end c =
    let e : c.loop-k.k ≡ c.header_said-header.result.rows = omega arith in
    says_wrong _ _ _ _
    (sym (rw e at c.loop-k.invariant) ∙ wrong_after _ _ _ _ _ (omega arith) (sym c.end_ok.ensures ∙ c.if-not-end_ok.false) (λ q. omega arith))

pub returns : goal.returns
returns c =
    let e : c.loop-k.k ≡ c.header_said-header.result.rows = omega arith in
    says_read _ _ _ _
    (sym (rw e at c.loop-k.invariant) ∙ right_end _ _ _ _ _ (omega arith) (sym c.end_ok.ensures ∙ c.if-not-end_ok.false) (omega arith))
    c.header_said-header.ensures
