use borrow.Author.Rules.{rules}
use native.Mathlib.Omega.{arith}
use borrow.Author.Tests.{eq-eqb, ne_eqb}
use Rattle.writing.proofs.FitLaws.{and_true}
use Rattle.writing.proofs.last_parts_fit.Goals as goal

pub returns-then-kind-eq3 : goal.returns-then-kind-eq3
returns-then-kind-eq3 c =
    let a = c.args in
    let e = c.if-kind-eq3.true in
    rw (eq-eqb _ _ e, ne_eqb a.kind 5 (λ z. omega arith), and_true) c.biases_fit.ensures

pub returns-then-kind-eq5 : goal.returns-then-kind-eq5
returns-then-kind-eq5 c = rw (ne_eqb _ _ c.if-kind-eq3.false, eq-eqb _ _ c.if-kind-eq5.true) c.codes_fit.ensures

pub returns : goal.returns
returns c = rw (ne_eqb _ _ c.if-kind-eq3.false, ne_eqb _ _ c.if-kind-eq5.false)
