use native.Mathlib.Omega.{arith}
use mathlib.Core.Path.{sym, ◌∙◌, refl}
use Rattle.ura.proofs.UraLaws.{code_hit, code_miss, code_none}
use Rattle.ura.proofs.seek_code.Goals as goal

pub loop-c-init : goal.loop-c-init
loop-c-init c = refl

pub returns-then-quarters-q : goal.returns-then-quarters-q
returns-then-quarters-q c =
    let i = c.loop-c in
    sym (code_hit _ i.c (omega arith) (sym c.quarters.ensures ∙ c.if-quarters-q.true)) ∙ i.invariant

pub loop-c-preserved : goal.loop-c-preserved
loop-c-preserved c =
    let i = c.loop-c in
    sym (code_miss _ i.c (omega arith) (λ e. c.if-quarters-q.false (c.quarters.ensures ∙ e))) ∙ i.invariant

pub returns : goal.returns
returns c =
    let i = c.loop-c in
    sym (code_none _ i.c (omega arith)) ∙ i.invariant
