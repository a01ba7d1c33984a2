use borrow.Author.Rules.{rules}
use mathlib.Core.Path.{◌≡◌, refl, sym, ◌∙◌}
use Rattle.making.proofs.CheckLaws.{keeps_none, keeps_same, keeps_other}
use Rattle.making.proofs.keeps_symbols.Goals as goal

pub loop-n-init : goal.loop-n-init
loop-n-init c = refl

pub returns-then-get8 : goal.returns-then-get8
returns-then-get8 c =
    let l = c.loop-n in
    sym (sym l.invariant ∙ keeps_other _ _ l.n (search rules) (λ e. c.if-get8.true (c.get8.ensures ∙ e ∙ sym c.get8-in-loop-n.ensures)))

pub loop-n-preserved : goal.loop-n-preserved
loop-n-preserved c =
    let l = c.loop-n in
    keeps_same _ _ l.n (search rules) (sym c.get8.ensures ∙ c.if-get8.false ∙ c.get8-in-loop-n.ensures) ∙ l.invariant

pub returns : goal.returns
returns c =
    let l = c.loop-n in
    let z : l.n ≡ 0 = search rules in
    sym (keeps_none _ _) ∙ (rw z at l.invariant)
