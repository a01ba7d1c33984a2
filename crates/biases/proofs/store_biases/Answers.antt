use native.Mathlib.Omega.{arith}
use borrow.Author.Rules.{rules}
use mathlib.Core.Path.{◌≡◌, ap, ◌∙◌, sym}
use mathlib.Core.Logic.{dite}
use native.Mathlib.Decide.{dec_lt}
use Rattle.biases.specs.Biases.{bias_nth, stored}
use Rattle.biases.proofs.FilledLaws.{stored_none, stored_step, stored_stop}
use Rattle.biases.proofs.store_biases.Goals as goal

pub loop-j-init : goal.loop-j-init
loop-j-init c = (search rules, stored_none _ _ _)

pub loop-j-preserved : goal.loop-j-preserved
loop-j-preserved c =
    let l = c.loop-j in
    (l.invariant.0, rw (c.bias_at.ensures, l.invariant.1) (sym (stored_step _ _ _ l.j)))

pub returns : goal.returns
returns c =
    let l = c.loop-j in
    let a = c.args in
    dite (dec_lt l.j a.count)
    (λ h. l.invariant.1 ∙ stored_stop _ a.used _ l.j a.count (omega arith) (omega arith))
    (λ h. let e : l.j ≡ a.count = omega arith in l.invariant.1 ∙ ap (stored _ a.used (bias_nth a.s.now a.at)) e)
