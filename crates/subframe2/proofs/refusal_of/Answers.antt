use borrow.Author.Tests.{eq-eqb, ne_eqb, lt-ltb, le-ltb}
use mathlib.Core.Path.{◌≡◌, sym, ◌∙◌}
use mathlib.Core.Bool.{true, false}
use Prim.Native.Nat.{◌<◌, ◌≤◌}
use Rattle.check24.specs.Check.{check_ok}
use Rattle.subframe2.specs.Read.{hour_of, subframe2_refusal}
use Rattle.subframe2.proofs.refusal_of.Goals as goal

pub returns-then-s-ne75 : goal.returns-then-s-ne75
unfolding subframe2_refusal
returns-then-s-ne75 c = rw (ne_eqb _ _ c.if-s-ne75.true)

pub returns-then-not-check_ok : goal.returns-then-not-check_ok
unfolding subframe2_refusal
returns-then-not-check_ok c =
    let k : check_ok c.args.s.now 0 576 ≡ false = sym c.check_ok.ensures ∙ c.if-not-check_ok.true in
    rw (eq-eqb _ _ c.if-s-ne75.false, k)

pub returns-then-get8-gt167 : goal.returns-then-get8-gt167
unfolding subframe2_refusal
returns-then-get8-gt167 c =
    let h : 167 < hour_of c.args.s.now = rw (← c.get8.ensures) c.if-get8-gt167.true in
    let k : check_ok c.args.s.now 0 576 ≡ true = sym c.check_ok.ensures ∙ c.if-not-check_ok.false in
    rw (eq-eqb _ _ c.if-s-ne75.false, k, lt-ltb _ _ h)

pub returns : goal.returns
unfolding subframe2_refusal
returns c =
    let h : hour_of c.args.s.now ≤ 167 = rw (← c.get8.ensures) c.if-get8-gt167.false in
    let k : check_ok c.args.s.now 0 576 ≡ true = sym c.check_ok.ensures ∙ c.if-not-check_ok.false in
    rw (eq-eqb _ _ c.if-s-ne75.false, k, le-ltb _ _ h)
