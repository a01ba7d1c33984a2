use borrow.Author.Rules.{rules}
use mathlib.Core.Path.{◌≡◌, ◌∙◌}
use mir.Syntax.{w16}
use mir.Val.{to_z, of_z}
use Rattle.held_clocks.proofs.ReadLaws.{clock_none, clock_some}
use Rattle.held_clocks.proofs.get_clock.Goals as goal

pub returns-then-byte-ne1 : goal.returns-then-byte-ne1
returns-then-byte-ne1 c =
    let a = c.args in
    let e = c.offset-at.ensures in
    c.no_clock.ensures ∙ clock_none a.t.now a.slot.0 _ e (rw c.byte.ensures at c.if-byte-ne1.true)

pub returns : goal.returns
returns c =
    let a = c.args in
    let p = c.offset-at in
    let d = c.byte-placed in
    let f = c.four-epoch in
    let n = c.if-byte-ne1.false in
    let b = c.byte in
    let z : to_z w16 (of_z w16 c.zag-c0.result) ≡ c.zag-c0.result = search rules in
    rw (z, c.zag-c0.ensures, c.two.ensures, c.byte-corr.ensures, c.byte-ssr.ensures, f.ensures, d.ensures) (clock_some a.t.now a.slot.0 p.result p.ensures (rw b.ensures at n))
