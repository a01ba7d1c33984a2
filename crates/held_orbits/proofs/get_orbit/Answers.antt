-- The first byte decides; each field is what its bytes say, and a number with its sign is what the call returned.
use borrow.Author.Rules.{rules}
use mathlib.Core.Path.{◌≡◌, ◌∙◌, ap, ap₂}
use mir.Syntax.{w16}
use mir.Val.{to_z, of_z}
use Rattle.lent.specs.Digits.{zag_of}
use Rattle.ura.specs.Ura.{held_ura}
use Rattle.held_orbits.proofs.ReadLaws.{orbit_none, orbit_some, orbit_made}
use Rattle.held_orbits.proofs.get_orbit.Goals as goal

pub returns-then-byte-ne1 : goal.returns-then-byte-ne1
returns-then-byte-ne1 c =
    let a = c.args in
    let e = c.offset-at.ensures in
    c.no_orbit.ensures ∙ orbit_none a.t.now a.slot.0 _ e (rw c.byte.ensures at c.if-byte-ne1.true)

pub returns : goal.returns
returns c =
    let a = c.args in
    let p = c.offset-at in
    let b = c.byte in
    let n = c.if-byte-ne1.false in
    let radial : to_z w16 (of_z w16 c.zag-radial.result) ≡ c.zag-radial.result = search rules in
    let along : to_z w16 (of_z w16 c.zag-along.result) ≡ c.zag-along.result = search rules in
    let cross : to_z w16 (of_z w16 c.zag-cross.result) ≡ c.zag-cross.result = search rules in
    orbit_made
    c.four-epoch.ensures
    c.byte-ssr.ensures
    c.two-iodn.ensures
    c.byte-corr.ensures
    (radial ∙ c.zag-radial.ensures ∙ ap zag_of c.two.ensures)
    (along ∙ c.zag-along.ensures ∙ ap zag_of c.two-2.ensures)
    (cross ∙ c.zag-cross.ensures ∙ ap zag_of c.two-3.ensures)
    (c.held_ura-ura.ensures ∙ ap₂ held_ura c.byte-2.ensures c.four.ensures)
    ∙ orbit_some a.t.now a.slot.0 p.result p.ensures (rw b.ensures at n)
