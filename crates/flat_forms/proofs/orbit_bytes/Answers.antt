use borrow.Author.Rules.{rules}
use Prim.Native.Nat.{◌<◌}
use mathlib.Core.Path.{◌≡◌, ap, ◌∙◌}
use mir.Syntax.{w16}
use mir.Val.{to_z, of_z}
use Rattle.flat_numbers.specs.Rows.{word}
use Rattle.flat_numbers.proofs.DigitLaws.{pairs, quads, two_bytes, four_bytes}
use Rattle.flat_forms.proofs.FlatLaws.{orbit_same}
use Rattle.flat_forms.proofs.orbit_bytes.Goals as goal

-- radial, along and cross are what they were before the calls
pub returns : goal.returns
returns c =
    let o = c.args.o in
    let slot : o.slot < 65536 = search rules in
    let iodn : o.iodn < 65536 = search rules in
    let radial : to_z w16 (of_z w16 o.radial) ≡ o.radial = search rules in
    let along : to_z w16 (of_z w16 o.along) ≡ o.along = search rules in
    let cross : to_z w16 (of_z w16 o.cross) ≡ o.cross = search rules in
    orbit_same o.corr
    (c.to_be_bytes.ensures ∙ two_bytes o.slot slot)
    (c.to_be_bytes-2.ensures ∙ two_bytes o.iodn iodn)
    (c.to_be_bytes-3.ensures ∙ two_bytes c.raw16.result c.raw16.type_inv ∙ ap pairs (c.raw16.ensures ∙ ap word radial))
    (c.to_be_bytes-4.ensures ∙ two_bytes c.raw16-2.result c.raw16-2.type_inv ∙ ap pairs (c.raw16-2.ensures ∙ ap word along))
    (c.to_be_bytes-5.ensures ∙ two_bytes c.raw16-3.result c.raw16-3.type_inv ∙ ap pairs (c.raw16-3.ensures ∙ ap word cross))
    c.ura_kind-k.ensures
    (c.to_be_bytes-6.ensures ∙ four_bytes c.ura_quarters.result c.ura_quarters.type_inv ∙ ap quads c.ura_quarters.ensures)
