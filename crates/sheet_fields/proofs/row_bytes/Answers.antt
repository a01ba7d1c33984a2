use borrow.Author.Rules.{rules}
use Prim.Native.Nat.{◌<◌}
use mathlib.Core.Path.{◌≡◌, ap, ◌∙◌}
use mir.Syntax.{w32}
use mir.Val.{to_z, of_z}
use Rattle.records.specs.Signed.{raw_half}
use Rattle.sheet_form.specs.Layout.{row_field}
use Rattle.sheet_fields.proofs.FieldLaws.{quads, two_bytes, four_bytes, row_same}
use Rattle.sheet_fields.proofs.row_bytes.Goals as goal

-- numbers with their sign are what they were before the calls
pub returns : goal.returns
unfolding row_field
returns c =
    let r = c.args.r in
    let iodn : r.iodn < 65536 = search rules in
    let radial : to_z w32 (of_z w32 r.radial) ≡ r.radial = search rules in
    let along : to_z w32 (of_z w32 r.along) ≡ r.along = search rules in
    let cross : to_z w32 (of_z w32 r.cross) ≡ r.cross = search rules in
    let clock : to_z w32 (of_z w32 r.clock) ≡ r.clock = search rules in
    row_same r.slot.0 r.corr
    (c.to_be_bytes.ensures ∙ two_bytes r.iodn iodn)
    (c.to_be_bytes-2.ensures ∙ four_bytes c.raw32.result c.raw32.type_inv ∙ ap quads (c.raw32.ensures ∙ ap (raw_half 2147483648) radial))
    (c.to_be_bytes-3.ensures ∙ four_bytes c.raw32-2.result c.raw32-2.type_inv ∙ ap quads (c.raw32-2.ensures ∙ ap (raw_half 2147483648) along))
    (c.to_be_bytes-4.ensures ∙ four_bytes c.raw32-3.result c.raw32-3.type_inv ∙ ap quads (c.raw32-3.ensures ∙ ap (raw_half 2147483648) cross))
    (c.to_be_bytes-5.ensures ∙ four_bytes c.raw32-4.result c.raw32-4.type_inv ∙ ap quads (c.raw32-4.ensures ∙ ap (raw_half 2147483648) clock))
    c.code_of-code.ensures
