use borrow.Author.Rules.{rules}
use Prim.Native.Nat.{◌<◌}
use mathlib.Core.Path.{◌∙◌}
use Rattle.sheet_form.specs.Layout.{header_field}
use Rattle.sheet_fields.proofs.FieldLaws.{two_bytes}
use Rattle.sheet_fields.proofs.header_bytes.Goals as goal

pub returns : goal.returns
unfolding header_field
returns c =
    let rows : c.args.h.rows < 65536 = search rules in
    rw (c.to_be_bytes.ensures ∙ two_bytes c.args.h.rows rows)
