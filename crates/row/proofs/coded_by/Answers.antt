use borrow.Author.Rules.{rules}
use mathlib.Core.Path.{◌≡◌}
use mir.Syntax.{w16}
use mir.Val.{to_z, of_z}
use Rattle.row.specs.Row.{coded}
use Rattle.row.proofs.coded_by.Goals as goal

pub returns : goal.returns
unfolding coded
returns c =
    let o = c.args.o in
    let radial : to_z w16 (of_z w16 o.radial) ≡ o.radial = search rules in
    let along : to_z w16 (of_z w16 o.along) ≡ o.along = search rules in
    let cross : to_z w16 (of_z w16 o.cross) ≡ o.cross = search rules in
    rw (radial, along, cross, c.ura_by-ura.ensures)
