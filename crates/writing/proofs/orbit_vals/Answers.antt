use borrow.Author.Rules.{rules}
use mathlib.Core.Path.{◌≡◌}
use mir.Syntax.{w16}
use mir.Val.{to_z, of_z}
use Rattle.writing.proofs.orbit_vals.Goals as goal

pub returns : goal.returns
returns c =
    let o = c.args.o in
    let zr : to_z w16 (of_z w16 o.radial) ≡ o.radial = (let g = c.struct_told-1.given in search rules) in
    let za : to_z w16 (of_z w16 o.along) ≡ o.along = (let g = c.struct_told-2-1.given in search rules) in
    let zx : to_z w16 (of_z w16 o.cross) ≡ o.cross = (let g = c.struct_told-3-1.given in search rules) in
    rw (c.raw_or-radial.ensures, c.raw_or-along.ensures, c.raw_or-cross.ensures, c.code_of-code.ensures, zr, za, zx)
