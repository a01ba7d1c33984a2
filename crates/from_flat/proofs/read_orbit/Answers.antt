use borrow.Author.Rules.{rules}
use mathlib.Core.Path.{◌≡◌}
use mir.Syntax.{w16}
use mir.Val.{to_z, of_z}
use Rattle.from_flat.proofs.read_orbit.Goals as goal

pub returns : goal.returns
returns c =
    let z1 : to_z w16 (of_z w16 c.signed16-radial.result) ≡ c.signed16-radial.result = search rules in
    let z2 : to_z w16 (of_z w16 c.signed16-along.result) ≡ c.signed16-along.result = search rules in
    let z3 : to_z w16 (of_z w16 c.signed16-cross.result) ≡ c.signed16-cross.result = search rules in
    rw (
      z1,
      z2,
      z3,
      c.held_ura-ura.ensures,
      c.four.ensures,
      c.byte.ensures,
      c.signed16-cross.ensures,
      c.two-3.ensures,
      c.signed16-along.ensures,
      c.two-2.ensures,
      c.signed16-radial.ensures,
      c.two.ensures,
      c.byte-corr.ensures,
      c.two-iodn.ensures,
      c.two-slot.ensures,
    )
