use mir.Syntax.{w32}
use mir.Val.{to_z, of_z}
use borrow.Author.Rules.{rules}
use mathlib.Core.Path.{◌≡◌}
use Rattle.sheet_reading.proofs.row_in.Goals as goal

pub returns : goal.returns
returns c =
    let z1 : to_z w32 (of_z w32 c.value_in-radial.result) ≡ c.value_in-radial.result = search rules in
    let z2 : to_z w32 (of_z w32 c.value_in-along.result) ≡ c.value_in-along.result = search rules in
    let z3 : to_z w32 (of_z w32 c.value_in-cross.result) ≡ c.value_in-cross.result = search rules in
    let z4 : to_z w32 (of_z w32 c.value_in-clock.result) ≡ c.value_in-clock.result = search rules in
    rw (
      z1,
      z2,
      z3,
      z4,
      c.value_in-clock.ensures,
      c.value_in-cross.ensures,
      c.value_in-along.ensures,
      c.value_in-radial.ensures,
      c.two_in-iodn.ensures,
      c.ura_of-ura.ensures,
      c.satellite_of-satellite.ensures,
    )
