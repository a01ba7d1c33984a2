use mir.Syntax.{w32}
use mir.Val.{to_z, of_z}
use borrow.Author.Rules.{rules}
use mathlib.Core.Path.{◌≡◌}
use Rattle.sheet_reading.proofs.value_in.Goals as goal

pub returns : goal.returns
returns c =
    let z : to_z w32 (of_z w32 c.signed32.result) ≡ c.signed32.result = search rules in
    rw (z, c.signed32.ensures, c.four_in.ensures)
