use borrow.Author.Rules.{rules}
use mathlib.Core.Path.{◌≡◌}
use mir.Syntax.{w16}
use mir.Val.{to_z, of_z}
use Rattle.flat_biases.proofs.read_bias.Goals as goal

pub returns : goal.returns
returns c =
    let z : to_z w16 (of_z w16 c.signed16-value.result) ≡ c.signed16-value.result = search rules in
    rw (z, c.signed16-value.ensures, c.two.ensures, c.byte-mode.ensures)
