use borrow.Author.Rules.{rules}
use native.Mathlib.Omega.{arith}
use mathlib.Core.Path.{◌≡◌, ◌∙◌}
use mir.Syntax.{w16}
use mir.Val.{to_z, of_z}
use Rattle.flat_numbers.proofs.DigitLaws.{two_bytes}
use Rattle.flat_biases.proofs.bias_bytes.Goals as goal

pub returns : goal.returns
returns c =
    let b = c.args.b in
    let z : to_z w16 (of_z w16 b.value) ≡ b.value = search rules in
    rw (c.to_be_bytes.ensures ∙ two_bytes c.raw16.result (omega arith), c.raw16.ensures, z)
