use borrow.Author.Rules.{rules}
use mathlib.Core.Path.{◌≡◌}
use mir.Syntax.{w16}
use mir.Val.{to_z, of_z}
use Rattle.biases.proofs.PlaceLaws.{bias_named}
use Rattle.biases.proofs.bias_at.Goals as goal

pub returns : goal.returns
returns c =
    let v = c.signed12-value.result in
    let r : to_z w16 (of_z w16 v) ≡ v = search rules in
    rw r (bias_named _ _ _ v c.get16-x.ensures c.signed12-value.ensures)
