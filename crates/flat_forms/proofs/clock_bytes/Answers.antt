use borrow.Author.Rules.{rules}
use native.Mathlib.Omega.{arith}
use mathlib.Core.Path.{◌≡◌, ◌∙◌}
use mir.Syntax.{w16}
use mir.Val.{to_z, of_z}
use Rattle.flat_numbers.proofs.DigitLaws.{two_bytes}
use Rattle.flat_forms.proofs.clock_bytes.Goals as goal

pub returns : goal.returns
returns c =
    let k = c.args.k in
    let z : to_z w16 (of_z w16 k.c0) ≡ k.c0 = search rules in
    rw (
      c.to_be_bytes.ensures ∙ two_bytes k.slot (omega arith),
      c.to_be_bytes-2.ensures ∙ two_bytes c.raw16.result (omega arith),
      c.raw16.ensures,
      z,
    )
