use borrow.Author.Rules.{rules}
use borrow.Author.Tests.{tests}
use Prim.Native.Nat.{ℕ}
use mathlib.Core.Path.{◌∙◌}
use lib.Dec.{ltb}
use Rattle.std.proofs.lemmas.Iterator.{YieldsList-from_slice}
use Rattle.std.proofs.lemmas.Iterator.Search.{any_from_yields_List}
use Rattle.bits.proofs.MadeLaws.{any_alone}
use Rattle.inputs.specs.Hex.{digit_of}
use Rattle.inputs.proofs.hex.any_no_digit.Goals as goal

pub returns : goal.returns
returns c =
    let other = λ (b : ℕ). ltb 15 (digit_of b) in
    any_from_yields_List other _ _ c.any.result c.any.ensures.ran (YieldsList-from_slice c.args.w.now cc) (λ x b q k. search (rules, tests))
    ∙ any_alone other c.args.w.now
