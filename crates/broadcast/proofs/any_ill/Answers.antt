use borrow.Author.Rules.{rules}
use borrow.Author.Tests.{tests}
use Prim.Native.Nat.{ℕ}
use mathlib.Core.Bool.{◌&&◌, not}
use mathlib.Core.Path.{◌∙◌}
use lib.Dec.{eqb, ltb}
use Rattle.std.proofs.lemmas.Iterator.{YieldsList-from_slice}
use Rattle.std.proofs.lemmas.Iterator.Search.{any_from_yields_List}
use Rattle.bits.proofs.MadeLaws.{any_alone}
use Rattle.broadcast.proofs.any_ill.Goals as goal

pub returns : goal.returns
returns c =
    let ill = λ (x : ℕ). ltb 1023 x && not (eqb x 65535) in
    any_from_yields_List ill _ _ c.any.result c.any.ensures.ran (YieldsList-from_slice c.args.is.now cc) (λ x b q k. search (rules, tests))
    ∙ any_alone ill c.args.is.now
