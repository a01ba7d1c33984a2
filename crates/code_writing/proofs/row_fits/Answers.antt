use borrow.Author.Rules.{rules}
use borrow.Author.Tests.{tests}
use Prim.Native.Nat.{ℕ}
use mathlib.Core.Path.{◌∙◌}
use lib.Dec.{ltb}
use Rattle.std.proofs.lemmas.Iterator.{YieldsList-from_slice}
use Rattle.std.proofs.lemmas.Iterator.Search.{all_from_yields_List}
use Rattle.fitting.proofs.FitLaws.{all_fit_each}
use Rattle.code_writing.specs.Codes.{code_widths, code_row}
use Rattle.code_writing.proofs.CodeLaws.{code_fits}
use Rattle.code_writing.proofs.row_fits.Goals as goal

pub returns : goal.returns
returns c =
    let codes = c.args.codes.now in
    let six = λ (x : ℕ). ltb x 64 in
    all_from_yields_List six _ _ c.all.result c.all.ensures.ran (YieldsList-from_slice codes cc) (λ x b q k. search (rules, tests))
    ∙ all_fit_each code_widths (code_row codes) six codes 0 70 (cc) (λ i. code_fits _)
