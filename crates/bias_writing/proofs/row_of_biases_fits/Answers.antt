use borrow.Author.Rules.{rules}
use mathlib.Core.Path.{refl, ◌∙◌}
use Rattle.std.proofs.lemmas.Iterator.{YieldsList-from_slice}
use Rattle.std.proofs.lemmas.Iterator.Search.{all_from_yields_List}
use Rattle.biases.specs.Biases.{bias_widths, no_bias}
use Rattle.biases.specs.declared.Bias.{Bias}
use Rattle.fitting.specs.Fits.{fits}
use Rattle.fitting.proofs.FitLaws.{all_fit_each}
use Rattle.bias_writing.specs.Put.{bias_vals, bias_row}
use Rattle.bias_writing.proofs.row_of_biases_fits.Goals as goal

pub returns : goal.returns
returns c =
    let bs = c.args.bs.now in
    let fit = λ (b : Bias). fits bias_widths (bias_vals b) in
    all_from_yields_List fit _ _ c.all.result c.all.ensures.ran (YieldsList-from_slice bs cc) (λ x b q k. search rules)
    ∙ all_fit_each bias_widths (bias_row bs) fit bs no_bias 25 (cc) (λ i. refl)
