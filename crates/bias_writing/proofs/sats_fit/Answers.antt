use borrow.Author.Rules.{rules}
use mathlib.Core.Path.{refl, ◌∙◌}
use Rattle.std.proofs.lemmas.Iterator.{YieldsList-from_slice}
use Rattle.std.proofs.lemmas.Iterator.Search.{all_from_yields_List}
use Rattle.biases.specs.Biases.{sat_widths, blank_sat}
use Rattle.biases.specs.declared.BiasSat.{BiasSat}
use Rattle.fitting.specs.Fits.{fits}
use Rattle.fitting.proofs.FitLaws.{all_fit_each}
use Rattle.bias_writing.specs.Put.{sat_vals, sat_row}
use Rattle.bias_writing.proofs.sats_fit.Goals as goal

pub returns : goal.returns
returns c =
    let rs = c.args.rs.now in
    let fit = λ (r : BiasSat). fits sat_widths (sat_vals r) in
    all_from_yields_List fit _ _ c.all.result c.all.ensures.ran (YieldsList-from_slice rs cc) (λ x b q k. search rules)
    ∙ all_fit_each sat_widths (sat_row rs) fit rs blank_sat 31 (cc) (λ i. refl)
