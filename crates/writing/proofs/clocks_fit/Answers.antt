use borrow.Author.Rules.{rules}
use mathlib.Core.Path.{refl, ◌∙◌}
use Rattle.std.proofs.lemmas.Iterator.{YieldsList-from_slice}
use Rattle.std.proofs.lemmas.Iterator.Search.{all_from_yields_List}
use Rattle.records.specs.Clock.{blank_clock, clock_widths}
use Rattle.records.specs.declared.clock.Clock.{Clock}
use Rattle.fitting.specs.Fits.{fits}
use Rattle.fitting.proofs.FitLaws.{all_fit_each}
use Rattle.writing.specs.Fits.{clock_vals, clock_row}
use Rattle.writing.proofs.clocks_fit.Goals as goal

pub returns : goal.returns
returns c =
    let ks = c.args.ks.now in
    let ws = clock_widths c.args.slotted in
    let fit = λ (k : Clock). fits ws (clock_vals k) in
    all_from_yields_List fit _ _ c.all.result c.all.ensures.ran (YieldsList-from_slice ks cc) (λ x b q k. search rules)
    ∙ all_fit_each ws (clock_row ks) fit ks blank_clock 23 (cc) (λ i. refl)
