use borrow.Author.Rules.{rules}
use mathlib.Core.Path.{refl, ◌∙◌}
use Rattle.std.proofs.lemmas.Iterator.{YieldsList-from_slice}
use Rattle.std.proofs.lemmas.Iterator.Search.{all_from_yields_List}
use Rattle.records.specs.Orbit.{blank_orbit, orbit_widths}
use Rattle.records.specs.declared.orbit.Orbit.{Orbit}
use Rattle.fitting.specs.Fits.{fits}
use Rattle.fitting.proofs.FitLaws.{all_fit_each}
use Rattle.writing.specs.Fits.{orbit_vals, orbit_row}
use Rattle.writing.proofs.orbits_fit.Goals as goal

pub returns : goal.returns
returns c =
    let os = c.args.os.now in
    let fit = λ (o : Orbit). fits orbit_widths (orbit_vals o) in
    all_from_yields_List fit _ _ c.all.result c.all.ensures.ran (YieldsList-from_slice os cc) (λ x b q k. search rules)
    ∙ all_fit_each orbit_widths (orbit_row os) fit os blank_orbit 6 (cc) (λ i. refl)
