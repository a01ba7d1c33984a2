use mathlib.Core.Path.{◌≡◌, sym, ap, ◌∙◌}
use borrow.Author.Tests.{ne_eqb}
use Rattle.std.specs.Prelude.{Ok, Err}
use Rattle.verdict.specs.Verdict.{number_in, refused_by}
use Rattle.verdict.proofs.NumberLaws.{number_back, some_said, none_said}
use Rattle.subframe2.proofs.AnswerLaws.{said_by}
use Rattle.subframe2.specs.Read.{subframe2_refusal}
use Rattle.inputs.proofs.heard.hear.Goals as goal

pub returns-in-Err : goal.returns-in-Err
returns-in-Err c =
    let s = c.args.s.now in
    let said = said_by s (Err _) c.in-Err.ensures in
    let some = λ (z : subframe2_refusal s ≡ 0). some_said _ (sym (said ∙ ap refused_by z)) in
    record { refusal = rw (ne_eqb _ _ some) (c.number_of.ensures ∙ ap number_in said ∙ number_back _); entries = rw (ne_eqb _ _ some) }

pub returns : goal.returns
returns c =
    let s = c.args.s.now in
    let z : subframe2_refusal s ≡ 0 = none_said _ (said_by s (Ok c.in_default.field-0) c.in_default.ensures) in
    let g = c.get16.ensures in
    record { refusal = rw z (c.number_of-2.ensures ∙ ap number_in (rw g at c.join.ensures.verdict) ∙ number_back _); entries = rw z (rw g at c.join.ensures.entries) }
