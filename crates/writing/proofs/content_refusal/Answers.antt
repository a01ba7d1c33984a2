use mathlib.Core.Path.{sym, ap, ◌∙◌}
use Rattle.verdict.specs.Verdict.{refused_says, refused_by}
use Rattle.verdict.proofs.NumberLaws.{one_said, handed_on}
use Rattle.writing.proofs.WriteLaws.{content_judged, content_fits}
use Rattle.writing.proofs.content_refusal.Goals as goal

pub returns-in_err-refusal_of : goal.returns-in_err-refusal_of
returns-in_err-refusal_of c =
    let a = c.args.c in
    let e = rw c.end_for.ensures at c.in_err-refusal_of.ensures in
    ap refused_says (handed_on _ _ c.from_residual.ensures) ∙ e ∙ ap refused_by (sym (content_judged a (one_said _ _ e).1))

pub returns-then-all_fields_fit : goal.returns-then-all_fields_fit
returns-then-all_fields_fit c =
    rw (content_fits c.args.c (rw c.end_for.ensures at c.in_ok-refusal_of.ensures), ← c.all_fields_fit.ensures, c.if-all_fields_fit.true)

pub returns-else-all_fields_fit : goal.returns-else-all_fields_fit
returns-else-all_fields_fit c =
    rw (content_fits c.args.c (rw c.end_for.ensures at c.in_ok-refusal_of.ensures), ← c.all_fields_fit.ensures, c.if-all_fields_fit.false)
