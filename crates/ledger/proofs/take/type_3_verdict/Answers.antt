use mathlib.Core.Path.{sym, ap, ◌∙◌}
use Rattle.judge.proofs.JudgeLaws.{heads_refusal_at}
use Rattle.verdict.specs.Verdict.{says}
use Rattle.verdict.proofs.NumberLaws.{handed_on}
use Rattle.frame.specs.Frame.{contents_of}
use Rattle.held_mask.specs.Mask.{mask_at}
use Rattle.places.proofs.KeepLaws.{biases_free}
use Rattle.in_force.proofs.ViewLaws.{taken_3}
use Rattle.ledger.proofs.WayLaws.{judged_bad, judged_free}
use Rattle.ledger.proofs.take.type_3_verdict.Goals as goal

pub returns-in_err-refusal_of_biases : goal.returns-in_err-refusal_of_biases
returns-in_err-refusal_of_biases c =
    let s = c.args.t.now in
    let f = c.args.frame.now in
    let judged = heads_refusal_at f 28 c.requires.1 in
    let both = judged_bad s f c.requires.0 _ judged _ (rw (c.end_at.ensures, c.read_heads-b.ensures) at c.in_err-refusal_of_biases.ensures) in
    record { verdict = ap says (handed_on _ _ c.from_residual.ensures) ∙ both.0; bytes = both.1 }

pub returns : goal.returns
returns c =
    let s = c.args.t.now in
    let f = c.args.frame.now in
    let kind = c.requires.1 in
    let good = rw (c.end_at.ensures, c.read_heads-b.ensures) at c.in_ok-refusal_of_biases.ensures in
    let both = judged_free s f c.requires.0 _ (heads_refusal_at f 28 kind) good (biases_free (contents_of f) kind (mask_at s)) s (sym (taken_3 s (contents_of f) kind)) in
    record { verdict = both.0; bytes = both.1 }
