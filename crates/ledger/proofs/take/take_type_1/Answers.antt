use mathlib.Core.Path.{sym, ap, ◌∙◌}
use Rattle.judge.specs.Judge.{mask_refusal_of}
use Rattle.judge.proofs.JudgeLaws.{mask_refusal_at}
use Rattle.verdict.specs.Verdict.{says}
use Rattle.verdict.proofs.NumberLaws.{handed_on}
use Rattle.frame.specs.Frame.{contents_of}
use Rattle.held_mask.specs.Mask.{mask_at}
use Rattle.places.proofs.KeepLaws.{mask_free}
use Rattle.in_force.specs.Bytes.{mask_bytes}
use Rattle.in_force.proofs.ViewLaws.{taken_1}
use Rattle.ledger.proofs.WayLaws.{judged_bad, judged_free}
use Rattle.ledger.proofs.take.take_type_1.Goals as goal

pub returns-in_err-refusal_of_mask : goal.returns-in_err-refusal_of_mask
returns-in_err-refusal_of_mask c =
    let s = c.args.t.now in
    let f = c.args.frame.now in
    let judged = ap mask_refusal_of c.mask_of-m.ensures ∙ mask_refusal_at f 28 c.requires.1 in
    let both = judged_bad s f c.requires.0 _ judged _ c.in_err-refusal_of_mask.ensures in
    record { verdict = ap says (handed_on _ _ c.from_residual.ensures) ∙ both.0; bytes = both.1 }

pub returns : goal.returns
returns c =
    let s = c.args.t.now in
    let f = c.args.frame.now in
    let kind = c.requires.1 in
    let judged = ap mask_refusal_of c.mask_of-m.ensures ∙ mask_refusal_at f 28 kind in
    let both = judged_free s f c.requires.0 _ judged c.in_ok-refusal_of_mask.ensures (mask_free (contents_of f) kind (mask_at s)) _
    (c.take_mask.ensures ∙ ap (mask_bytes s) c.mask_of-m.ensures ∙ sym (taken_1 s (contents_of f) kind)) in
    record { verdict = both.0; bytes = both.1 }
