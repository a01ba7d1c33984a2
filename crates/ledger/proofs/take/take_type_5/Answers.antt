use mathlib.Core.Path.{sym, ap, ◌∙◌}
use Rattle.judge.specs.Judge.{codes_refusal_of}
use Rattle.judge.proofs.JudgeLaws.{codes_refusal_at}
use Rattle.verdict.specs.Verdict.{says}
use Rattle.verdict.proofs.NumberLaws.{none_said, handed_on}
use Rattle.frame.specs.Frame.{contents_of}
use Rattle.held_mask.specs.Mask.{mask_at}
use Rattle.places.proofs.KeepLaws.{refusal_5, code_alone}
use Rattle.in_force.proofs.ViewLaws.{taken_5}
use Rattle.ledger.proofs.WayLaws.{judged_bad, judged_free, code_bad}
use Rattle.ledger.proofs.take.take_type_5.Goals as goal

pub returns-in_err-refusal_of_codes : goal.returns-in_err-refusal_of_codes
returns-in_err-refusal_of_codes c =
    let s = c.args.t.now in
    let f = c.args.frame.now in
    let judged = ap codes_refusal_of c.codes_of-u.ensures ∙ codes_refusal_at f 28 c.requires.1 in
    let both = judged_bad s f c.requires.0 _ judged _ c.in_err-refusal_of_codes.ensures in
    record { verdict = ap says (handed_on _ _ c.from_residual.ensures) ∙ both.0; bytes = both.1 }

pub returns-in_err-code_refusal : goal.returns-in_err-code_refusal
returns-in_err-code_refusal c =
    let s = c.args.t.now in
    let f = c.args.frame.now in
    let kind = c.requires.1 in
    let judged = ap codes_refusal_of c.codes_of-u.ensures ∙ codes_refusal_at f 28 kind in
    let own = sym (refusal_5 (mask_at s) (contents_of f) kind) in
    let both = code_bad s f c.requires.0 _ judged c.in_ok-refusal_of_codes.ensures _ _ own (code_alone (mask_at s) (contents_of f).code) (rw c.codes_of-u.ensures at c.in_err-code_refusal.ensures) in
    record { verdict = ap says (handed_on _ _ c.from_residual-in_err-code_refusal.ensures) ∙ both.0; bytes = both.1 }

pub returns : goal.returns
returns c =
    let s = c.args.t.now in
    let f = c.args.frame.now in
    let kind = c.requires.1 in
    let judged = ap codes_refusal_of c.codes_of-u.ensures ∙ codes_refusal_at f 28 kind in
    let placed = rw c.codes_of-u.ensures at c.in_ok-code_refusal.ensures in
    let free = refusal_5 (mask_at s) (contents_of f) kind ∙ none_said _ placed in
    let codes = rw c.codes_of-u.ensures at c.take_codes.ensures in
    let both = judged_free s f c.requires.0 _ judged c.in_ok-refusal_of_codes.ensures free _ (codes ∙ sym (taken_5 s (contents_of f) kind)) in
    record { verdict = both.0; bytes = both.1 }
