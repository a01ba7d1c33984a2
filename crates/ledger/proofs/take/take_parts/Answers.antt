use mathlib.Core.Path.{sym, ap, ◌∙◌}
use Rattle.judge.proofs.JudgeLaws.{parts_refusal_at}
use Rattle.verdict.specs.Verdict.{says}
use Rattle.verdict.proofs.NumberLaws.{handed_on}
use Rattle.frame.specs.Frame.{contents_of}
use Rattle.held_mask.specs.Mask.{mask_at}
use Rattle.places.specs.Keeps.{place_says}
use Rattle.places.proofs.KeepLaws.{refusal_other}
use Rattle.in_force.proofs.ViewLaws.{taken_parts}
use Rattle.ledger.proofs.WayLaws.{judged_bad, place_bad, place_good}
use Rattle.ledger.proofs.take.take_parts.Goals as goal

pub returns-in_err-refusal_of_parts : goal.returns-in_err-refusal_of_parts
returns-in_err-refusal_of_parts c =
    let s = c.args.t.now in
    let f = c.args.frame.now in
    let judged = parts_refusal_at f 28 c.requires.1 c.requires.2 c.requires.3 in
    let bad = rw (c.kind_of-kind.ensures, c.clocks_of-k.ensures, c.orbits_of-o.ensures) at c.in_err-refusal_of_parts.ensures in
    let both = judged_bad s f c.requires.0 _ judged _ bad in
    record { verdict = ap says (handed_on _ _ c.from_residual.ensures) ∙ both.0; bytes = both.1 }

pub returns-in_err-place_verdict : goal.returns-in_err-place_verdict
returns-in_err-place_verdict c =
    let kind = c.kind_of-kind.ensures in
    let clock = c.clocks_of-k.ensures in
    let s = c.args.t.now in
    let f = c.args.frame.now in
    let judged = parts_refusal_at f 28 c.requires.1 c.requires.2 c.requires.3 in
    let good = rw (kind, clock, c.orbits_of-o.ensures) at c.in_ok-refusal_of_parts.ensures in
    let other = ap (place_says (mask_at s)) (sym (refusal_other (mask_at s) (contents_of f) c.requires.3)) in
    let both = place_bad s f c.requires.0 _ judged good _ ((rw (kind, clock) at c.in_err-place_verdict.ensures) ∙ other) in
    record { verdict = ap says (handed_on _ _ c.from_residual-in_err-place_verdict.ensures) ∙ both.0; bytes = both.1 }

pub returns : goal.returns
returns c =
    let kind = c.kind_of-kind.ensures in
    let clock = c.clocks_of-k.ensures in
    let orbit = c.orbits_of-o.ensures in
    let s = c.args.t.now in
    let f = c.args.frame.now in
    let judged = parts_refusal_at f 28 c.requires.1 c.requires.2 c.requires.3 in
    let good = rw (kind, clock, orbit) at c.in_ok-refusal_of_parts.ensures in
    let other = ap (place_says (mask_at s)) (sym (refusal_other (mask_at s) (contents_of f) c.requires.3)) in
    let clocks = rw (kind, clock) at c.take_clocks.ensures in
    let orbits = rw (kind, orbit, clocks) at c.take_orbits.ensures in
    let both = place_good s f c.requires.0 _ judged good ((rw (kind, clock) at c.in_ok-place_verdict.ensures) ∙ other) _ (orbits ∙ sym (taken_parts s (contents_of f) c.requires.1 c.requires.3)) in
    record { verdict = both.0; bytes = both.1 }
