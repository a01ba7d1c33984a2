use borrow.Author.Tests.{ltb-true, ltb-false}
use native.Mathlib.Omega.{arith}
use Prim.Native.Nat.{◌≤◌}
use mathlib.Core.Path.{sym, ap, ◌∙◌}
use Rattle.slots.specs.Slots.{set_count}
use Rattle.held_mask.specs.Mask.{mask_at}
use Rattle.mask_bits.proofs.BitLaws.{length_bits}
use Rattle.places.specs.Keeps.{place_says}
use Rattle.places.proofs.KeepLaws.{place_free, place_other, place_past, place_good, count_le, as_past, as_within}
use Rattle.places.proofs.place_verdict.Goals as goal

pub returns-then-not-needs_mask : goal.returns-then-not-needs_mask
unfolding place_says
returns-then-not-needs_mask c =
    let a = c.args in
    rw (place_free (mask_at a.t.now) a.kind a.p (sym c.needs_mask.ensures ∙ c.if-not-needs_mask.true))

pub returns-then-is_other_mask : goal.returns-then-is_other_mask
unfolding place_says
returns-then-is_other_mask c =
    let a = c.args in
    let needed = sym c.needs_mask.ensures ∙ c.if-not-needs_mask.false in
    rw (place_other (mask_at a.t.now) a.kind a.p needed (sym c.is_other_mask.ensures ∙ c.if-is_other_mask.true))

pub returns-then-is_past_last : goal.returns-then-is_past_last
returns-then-is_past_last c =
    let a = c.args in
    let needed = sym c.needs_mask.ensures ∙ c.if-not-needs_mask.false in
    let own = sym c.is_other_mask.ensures ∙ c.if-is_other_mask.false in
    let past = place_past (mask_at a.t.now) a.kind a.p needed own in
    let near : set_count (mask_at a.t.now).bits ≤ 255 = omega (arith, count_le (mask_at a.t.now).bits, length_bits a.t.now) in
    let test = rw c.place_to_check.ensures at (sym c.is_past_last.ensures ∙ c.if-is_past_last.true) in
    c.no_place.ensures ∙ ap (place_says (mask_at a.t.now)) (sym (past (as_past _ _ near (ltb-true _ _ test))))

pub returns : goal.returns
unfolding place_says
returns c =
    let a = c.args in
    let needed = sym c.needs_mask.ensures ∙ c.if-not-needs_mask.false in
    let own = sym c.is_other_mask.ensures ∙ c.if-is_other_mask.false in
    let near : set_count (mask_at a.t.now).bits ≤ 255 = omega (arith, count_le (mask_at a.t.now).bits, length_bits a.t.now) in
    let good = place_good (mask_at a.t.now) a.kind a.p needed own in
    let test = rw c.place_to_check.ensures at (sym c.is_past_last.ensures ∙ c.if-is_past_last.false) in
    rw (good (as_within _ _ near (ltb-false _ _ test)))
