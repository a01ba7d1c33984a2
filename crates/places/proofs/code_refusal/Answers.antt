use mathlib.Core.Path.{sym, ◌∙◌}
use Rattle.held_mask.specs.Mask.{mask_at}
use Rattle.places.proofs.KeepLaws.{code_other, code_past, code_good}
use Rattle.places.proofs.code_refusal.Goals as goal

pub returns-then-is_other_mask : goal.returns-then-is_other_mask
returns-then-is_other_mask c =
    let a = c.args in
    rw (code_other (mask_at a.t.now) a.u (sym c.is_other_mask.ensures ∙ c.if-is_other_mask.true))

pub returns-then-is_past_last : goal.returns-then-is_past_last
returns-then-is_past_last c =
    let a = c.args in
    let own = sym c.is_other_mask.ensures ∙ c.if-is_other_mask.false in
    let test = rw c.first_code.ensures at (sym c.is_past_last.ensures ∙ c.if-is_past_last.true) in
    rw (code_past (mask_at a.t.now) a.u own test)

pub returns : goal.returns
returns c =
    let a = c.args in
    let own = sym c.is_other_mask.ensures ∙ c.if-is_other_mask.false in
    let test = rw c.first_code.ensures at (sym c.is_past_last.ensures ∙ c.if-is_past_last.false) in
    rw (code_good (mask_at a.t.now) a.u own test)
