use mathlib.Core.Path.{sym, ap, ◌∙◌}
use Rattle.std.specs.Prelude.{Ok}
use Rattle.row.specs.Row.{row_of, qualifies, row_says}
use Rattle.row.specs.declared.Row.{Row}
use Rattle.row.proofs.slot_row.Goals as goal

pub returns-then-not-is_assigned : goal.returns-then-not-is_assigned
unfolding row_of qualifies
returns-then-not-is_assigned c = rw (sym c.is_assigned.ensures ∙ c.if-not-is_assigned.true)

pub returns-then-not-has_mask : goal.returns-then-not-has_mask
unfolding row_of qualifies
returns-then-not-has_mask c =
    rw (
      sym c.is_assigned.ensures ∙ c.if-not-is_assigned.false,
      sym c.has_mask.ensures ∙ c.if-not-has_mask.true,
    )

pub returns-then-not-has_bit : goal.returns-then-not-has_bit
unfolding row_of qualifies
returns-then-not-has_bit c =
    rw (
      sym c.is_assigned.ensures ∙ c.if-not-is_assigned.false,
      sym c.has_mask.ensures ∙ c.if-not-has_mask.false,
      sym c.has_bit.ensures ∙ c.if-not-has_bit.true,
    )

pub returns-then-not-do_agree : goal.returns-then-not-do_agree
unfolding row_of qualifies
returns-then-not-do_agree c =
    rw (
      sym c.is_assigned.ensures ∙ c.if-not-is_assigned.false,
      sym c.has_mask.ensures ∙ c.if-not-has_mask.false,
      sym c.has_bit.ensures ∙ c.if-not-has_bit.false,
      sym (rw (c.mask_ssr.ensures, c.get_clock-k.ensures, c.coded_orbit-o.ensures) at c.do_agree.ensures) ∙ c.if-not-do_agree.true,
    )

pub returns-then-not-is_usable : goal.returns-then-not-is_usable
unfolding row_of qualifies
returns-then-not-is_usable c =
    rw (
      sym c.is_assigned.ensures ∙ c.if-not-is_assigned.false,
      sym c.has_mask.ensures ∙ c.if-not-has_mask.false,
      sym c.has_bit.ensures ∙ c.if-not-has_bit.false,
      sym (rw (c.mask_ssr.ensures, c.get_clock-k.ensures, c.coded_orbit-o.ensures) at c.do_agree.ensures) ∙ c.if-not-do_agree.false,
      sym (rw (c.get_clock-k.ensures, c.coded_orbit-o.ensures) at c.is_usable.ensures) ∙ c.if-not-is_usable.true,
    )

pub returns : goal.returns
unfolding row_of qualifies
returns c =
    rw (
      sym c.is_assigned.ensures ∙ c.if-not-is_assigned.false,
      sym c.has_mask.ensures ∙ c.if-not-has_mask.false,
      sym c.has_bit.ensures ∙ c.if-not-has_bit.false,
      sym (rw (c.mask_ssr.ensures, c.get_clock-k.ensures, c.coded_orbit-o.ensures) at c.do_agree.ensures) ∙ c.if-not-do_agree.false,
      sym (rw (c.get_clock-k.ensures, c.coded_orbit-o.ensures) at c.is_usable.ensures) ∙ c.if-not-is_usable.false,
    ) (ap (λ (r : Row). row_says (Ok r)) (rw (c.get_clock-k.ensures, c.coded_orbit-o.ensures) at c.row_from.ensures))
