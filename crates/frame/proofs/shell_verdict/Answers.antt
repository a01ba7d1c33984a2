use borrow.Author.Tests.{eq-eqb, ne_eqb}
use mathlib.Core.Path.{sym, ap, ◌∙◌}
use lib.Dec.{eqb}
use Rattle.parity.specs.declared.Groups.{Groups}
use Rattle.parity.proofs.GroupLaws.{parity_none}
use Rattle.frame.specs.Frame.{shell_refusal, frame_says}
use Rattle.frame.proofs.shell_verdict.Goals as goal

pub returns-then-f-ne125 : goal.returns-then-f-ne125
unfolding shell_refusal frame_says
returns-then-f-ne125 c = rw (ne_eqb _ _ c.if-f-ne125.true)

pub returns-then-get16-ne60304 : goal.returns-then-get16-ne60304
unfolding shell_refusal frame_says
returns-then-get16-ne60304 c = rw (eq-eqb _ _ c.if-f-ne125.false, ← c.get16.ensures, ne_eqb _ _ c.if-get16-ne60304.true)

pub returns-then-foreign : goal.returns-then-foreign
unfolding shell_refusal frame_says
returns-then-foreign c =
    rw (eq-eqb _ _ c.if-f-ne125.false, ← c.get16.ensures, eq-eqb _ _ c.if-get16-ne60304.false, c.if-foreign.true)

pub returns-then-bit-eq1 : goal.returns-then-bit-eq1
unfolding shell_refusal frame_says
returns-then-bit-eq1 c =
    rw (
      eq-eqb _ _ c.if-f-ne125.false,
      ← c.get16.ensures,
      eq-eqb _ _ c.if-get16-ne60304.false,
      c.if-foreign.false,
      ← c.bit.ensures,
      eq-eqb _ _ c.if-bit-eq1.true,
    )

pub returns-then-g-ne0 : goal.returns-then-g-ne0
unfolding shell_refusal frame_says
returns-then-g-ne0 c =
    let groups = c.failed_groups-g.ensures in
    let f = c.args.f.now in
    rw (
      eq-eqb _ _ c.if-f-ne125.false,
      ← c.get16.ensures,
      eq-eqb _ _ c.if-get16-ne60304.false,
      c.if-foreign.false,
      ← c.bit.ensures,
      ne_eqb _ _ c.if-bit-eq1.false,
      parity_none f ∙ ap (λ (g : Groups). eqb g.failing 0) (sym groups) ∙ ne_eqb _ _ c.if-g-ne0.true,
      ← groups,
    )

pub returns-then-not-check_ok : goal.returns-then-not-check_ok
unfolding shell_refusal frame_says
returns-then-not-check_ok c =
    let groups = c.failed_groups-g.ensures in
    let f = c.args.f.now in
    rw (
      eq-eqb _ _ c.if-f-ne125.false,
      ← c.get16.ensures,
      eq-eqb _ _ c.if-get16-ne60304.false,
      c.if-foreign.false,
      ← c.bit.ensures,
      ne_eqb _ _ c.if-bit-eq1.false,
      parity_none f ∙ ap (λ (g : Groups). eqb g.failing 0) (sym groups) ∙ eq-eqb _ _ c.if-g-ne0.false,
      sym c.check_ok.ensures ∙ c.if-not-check_ok.true,
    )

pub returns : goal.returns
unfolding shell_refusal frame_says
returns c =
    let groups = c.failed_groups-g.ensures in
    let f = c.args.f.now in
    rw (
      eq-eqb _ _ c.if-f-ne125.false,
      ← c.get16.ensures,
      eq-eqb _ _ c.if-get16-ne60304.false,
      c.if-foreign.false,
      ← c.bit.ensures,
      ne_eqb _ _ c.if-bit-eq1.false,
      parity_none f ∙ ap (λ (g : Groups). eqb g.failing 0) (sym groups) ∙ eq-eqb _ _ c.if-g-ne0.false,
      sym c.check_ok.ensures ∙ c.if-not-check_ok.false,
    )
