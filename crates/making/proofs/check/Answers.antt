use mathlib.Core.Path.{sym, ap, ◌∙◌}
use lib.Dec.{eqb}
use borrow.Author.Tests.{eq-eqb, ne_eqb}
use Rattle.parity.specs.declared.Groups.{Groups}
use Rattle.parity.proofs.GroupLaws.{parity_none}
use Rattle.frame.specs.Frame.{frame_says}
use Rattle.making.proofs.CheckLaws.{refuses_1, refuses_2, refuses_3, refuses_6, refuses_38, refuses_none}
use Rattle.making.proofs.check.Goals as goal

pub returns-then-wrong_length : goal.returns-then-wrong_length
unfolding frame_says
returns-then-wrong_length c =
    let a = c.args in
    rw (refuses_1 a.message.now a.frame.now (sym c.wrong_length.ensures ∙ c.if-wrong_length.true))

pub returns-then-get8-ne0 : goal.returns-then-get8-ne0
unfolding frame_says
returns-then-get8-ne0 c =
    let a = c.args in
    rw (refuses_2 a.message.now a.frame.now (sym c.wrong_length.ensures ∙ c.if-wrong_length.false) (λ z. c.if-get8-ne0.true (c.get8.ensures ∙ z)))

pub returns-then-get16-ne60304 : goal.returns-then-get16-ne60304
unfolding frame_says
returns-then-get16-ne60304 c =
    let a = c.args in
    rw (refuses_3 a.message.now a.frame.now (sym c.wrong_length.ensures ∙ c.if-wrong_length.false) (sym c.get8.ensures ∙ c.if-get8-ne0.false)
    (λ s. c.if-get16-ne60304.true (c.get16.ensures ∙ s)))

pub returns-then-g-ne0 : goal.returns-then-g-ne0
unfolding frame_says
returns-then-g-ne0 c =
    let a = c.args in
    let groups = c.failed_groups-g.ensures in
    let fails = parity_none a.frame.now ∙ ap (λ (g : Groups). eqb g.failing 0) (sym groups) ∙ ne_eqb _ _ c.if-g-ne0.true in
    rw (
      refuses_6 a.message.now a.frame.now (sym c.wrong_length.ensures ∙ c.if-wrong_length.false) (sym c.get8.ensures ∙ c.if-get8-ne0.false)
          (sym c.get16.ensures ∙ c.if-get16-ne60304.false) fails,
      ← groups,
    )

pub returns-then-not-keeps_symbols : goal.returns-then-not-keeps_symbols
unfolding frame_says
returns-then-not-keeps_symbols c =
    let a = c.args in
    let passes = parity_none a.frame.now ∙ ap (λ (g : Groups). eqb g.failing 0) (sym c.failed_groups-g.ensures) ∙ eq-eqb _ _ c.if-g-ne0.false in
    rw (refuses_38 a.message.now a.frame.now (sym c.wrong_length.ensures ∙ c.if-wrong_length.false) (sym c.get8.ensures ∙ c.if-get8-ne0.false)
    (sym c.get16.ensures ∙ c.if-get16-ne60304.false) passes (sym c.keeps_symbols.ensures ∙ c.if-not-keeps_symbols.true))

pub returns : goal.returns
unfolding frame_says
returns c =
    let a = c.args in
    let passes = parity_none a.frame.now ∙ ap (λ (g : Groups). eqb g.failing 0) (sym c.failed_groups-g.ensures) ∙ eq-eqb _ _ c.if-g-ne0.false in
    rw (refuses_none a.message.now a.frame.now (sym c.wrong_length.ensures ∙ c.if-wrong_length.false) (sym c.get8.ensures ∙ c.if-get8-ne0.false)
    (sym c.get16.ensures ∙ c.if-get16-ne60304.false) passes (sym c.keeps_symbols.ensures ∙ c.if-not-keeps_symbols.false))
