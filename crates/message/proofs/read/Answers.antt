use mathlib.Core.Path.{sym, ◌∙◌}
use borrow.Author.Tests.{eq-eqb, ne_eqb}
use Rattle.verdict.proofs.NumberLaws.{number_last}
use Rattle.message.specs.Read.{answer, read_message}
use Rattle.message.proofs.read.Goals as goal

pub returns-then-s-ne61 : goal.returns-then-s-ne61
unfolding read_message answer
returns-then-s-ne61 c = rw (ne_eqb _ _ c.if-s-ne61.true)

pub returns-then-get8-ne0 : goal.returns-then-get8-ne0
unfolding read_message answer
returns-then-get8-ne0 c = rw (eq-eqb _ _ c.if-s-ne61.false, ← c.get8.ensures, ne_eqb _ _ c.if-get8-ne0.true)

pub returns-then-not-check_ok : goal.returns-then-not-check_ok
unfolding read_message answer
returns-then-not-check_ok c =
    rw (
      eq-eqb _ _ c.if-s-ne61.false,
      ← c.get8.ensures,
      eq-eqb _ _ c.if-get8-ne0.false,
      sym c.check_ok.ensures ∙ c.if-not-check_ok.true,
    )

pub returns : goal.returns
unfolding read_message
returns c =
    rw (
      eq-eqb _ _ c.if-s-ne61.false,
      ← c.get8.ensures,
      eq-eqb _ _ c.if-get8-ne0.false,
      sym c.check_ok.ensures ∙ c.if-not-check_ok.false,
      number_last _,
    ) c.read_at.ensures
