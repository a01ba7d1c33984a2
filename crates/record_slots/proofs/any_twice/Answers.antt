use mathlib.Core.Path.{sym, ◌∙◌}
use Rattle.record_slots.proofs.SlotLaws.{again_first, again_end}
use Rattle.record_slots.proofs.any_twice.Goals as goal

pub returns-then-again : goal.returns-then-again
returns-then-again g c =
    sym (again_first _ _ _ _ _ _ c.in-Some.ensures.cases.0 c.slot.ensures (sym c.if-again.true ∙ c.again.ensures)) ∙ c.loop-first.invariant

pub loop-first-preserved : goal.loop-first-preserved
loop-first-preserved g c =
    sym (again_first _ _ _ _ _ _ c.in-Some.ensures.cases.0 c.slot.ensures (sym c.if-again.false ∙ c.again.ensures)) ∙ c.loop-first.invariant

pub returns : goal.returns
returns g c = sym (again_end _ _ c.in_default.ensures.cases) ∙ c.loop-first.invariant
