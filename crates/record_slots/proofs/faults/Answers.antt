use mathlib.Core.Path.{sym, ◌∙◌}
use Rattle.judge.proofs.JudgeLaws.{high_none, twice_none}
use Rattle.record_slots.proofs.faults.Goals as goal

pub returns-then-not-any_named-clause-high : goal.returns-then-not-any_named-clause-high
returns-then-not-any_named-clause-high g c = sym (high_none _ (sym c.any_named.ensures ∙ c.if-not-any_named.true))

pub returns-then-not-any_named-clause-again : goal.returns-then-not-any_named-clause-again
returns-then-not-any_named-clause-again g c = sym (twice_none _ (sym c.any_named.ensures ∙ c.if-not-any_named.true))
