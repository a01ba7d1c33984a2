use borrow.Author.Rules.{rules}
use Rattle.judge.specs.Judge.{clock_slots}
use Rattle.records.specs.Clock.{blank_clock}
use Rattle.record_slots.proofs.SlotLaws.{slots_table}
use Rattle.record_slots.proofs.clock_faults.Goals as goal

pub returns-clause-high : goal.returns-clause-high
unfolding clock_slots
returns-clause-high c = rw (← (slots_table (λ x. x.slot) c.args.ks 23 blank_clock (search rules))) c.faults.ensures.high

pub returns-clause-again : goal.returns-clause-again
unfolding clock_slots
returns-clause-again c = rw (← (slots_table (λ x. x.slot) c.args.ks 23 blank_clock (search rules))) c.faults.ensures.again
