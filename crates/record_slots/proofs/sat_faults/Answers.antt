use borrow.Author.Rules.{rules}
use Rattle.judge.specs.Judge.{sat_slots}
use Rattle.biases.specs.Biases.{blank_sat}
use Rattle.record_slots.proofs.SlotLaws.{slots_table}
use Rattle.record_slots.proofs.sat_faults.Goals as goal

pub returns-clause-high : goal.returns-clause-high
unfolding sat_slots
returns-clause-high c = rw (← (slots_table (λ x. x.slot) c.args.bs 31 blank_sat (search rules))) c.faults.ensures.high

pub returns-clause-again : goal.returns-clause-again
unfolding sat_slots
returns-clause-again c = rw (← (slots_table (λ x. x.slot) c.args.bs 31 blank_sat (search rules))) c.faults.ensures.again
