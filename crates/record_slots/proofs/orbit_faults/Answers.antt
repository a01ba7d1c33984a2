use borrow.Author.Rules.{rules}
use Rattle.judge.specs.Judge.{orbit_slots}
use Rattle.records.specs.Orbit.{blank_orbit}
use Rattle.record_slots.proofs.SlotLaws.{slots_table}
use Rattle.record_slots.proofs.orbit_faults.Goals as goal

pub returns-clause-high : goal.returns-clause-high
unfolding orbit_slots
returns-clause-high c = rw (← (slots_table (λ x. x.slot) c.args.os 6 blank_orbit (search rules))) c.faults.ensures.high

pub returns-clause-again : goal.returns-clause-again
unfolding orbit_slots
returns-clause-again c = rw (← (slots_table (λ x. x.slot) c.args.os 6 blank_orbit (search rules))) c.faults.ensures.again
