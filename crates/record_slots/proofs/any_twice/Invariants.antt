use mathlib.Core.Path.{◌≡◌}
use mathlib.Core.List.{map}
use lib.ListN.{length}
use Rattle.bits.specs.Some.{any_of}
use Rattle.judge.specs.Judge.{is_again}
use Rattle.record_slots.proofs.any_twice.Given as goal

abbrev pub invariant-loop-first : goal.invariant-loop-first
invariant-loop-first g l = any_of is_again (map g.T.Slotted.slot_in l.rest) ≡ any_of is_again (map g.T.Slotted.slot_in l.fn.records)

abbrev pub decreases-loop-first : goal.decreases-loop-first
decreases-loop-first g l = length l.rest
