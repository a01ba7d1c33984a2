use Prim.Native.Nat.{ℕ, ◌<◌}
use mathlib.Core.Path.{◌≡◌}
use mathlib.Core.List.{◌++◌}
use lib.ListN.{length, drop, get_or}
use Rattle.bits.specs.Table.{table}
use Rattle.contents.specs.Parts.{clock_nth}
use Rattle.records.specs.Clock.{blank_clock}
use Rattle.clock_reading.proofs.read_clocks.Given as goal

abbrev pub invariant-loop-i : goal.invariant-loop-i
invariant-loop-i l =
    (length l.initial.out ≡ 23)
    × ((j : ℕ) → j < 23 → get_or l.initial.out j blank_clock ≡ blank_clock)
    × (l.out ≡ table (clock_nth l.slotted l.s l.at l.count) l.i ++ drop l.i l.initial.out)
