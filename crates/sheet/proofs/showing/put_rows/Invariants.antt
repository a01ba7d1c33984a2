use Prim.Native.Nat.{◌-◌, ◌≤◌}
use mathlib.Core.Path.{◌≡◌}
use lib.ListN.{length}
use Rattle.sheet_reader.specs.Walk.{rows_end}
use Rattle.sheet.proofs.showing.put_rows.Given as goal

abbrev pub invariant-loop-row : goal.invariant-loop-row
invariant-loop-row l = (length l.room ≡ length l.initial.room) × (l.n ≤ length l.room)

abbrev pub decreases-loop-row : goal.decreases-loop-row
decreases-loop-row l = rows_end l.sheet - l.place
