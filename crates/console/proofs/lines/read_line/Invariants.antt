use Prim.Native.Nat.{◌-◌}
use mathlib.Core.Path.{◌≡◌}
use lib.ListN.{length}
use Rattle.console.proofs.lines.read_line.Given as goal

abbrev pub invariant-loop-have : goal.invariant-loop-have
invariant-loop-have l = length l.room ≡ length l.initial.room

abbrev pub decreases-loop-have : goal.decreases-loop-have
decreases-loop-have l = length l.room - l.have
