use mathlib.Core.Path.{◌≡◌}
use lib.ListN.{length}
use Rattle.held_clocks.specs.Clocks.{dropped_clocks}
use Rattle.held_clocks.proofs.drop_placed.Given as goal

abbrev pub invariant-loop-i : goal.invariant-loop-i
invariant-loop-i l = (length l.t ≡ length l.initial.t) × (l.t ≡ dropped_clocks l.initial.t l.i)
