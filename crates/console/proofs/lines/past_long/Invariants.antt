use mathlib.Core.Path.{◌≡◌}
use lib.ListN.{length}
use Rattle.console.proofs.lines.past_long.Given as goal

abbrev pub invariant-loop : goal.invariant-loop
invariant-loop l = length l.room ≡ length l.initial.room
