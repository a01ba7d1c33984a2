use mathlib.Core.Path.{◌≡◌}
use lib.ListN.{length}
use Rattle.d1.proofs.fields.data_of.Given as goal

abbrev pub invariant-loop-i : goal.invariant-loop-i
invariant-loop-i l = length l.w ≡ 56
