use Prim.Native.Nat.{◌≤◌}
use Rattle.console.proofs.words.number_of.Given as goal

abbrev pub invariant-loop-b : goal.invariant-loop-b
invariant-loop-b l = l.v ≤ 999999999
