use Rattle.std.proofs.Common.{◌≡◌, ◌+◌, ◌++◌, drop, replicate}
use Rattle.bits.specs.Table.{table}
use Rattle.parity_making.specs.Walk.{carries, walked}
use Rattle.parity_making.proofs.walk.Given as goal

abbrev pub invariant-loop-k : goal.invariant-loop-k
invariant-loop-k l = l.out ≡ table (walked carries l.d l.x) (l.k + 1) ++ drop (l.k + 1) (replicate 82 l.x)
