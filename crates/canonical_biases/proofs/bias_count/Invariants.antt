use Prim.Native.Nat.{◌*◌, ◌≤◌}
use mathlib.Core.Path.{◌≡◌}
use Rattle.canonical_biases.specs.Canon.{bias_count}
use Rattle.canonical_biases.proofs.bias_count.Given as goal

abbrev pub invariant-loop-r : goal.invariant-loop-r
invariant-loop-r l = (l.n ≤ 255 * l.r-index) × (l.n ≡ bias_count l.rs l.r-index)
