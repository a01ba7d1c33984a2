use Prim.Native.Nat.{◌*◌, ◌≤◌}
use mathlib.Core.Path.{◌≡◌}
use Rattle.canonical_biases.specs.Canon.{bias_count}
use Rattle.bias_writing.specs.Put.{sats_put}
use Rattle.bias_writing.proofs.put_sats.Given as goal

abbrev pub invariant-loop-i : goal.invariant-loop-i
invariant-loop-i l =
    (l.used ≤ 255 * l.i) × (l.used ≡ bias_count l.rs l.i) × (l.room ≡ sats_put l.initial.room l.at l.rs l.bs l.i)
