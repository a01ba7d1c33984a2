use Prim.Native.Nat.{◌*◌, ◌≤◌}
use mathlib.Core.Path.{◌≡◌}
use lib.ListN.{length}
use Rattle.biases.specs.Biases.{sat_place, biases_at, filled, no_bias}
use Rattle.biases.proofs.read_row.Given as goal

abbrev pub invariant-loop : goal.invariant-loop
invariant-loop l =
    (l.p ≡ sat_place l.s l.at l.counter) × (l.used ≡ length (biases_at l.s l.at l.counter)) × (l.used ≤ 15 * l.counter) × (l.out ≡ filled 25 no_bias (biases_at l.s l.at l.counter))
