use mathlib.Core.Path.{◌≡◌}
use Rattle.biases.specs.Biases.{sat_place}
use Rattle.biases.proofs.end_from.Given as goal

abbrev pub invariant-loop : goal.invariant-loop
invariant-loop l = l.p ≡ sat_place l.s l.at l.counter
