use mathlib.Core.Path.{◌≡◌}
use Rattle.biases.specs.Biases.{sat_place, sats_at, filled, blank_sat}
use Rattle.biases.proofs.read_sats.Given as goal

abbrev pub invariant-loop-i : goal.invariant-loop-i
invariant-loop-i l =
    (l.p ≡ sat_place l.s l.at l.i) × (l.out ≡ filled 31 blank_sat (sats_at l.s l.at l.i))
