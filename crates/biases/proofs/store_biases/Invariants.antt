use mathlib.Core.Path.{◌≡◌}
use lib.ListN.{length}
use Rattle.biases.specs.Biases.{bias_nth, stored}
use Rattle.biases.proofs.store_biases.Given as goal

abbrev pub invariant-loop-j : goal.invariant-loop-j
invariant-loop-j l =
    (length l.fn.row ≡ 25) × (l.row ≡ stored l.fn.row l.used (bias_nth l.s l.at) l.j)
