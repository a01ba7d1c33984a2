use mathlib.Core.Path.{◌≡◌}
use Rattle.bits.specs.Bytes.{store_at}
use Rattle.flat_numbers.specs.Rows.{rows_to}
use Rattle.flat_biases.specs.Biases.{flat_bias_row}
use Rattle.flat_biases.proofs.put_biases.Given as goal

abbrev pub invariant-loop-i : goal.invariant-loop-i
invariant-loop-i l = l.room ≡ store_at l.initial.room 364 (rows_to (flat_bias_row l.bs) l.i)
