use mathlib.Core.Path.{◌≡◌}
use Rattle.bits.specs.Bytes.{store_at}
use Rattle.flat_numbers.specs.Rows.{rows_to}
use Rattle.flat_forms.specs.Write.{flat_clock_row}
use Rattle.flat_forms.proofs.put_clocks.Given as goal

abbrev pub invariant-loop-i : goal.invariant-loop-i
invariant-loop-i l = l.room ≡ store_at l.initial.room 48 (rows_to (flat_clock_row l.ks) l.i)
