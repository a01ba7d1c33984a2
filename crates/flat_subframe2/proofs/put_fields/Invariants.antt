use mathlib.Core.Path.{◌≡◌}
use Rattle.bits.specs.Bytes.{store_at}
use Rattle.flat_numbers.specs.Rows.{rows_to}
use Rattle.flat_subframe2.specs.Write.{flat_field}
use Rattle.flat_subframe2.proofs.put_fields.Given as goal

abbrev pub invariant-loop-i : goal.invariant-loop-i
invariant-loop-i l = l.room ≡ store_at l.initial.room 0 (rows_to (flat_field l.fn.fields) l.i)
