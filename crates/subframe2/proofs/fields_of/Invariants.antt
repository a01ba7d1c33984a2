use mathlib.Core.Path.{◌≡◌}
use mathlib.Core.List.{◌++◌}
use lib.ListN.{drop}
use Rattle.bits.specs.Table.{table}
use Rattle.subframe2.specs.Fields.{offset_of, field_of}
use Rattle.subframe2.proofs.fields_of.Given as goal

abbrev pub invariant-loop-i : goal.invariant-loop-i
invariant-loop-i l =
    (l.at ≡ offset_of l.i) × (l.out ≡ table (field_of l.s) l.i ++ drop l.i l.initial.out)
