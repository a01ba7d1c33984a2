use mathlib.Core.Path.{◌≡◌}
use mathlib.Core.List.{◌++◌}
use lib.ListN.{drop}
use Rattle.bits.specs.Table.{table}
use Rattle.making.specs.Units.{frame_byte}
use Rattle.making.proofs.put_bytes.Given as goal

abbrev pub invariant-loop-j : goal.invariant-loop-j
invariant-loop-j l = l.room ≡ table (frame_byte l.u) l.j ++ drop l.j l.initial.room
