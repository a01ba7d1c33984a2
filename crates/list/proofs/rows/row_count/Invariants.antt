use Prim.Native.Nat.{◌+◌, ◌-◌, ◌≤◌}
use mathlib.Core.Path.{◌≡◌}
use lib.ListN.{length}
use Rattle.lookback.specs.Walk.{count_from}
use Rattle.list.specs.Rows.{row_in}
use Rattle.list.proofs.rows.row_count.Given as goal

abbrev pub invariant-loop-i : goal.invariant-loop-i
invariant-loop-i l =
    (l.n ≤ l.i) × (length l.issues ≡ 255) × (l.n + count_from (row_in l.ledger l.issues) (255 - l.i) (l.i + 1) ≡ count_from (row_in l.ledger l.issues) 255 1)
