use Prim.Native.Nat.{◌+◌, ◌-◌, ◌≤◌}
use mathlib.Core.Path.{◌≡◌}
use lib.ListN.{length}
use Rattle.lookback.specs.Walk.{nth_row_from, nth_of}
use Rattle.list.specs.Rows.{row_in, list_in}
use Rattle.list.proofs.rows.row_at.Given as goal

abbrev pub invariant-loop-i : goal.invariant-loop-i
invariant-loop-i l =
    (1 ≤ l.left) × (length l.issues ≡ 255) × (nth_row_from (row_in l.ledger l.issues) (255 - l.i) (l.i + 1) l.left ≡ nth_of (list_in l.ledger l.issues) l.n)
