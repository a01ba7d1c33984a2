use Prim.Native.Nat.{◌≤◌}
use Rattle.report_lines.proofs.rows.absent_count.Given as goal

abbrev pub invariant-loop-i : goal.invariant-loop-i
invariant-loop-i l = l.n ≤ l.i
