use Rattle.sheet_checking.proofs.CheckLaws.{Walked}
use Rattle.sheet_checking.proofs.check_rows.Given as goal

abbrev pub invariant-loop-k : goal.invariant-loop-k
invariant-loop-k l = Walked l.ledger l.issues l.sheet l.rows l.seen l.k
