use Rattle.verdict.specs.Verdict.{number_in}
use Rattle.ledger_calls.proofs.ReplayLaws.{Taking}
use Rattle.replaying.proofs.take_all.Given as goal

abbrev pub invariant-loop-i : goal.invariant-loop-i
invariant-loop-i l = Taking number_in l.initial.t l.log l.initial.verdicts l.t l.verdicts l.i
