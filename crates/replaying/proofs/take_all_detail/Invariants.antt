use Rattle.answers.specs.Detail.{detail_in}
use Rattle.ledger_calls.proofs.ReplayLaws.{Taking}
use Rattle.replaying.proofs.take_all_detail.Given as goal

abbrev pub invariant-loop-i : goal.invariant-loop-i
invariant-loop-i l = Taking detail_in l.initial.t l.log l.initial.details l.t l.details l.i
