use Rattle.std.proofs.Common.{◌≡◌, ◌+◌, ◌-◌, ◌≤◌}
use Rattle.parity.specs.Parity.{first_from, failing_from}
use Rattle.parity.proofs.failed_groups.Given as goal

abbrev pub invariant-loop-g : goal.invariant-loop-g
invariant-loop-g l = (l.failing + l.g ≤ 81) × (l.first ≡ first_from l.frame l.g (81 - l.g)) × (l.failing ≡ failing_from l.frame l.g (81 - l.g))
