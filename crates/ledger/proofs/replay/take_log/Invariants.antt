use mathlib.Core.Path.{◌≡◌}
use lib.ListN.{length}
use Rattle.in_force.specs.Bytes.{run_bytes, frames_to}
use Rattle.ledger.proofs.replay.take_log.Given as goal

abbrev pub invariant-loop-i : goal.invariant-loop-i
invariant-loop-i l = (length l.t ≡ length l.initial.t) × (l.t ≡ run_bytes l.initial.t (frames_to l.log l.i))
