use mathlib.Core.Path.{◌≡◌}
use Rattle.bits.specs.Bits.{put_at}
use Rattle.put_bits.proofs.put.Given as goal

abbrev pub invariant-loop-k : goal.invariant-loop-k
invariant-loop-k l = put_at l.room l.at l.k l.x ≡ put_at l.initial.room l.at l.n l.v
