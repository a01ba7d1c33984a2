use Prim.Native.Nat.{◌+◌, ◌*◌, ◌≤◌}
use mathlib.Core.Path.{◌≡◌}
use lib.ListN.{drop}
use Rattle.slots.specs.Slots.{set_count}
use Rattle.mask_bits.specs.Bits.{bits_at}
use Rattle.mask_counts.proofs.set_count.Given as goal

abbrev pub invariant-loop-k : goal.invariant-loop-k
invariant-loop-k l =
    (l.n ≤ 51 * l.k) × (l.n + set_count (drop (51 * l.k) (bits_at l.t)) ≡ set_count (bits_at l.t))
