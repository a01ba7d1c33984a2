use Prim.Native.Nat.{◌+◌, ◌*◌, ◌≤◌}
use mathlib.Core.Path.{◌≡◌}
use lib.ListN.{drop}
use Rattle.slots.specs.Slots.{set_count}
use Rattle.mask_bits.specs.Bits.{bits_at}
use Rattle.mask_counts.proofs.is_past_last.Given as goal

abbrev pub invariant-loop-i : goal.invariant-loop-i
invariant-loop-i l =
    (l.n ≤ 51 * l.i) × (l.n + set_count (drop (51 * l.i) (bits_at l.t)) ≡ set_count (bits_at l.t))
