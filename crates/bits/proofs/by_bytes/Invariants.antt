use Prim.Native.Nat.{◌+◌, ◌*◌, ◌-◌, ◌/◌, ◌^◌, ◌≤◌, ◌<◌}
use mathlib.Core.Path.{◌≡◌}
use Rattle.bits.specs.Bits.{field_at}
use Rattle.bits.proofs.by_bytes.Given as goal

abbrev pub invariant-loop-left : goal.invariant-loop-left
invariant-loop-left l =
    (l.n ≤ 64) × (l.r < 8) × (l.left ≤ l.n) × (l.j + l.left ≤ l.at / 8 + l.n) × (l.x * 2 ^ l.left + field_at l.s (8 * l.j + l.r) l.left ≡ field_at l.s l.at l.n)

abbrev pub decreases-loop-left : goal.decreases-loop-left
decreases-loop-left l = l.left
