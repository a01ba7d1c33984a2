use Prim.Native.Nat.{ℕ, ◌+◌, ◌-◌, ◌≤◌}
use mathlib.Core.Bool.{true}
use mathlib.Core.Path.{◌≡◌}
use lib.ListN.{length, take, drop}
use Rattle.held_clocks.specs.Clocks.{replace_clocks}
use Rattle.slots.specs.Slots.{nth_from, nth_set}
use Rattle.mask_bits.specs.Bits.{bits_at}
use Rattle.places.specs.Keeps.{held_clock, by_place}
use Rattle.clock_keeping.proofs.clocks_by_place.Given as goal

abbrev pub invariant-loop-j : goal.invariant-loop-j
invariant-loop-j l =
    (l.j ≤ 23)
    × (length l.p.clocks ≡ 23)
    × (length l.t ≡ length l.initial.t)
    × (bits_at l.t ≡ bits_at l.initial.t)
    × (replace_clocks l.t (by_place (held_clock true l.p.epoch l.p.ssr) (bits_at l.initial.t) (drop l.j (take l.p.count l.p.clocks)) (l.initial.n.0 + l.j)) ≡ replace_clocks l.initial.t (by_place (held_clock true l.p.epoch l.p.ssr) (bits_at l.initial.t) (take l.p.count l.p.clocks) l.initial.n.0))
    × ((k : ℕ) → nth_from (drop l.from.0 (bits_at l.initial.t)) (l.from.0 + 1) (l.n.0 + k) ≡ nth_set (bits_at l.initial.t) (l.initial.n.0 + l.j + k))
    × (l.n.0 ≡ 0 → l.from.0 ≡ 0)
    × (l.n.0 ≤ l.initial.n.0 + l.j)

abbrev pub decreases-loop-j : goal.decreases-loop-j
decreases-loop-j l = 23 - l.j
