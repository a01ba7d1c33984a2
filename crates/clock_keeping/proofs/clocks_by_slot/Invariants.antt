use mathlib.Core.Bool.{false}
use mathlib.Core.Path.{◌≡◌}
use lib.ListN.{length, drop}
use Rattle.records.specs.declared.clock.Clock.{Clock}
use Rattle.held_clocks.specs.Clocks.{replace_clocks}
use Rattle.places.specs.Keeps.{held_clock, by_slot}
use Rattle.clock_keeping.proofs.clocks_by_slot.Given as goal

abbrev pub invariant-loop-k : goal.invariant-loop-k
invariant-loop-k l =
    (length l.fn.p.clocks ≡ 23) × (length l.t ≡ length l.initial.t) × (replace_clocks l.t (by_slot (λ (k : Clock). k.slot) (held_clock false l.fn.p.epoch l.fn.p.ssr) (drop l.k-index l.fn.p.clocks)) ≡ replace_clocks l.initial.t (by_slot (λ (k : Clock). k.slot) (held_clock false l.fn.p.epoch l.fn.p.ssr) l.fn.p.clocks))
