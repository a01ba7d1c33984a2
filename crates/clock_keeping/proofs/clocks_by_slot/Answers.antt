use borrow.Author.Rules.{rules}
use native.Mathlib.Omega.{arith}
use mathlib.Core.Bool.{false}
use mathlib.Core.Path.{sym, ◌∙◌, refl}
use Rattle.records.specs.Clock.{blank_clock}
use Rattle.records.specs.declared.clock.Clock.{Clock}
use Rattle.held_clocks.specs.Clocks.{replace_clock}
use Rattle.held_clocks.proofs.ClockLaws.{clock_named}
use Rattle.places.specs.Keeps.{held_clock, clocks_of}
use Rattle.places.proofs.KeepLaws.{length_mapped, slot_step, slot_end}
use Rattle.clock_keeping.proofs.clocks_by_slot.Goals as goal

pub loop-k-init : goal.loop-k-init
loop-k-init c = (search (rules, length_mapped), refl, refl)

pub loop-k-preserved : goal.loop-k-preserved
loop-k-preserved c =
    let l = c.loop-k in
    let p = c.args.p in
    let put = rw (c.held_clock-h.ensures, c.slot_named.ensures) at c.replace_clock.ensures in (
      l.invariant.0,
      c.replace_clock.auto.t ∙ l.invariant.1,
      rw put (sym (slot_step replace_clock (held_clock false p.epoch p.ssr) p.clocks l.k-index blank_clock l.t (λ (k : Clock). k.slot) (clock_named l.t) (omega arith)) ∙ l.invariant.2),
    )

pub returns : goal.returns
unfolding clocks_of
returns c =
    let l = c.loop-k in
    let p = c.args.p in
    sym (slot_end replace_clock (held_clock false p.epoch p.ssr) p.clocks l.k-index blank_clock l.t (λ (k : Clock). k.slot) (omega arith)) ∙ l.invariant.2
