use native.Mathlib.Omega.{arith}
use borrow.Author.Tests.{lt-ltb, le-ltb}
use Prim.Native.Nat.{◌+◌, ◌-◌}
use mathlib.Core.Path.{◌≡◌, refl, sym, ap, ◌∙◌}
use lib.ListN.{get_or-replicate}
use Rattle.bits.specs.Pick.{pick}
use Rattle.bits.specs.Table.{table}
use Rattle.bits.proofs.TableLaws.{fill_start, fill_step}
use Rattle.contents.specs.Parts.{clock_nth, clocks_at}
use Rattle.records.specs.Clock.{blank_clock}
use Rattle.contents.proofs.BlankLaws.{fill_rest}
use Rattle.clock_reading.proofs.read_clocks.Goals.{then-slotted, else-slotted}
use Rattle.clock_reading.proofs.read_clocks.Goals as goal

pub loop-i-init : goal.loop-i-init
loop-i-init c = (refl, λ j h. get_or-replicate 23 j _ blank_clock h ∙ c.blank_clock-out.ensures, fill_start _ _)

pub loop-i-preserved : goal.loop-i-preserved
loop-i-preserved c =
    let i = c.loop-i in
    let each : c.if-slotted.each ≡ pick c.args.slotted 27 18 =
    elim c.if-slotted.branch [ then-slotted w ↦ rw w.if-slotted.true w.each-is | else-slotted w ↦ rw w.if-slotted.false w.each-is ] in
    (refl, i.invariant.1, fill_step _ i.i _ _ _ blank_clock (omega arith) i.invariant.2 (rw (lt-ltb i.i c.args.count (omega arith), ← each) c.clock_at.ensures))

pub returns : goal.returns
unfolding clocks_at
returns c =
    let i = c.loop-i in
    let a = c.args in
    let f = clock_nth a.slotted a.s.now a.at a.count in
    let all : i.i + (23 - i.i) ≡ 23 = omega arith in
    i.invariant.2
    ∙ fill_rest f _ blank_clock (23 - i.i) i.i (i.invariant.0 ∙ sym all) (λ j h k. rw (le-ltb j a.count (omega arith)) (sym (i.invariant.1 j (omega arith))))
    ∙ ap (table f) all
