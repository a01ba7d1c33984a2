use native.Mathlib.Omega.{arith}
use Prim.Native.Nat.{ℕ, ◌+◌}
use mathlib.Core.List.{List}
use mathlib.Core.Path.{◌≡◌, sym, ap, ◌∙◌, refl}
use Rattle.lent.proofs.DropLaws.{drop_start, drop_step}
use Rattle.held_clocks.specs.Clocks.{clocks_kept, held_clock_of, held_clock_bytes, drop_clock}
use Rattle.held_clocks.proofs.drop_placed.Goals as goal

pub loop-i-init : goal.loop-i-init
loop-i-init c = (refl, sym (drop_start clocks_kept held_clock_of held_clock_bytes 12 _ 36))

pub loop-i-preserved : goal.loop-i-preserved
loop-i-preserved c =
    let l = c.loop-i in
    let a = c.args in
    (c.drop_clock.auto.t ∙ l.invariant.0, c.drop_clock.ensures ∙ ap (λ (s : List ℕ). drop_clock s (l.i + 1)) l.invariant.1 ∙ sym (drop_step clocks_kept held_clock_of held_clock_bytes 12 a.t.now 36 l.i))

pub returns : goal.returns
returns c =
    let l = c.loop-i in
    let e : l.i ≡ 255 = omega arith in
    l.invariant.1 ∙ rw e
