use native.Mathlib.Omega.{arith}
use Prim.Native.Nat.{ℕ}
use mathlib.Core.Path.{◌≡◌, sym, ap, ◌∙◌, refl}
use mathlib.Core.List.{List}
use Rattle.in_force.specs.Bytes.{take_bytes, frame_at}
use Rattle.in_force.proofs.LogLaws.{run_start, run_step}
use Rattle.ledger.proofs.replay.take_log.Goals as goal

pub loop-i-init : goal.loop-i-init
loop-i-init c = (refl, sym (run_start _ _))

pub loop-i-preserved : goal.loop-i-preserved
loop-i-preserved c =
    let l = c.loop-i in
    let a = c.args in (
      c.take_nth.auto.t ∙ l.invariant.0,
      c.take_nth.ensures.bytes
          ∙ ap (λ (s : List ℕ). take_bytes s (frame_at a.log.now l.i)) l.invariant.1
          ∙ sym (run_step a.t.now a.log.now l.i),
    )

pub returns : goal.returns
returns c =
    let l = c.loop-i in
    let all : l.i ≡ c.frame_count-i-end.result = omega (arith, l.auto.i-end) in
    l.invariant.1 ∙ rw (all, c.frame_count-i-end.ensures)
