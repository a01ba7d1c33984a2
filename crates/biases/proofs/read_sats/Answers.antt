use native.Mathlib.Omega.{arith}
use mathlib.Core.Path.{◌≡◌, ap, ◌∙◌, sym}
use Rattle.biases.specs.Biases.{next_sat, sats_at, filled, blank_sat}
use Rattle.biases.proofs.PlaceLaws.{place_start, place_step, place_near, sats_start, sats_step, length_sats}
use Rattle.biases.proofs.FilledLaws.{filled_none, filled_set}
use Rattle.biases.proofs.read_sats.Goals as goal

pub loop-i-init : goal.loop-i-init
loop-i-init c =
    let a = c.args in
    (place_start _ _, filled_none 31 blank_sat ∙ ap (filled 31 blank_sat) (sym (sats_start a.s.now a.at)))

pub next_sat-p-requires : goal.next_sat-p-requires
next_sat-p-requires c =
    let l = c.loop-i in
    let a = c.args in
    let near = place_near a.s.now a.at l.i in
    omega arith

pub loop-i-preserved : goal.loop-i-preserved
loop-i-preserved c =
    let l = c.loop-i in
    let a = c.args in
    let s = a.s.now in (
      c.next_sat-p.ensures ∙ ap (next_sat s) l.invariant.0 ∙ place_step s a.at l.i,
      rw (c.sat_at.ensures, l.invariant.0, l.invariant.1)
          (filled_set 31 blank_sat (sats_at s a.at l.i) l.i _ (length_sats s a.at l.i) (omega arith)
          ∙ ap (filled 31 blank_sat) (sym (sats_step s a.at l.i))),
    )

pub returns : goal.returns
returns c =
    let l = c.loop-i in
    let a = c.args in
    let e : l.i ≡ a.count = omega arith in
    l.invariant.1 ∙ ap (λ n. filled 31 blank_sat (sats_at a.s.now a.at n)) e
