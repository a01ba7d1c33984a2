use native.Mathlib.Omega.{arith}
use mathlib.Core.Path.{◌≡◌, ap, ◌∙◌}
use Rattle.biases.specs.Biases.{next_sat, sat_place}
use Rattle.biases.proofs.PlaceLaws.{place_start, place_step, place_near}
use Rattle.biases.proofs.end_from.Goals as goal

pub loop-init : goal.loop-init
loop-init c = place_start _ _

pub next_sat-p-requires : goal.next_sat-p-requires
next_sat-p-requires c =
    let l = c.loop in
    let a = c.args in
    let near = place_near a.s.now a.at l.counter in
    omega arith

pub loop-preserved : goal.loop-preserved
loop-preserved c =
    let l = c.loop in
    let a = c.args in
    (c.next_sat-p.ensures ∙ ap (next_sat a.s.now) l.invariant ∙ place_step a.s.now a.at l.counter)

pub returns : goal.returns
returns c =
    let l = c.loop in
    let a = c.args in
    let e : l.counter ≡ a.count = omega arith in
    l.invariant ∙ ap (sat_place a.s.now a.at) e
