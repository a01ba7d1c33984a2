use native.Mathlib.Omega.{arith}
use mathlib.Core.Path.{◌≡◌, ap, ◌∙◌, sym}
use lib.ListN.{length}
use Rattle.biases.specs.declared.BiasSat.{BiasSat}
use Rattle.biases.specs.Biases.{next_sat, biases_at, filled, no_bias}
use Rattle.biases.proofs.FilledLaws.{filled_none}
use Rattle.biases.proofs.PlaceLaws.{place_start, place_step, place_near, biases_start}
use Rattle.biases.proofs.RowLaws.{row_more, used_more, used_near}
use Rattle.biases.proofs.read_row.Goals as goal

pub loop-init : goal.loop-init
loop-init c =
    let a = c.args in
    let none = biases_start a.s.now a.at in
    (place_start _ _, ap length (sym none), omega arith, filled_none 25 no_bias ∙ ap (filled 25 no_bias) (sym none))

pub store_biases-requires : goal.store_biases-requires
store_biases-requires c =
    let l = c.loop in
    let a = c.args in
    let near = place_near a.s.now a.at l.counter in
    (omega arith, omega arith)

pub next_sat-p-requires : goal.next_sat-p-requires
next_sat-p-requires c =
    let l = c.loop in
    let a = c.args in
    let near = place_near a.s.now a.at l.counter in
    omega arith

pub loop-preserved : goal.loop-preserved
loop-preserved c =
    let l = c.loop in
    let a = c.args in
    let s = a.s.now in
    let n = ap (λ (r : BiasSat). r.count) c.sat_at-sat.ensures in (
      c.next_sat-p.ensures ∙ ap (next_sat s) l.invariant.0 ∙ place_step s a.at l.counter,
      used_more s a.at l.counter _ _ _ l.invariant.0 l.invariant.1 n,
      used_near s a.at l.counter l.p l.used _ l.invariant.0 l.invariant.1 n l.invariant.2,
      row_more s a.at l.counter _ _ _ l.invariant.0 l.invariant.1 n _ _ l.invariant.3 c.store_biases.ensures,
    )

pub returns : goal.returns
returns c =
    let l = c.loop in
    let a = c.args in
    let e : l.counter ≡ a.count = omega arith in
    l.invariant.3 ∙ ap (λ n. filled 25 no_bias (biases_at a.s.now a.at n)) e
