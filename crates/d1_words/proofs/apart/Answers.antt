use native.Mathlib.Omega.{arith}
use Prim.Native.Nat.{◌-◌, ◌/◌, ◌^◌}
use mathlib.Core.Path.{◌∙◌}
use Rattle.d1_words.specs.Word.{wider, spread}
use Rattle.d1_words.proofs.OverLaws.{over_start, over_turn, over_all, wider_room}
use Rattle.d1_words.proofs.apart.Goals as goal

pub loop-k-init : goal.loop-k-init
loop-k-init c = over_start _ _ _

pub overflow_mul-r : goal.overflow_mul-r
overflow_mul-r c =
    let l = c.loop-k in
    rw l.invariant (omega (arith, wider_room (15 - l.k) (c.args.a / 2 ^ l.k) (omega arith)))

pub overflow_add-r : goal.overflow_add-r
overflow_add-r c =
    let l = c.loop-k in
    rw l.invariant (omega (arith, wider_room (15 - l.k) (c.args.a / 2 ^ l.k) (omega arith)))

pub loop-k-preserved : goal.loop-k-preserved
loop-k-preserved c =
    let l = c.loop-k in
    rw l.invariant (over_turn 1 wider _ _ l.k (l.k - 1) _ (omega arith) (omega arith))

pub returns : goal.returns
unfolding spread
returns c =
    let l = c.loop-k in l.invariant ∙ over_all 1 wider (15 - l.k) 15 l.k _ (omega arith) (omega arith)
