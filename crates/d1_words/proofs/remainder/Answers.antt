use native.Mathlib.Omega.{arith}
use Prim.Native.Nat.{◌-◌}
use mathlib.Core.Path.{◌∙◌}
use Rattle.d1_words.specs.Code.{word_shifted, remainder_of}
use Rattle.d1_words.proofs.OverLaws.{over_start, over_turn, over_all, register_lt}
use Rattle.d1_words.proofs.remainder.Goals as goal

pub loop-k-init : goal.loop-k-init
loop-k-init c = over_start _ _ _

pub shift-r-requires : goal.shift-r-requires
shift-r-requires c = (rw c.loop-k.invariant (register_lt _ _), omega arith)

pub loop-k-preserved : goal.loop-k-preserved
loop-k-preserved c =
    let l = c.loop-k in
    rw (c.shift-r.ensures, l.invariant) (over_turn 1 word_shifted _ _ l.k (l.k - 1) _ (omega arith) (omega arith))

pub returns : goal.returns
unfolding remainder_of
returns c =
    let l = c.loop-k in l.invariant ∙ over_all 1 word_shifted (15 - l.k) 15 l.k _ (omega arith) (omega arith)
