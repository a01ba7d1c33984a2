use native.Mathlib.Omega.{arith}
use Prim.Native.Nat.{◌+◌, ◌-◌, ◌/◌, ◌%◌}
use mathlib.Core.Path.{◌≡◌, ◌∙◌}
use lib.Dec.{lit<}
use Rattle.bits.proofs.FieldLaws.{got_field, got_lt}
use Rattle.check24.proofs.EightLaws.{fed_lt, turn, turn_end, from_first}
use Rattle.check24.proofs.check.Goals as goal

pub feed-r-requires : goal.feed-r-requires
feed-r-requires c =
    let n = c.args.n in
    (lit< tt, rw c.get.ensures (got_lt 48 64 _ _ (n % 48) (omega arith) (omega arith)))

pub loop-k-init : goal.loop-k-init
loop-k-init c =
    let a = c.args in
    let e = c.get.ensures ∙ got_field 64 _ _ (a.n % 48) (omega arith) in
    let p : a.at + a.n % 48 + 0 ≡ a.at + a.n % 48 = omega arith in
    let q : a.n / 48 - 0 ≡ a.n / 48 = omega arith in (
      rw (c.feed-r.ensures, e, p, q) (from_first _ a.at a.n),
      rw (c.feed-r.ensures, e) (fed_lt _ 0 _ (a.n % 48) (omega arith) (lit< tt)),
    )

pub feed-r-requires-in-loop-k : goal.feed-r-requires-in-loop-k
feed-r-requires-in-loop-k c =
    (c.loop-k.invariant.1, rw c.get-in-loop-k.ensures (got_lt 48 64 _ _ 48 (omega arith) (omega arith)))

pub loop-k-preserved : goal.loop-k-preserved
loop-k-preserved c =
    let l = c.loop-k in
    let n = c.args.n in (
      rw (c.feed-r-in-loop-k.ensures, c.get-in-loop-k.ensures) (turn _ l.r (c.args.at + n % 48) l.k (n / 48) (omega arith) l.invariant.1 ∙ l.invariant.0),
      rw (c.feed-r-in-loop-k.ensures, c.get-in-loop-k.ensures) (fed_lt _ _ _ 48 (omega arith) l.invariant.1),
    )

pub returns : goal.returns
returns c = turn_end _ _ _ _ (omega arith) ∙ c.loop-k.invariant.0
