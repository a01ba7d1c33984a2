use native.Mathlib.Omega.{arith}
use Prim.Native.Nat.{ℕ, ◌+◌, ◌-◌}
use mathlib.Core.Logic.{inr}
use lib.ListN.{length, length-take, length-drop, take, drop}
use mathlib.Core.Path.{◌≡◌, sym}
use Rattle.lent.proofs.PastLaws.{store_past, store_mid, store_whole}
use Rattle.lent.proofs.store.Goals as goal

pub returns-then-r-room : goal.returns-then-r-room
returns-then-r-room c =
    let a = c.args in
    let e : a.at + length a.r.now - a.at ≡ length a.r.now = omega arith in
    rw (e, c.copy_from_slice.ensures.after) (store_whole a.t.now a.at a.r.now (omega arith))

pub returns-else-r-room : goal.returns-else-r-room
returns-else-r-room c =
    let a = c.args in
    let n = length a.t.now - a.at in
    let e : length (take n (drop a.at a.t.now)) ≡ n = omega (arith, length-take {A = ℕ}, length-drop {A = ℕ}) in
    rw (c.store_part.ensures, e) (store_mid a.t.now a.at a.r.now n (omega arith) (omega arith) (inr (omega arith)))

pub returns-else-at-t : goal.returns-else-at-t
returns-else-at-t c = sym (store_past c.args.t.now c.args.at c.args.r.now c.if-at-t.false)
