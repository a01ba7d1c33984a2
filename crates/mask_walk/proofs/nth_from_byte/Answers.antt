use native.Mathlib.Omega.{arith}
use Prim.Native.Nat.{◌+◌, ◌*◌}
use mathlib.Core.Path.{◌≡◌, sym, ◌∙◌, refl}
use Rattle.mask_bits.proofs.BitLaws.{nth_many}
use Rattle.mask_walk.proofs.nth_from_byte.Goals as goal

pub loop-j-init : goal.loop-j-init
loop-j-init c = refl

pub returns-then-left-c : goal.returns-then-left-c
returns-then-left-c c = c.nth_by_bits.ensures ∙ sym c.loop-j.invariant

pub loop-j-preserved : goal.loop-j-preserved
loop-j-preserved c =
    let l = c.loop-j in
    let o = c.ones_in_byte-c in
    let e : 8 * l.j + 8 ≡ 8 * (l.j + 1) = omega arith in
    l.invariant ∙ rw e at (nth_many c.args.t.now (8 * l.j) 8 o.result (omega arith) o.ensures l.left c.if-left-c.false)

pub returns : goal.returns
returns c =
    let l = c.loop-j in
    let e : l.j ≡ 31 = omega arith in
    c.nth_by_bits-2.ensures ∙ sym (rw e at l.invariant)
