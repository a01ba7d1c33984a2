use native.Mathlib.Omega.{arith}
use Prim.Native.Nat.{◌+◌, ◌*◌}
use mathlib.Core.Path.{◌≡◌}
use Rattle.slots.proofs.SlotLaws.{count_end}
use Rattle.mask_bits.specs.Bits.{bits_at}
use Rattle.mask_bits.proofs.BitLaws.{length_bits, count_few, count_many}
use Rattle.mask_counts.proofs.set_count.Goals as goal

pub loop-k-init : goal.loop-k-init
loop-k-init c = (omega arith, omega arith)

pub overflow_add-n : goal.overflow_add-n
overflow_add-n c =
    let l = c.loop-k in
    let t = c.args.t.now in
    omega (arith, count_few t (32 + 51 * l.k) 51)

pub loop-k-preserved : goal.loop-k-preserved
loop-k-preserved c =
    let l = c.loop-k in
    let t = c.args.t.now in
    let f = c.ones_in_fifth-n in
    let e : 51 * (l.k + 1) ≡ 51 * l.k + 51 = omega arith in
    let turn = count_many t (51 * l.k) 51 f.result (omega arith) f.ensures in
    (omega (arith, count_few t (32 + 51 * l.k) 51), rw e (omega (arith, turn, l.invariant.1)))

pub returns : goal.returns
returns c =
    let l = c.loop-k in
    let t = c.args.t.now in
    let e : 51 * l.k ≡ 255 = omega arith in
    omega (arith, l.invariant.1, count_end (bits_at t) (51 * l.k) (omega (arith, length_bits t)))
