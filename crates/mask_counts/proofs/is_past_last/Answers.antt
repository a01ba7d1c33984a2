use borrow.Author.Tests.{le-ltb}
use native.Mathlib.Omega.{arith}
use Prim.Native.Nat.{ℕ, ◌+◌, ◌*◌}
use mathlib.Core.Path.{◌≡◌, sym, ap}
use lib.Dec.{ltb}
use Rattle.slots.specs.Slots.{set_count}
use Rattle.slots.proofs.SlotLaws.{count_end}
use Rattle.mask_bits.specs.Bits.{bits_at}
use Rattle.mask_bits.proofs.BitLaws.{length_bits, count_few, count_many}
use Rattle.mask_counts.proofs.is_past_last.Goals as goal

pub loop-i-init : goal.loop-i-init
loop-i-init c = (omega arith, omega arith)

pub overflow_add-n : goal.overflow_add-n
overflow_add-n c =
    let l = c.loop-i in
    let t = c.args.t.now in
    omega (arith, count_few t (32 + 51 * l.i) 51)

pub returns-then-sought-n : goal.returns-then-sought-n
returns-then-sought-n c =
    let l = c.loop-i in
    let a = c.args in
    let f = c.ones_in_fifth-n in
    let turn = count_many a.t.now (51 * l.i) 51 f.result (omega arith) f.ensures in
    sym (le-ltb (set_count (bits_at a.t.now)) a.place.0 (omega (arith, turn, l.invariant.1)))

pub loop-i-preserved : goal.loop-i-preserved
loop-i-preserved c =
    let l = c.loop-i in
    let t = c.args.t.now in
    let f = c.ones_in_fifth-n in
    let e : 51 * (l.i + 1) ≡ 51 * l.i + 51 = omega arith in
    let turn = count_many t (51 * l.i) 51 f.result (omega arith) f.ensures in
    (omega (arith, count_few t (32 + 51 * l.i) 51), rw e (omega (arith, turn, l.invariant.1)))

pub returns : goal.returns
returns c =
    let l = c.loop-i in
    let a = c.args in
    let e : 51 * l.i ≡ 255 = omega arith in
    let all : l.n ≡ set_count (bits_at a.t.now) = omega (arith, l.invariant.1, count_end (bits_at a.t.now) (51 * l.i) (omega (arith, length_bits a.t.now))) in
    rw c.from-sought.ensures (ap (λ (m : ℕ). ltb m a.place.0) all)
