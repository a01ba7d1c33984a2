use native.Mathlib.Omega.{arith}
use Prim.Native.Nat.{◌+◌, ◌*◌, ◌-◌, ◌/◌, ◌%◌, ◌^◌}
use mathlib.Core.Path.{◌≡◌, sym, ◌∙◌}
use borrow.Author.Tests.{lt-leb}
use Rattle.bits.specs.Bits.{field_at}
use Rattle.bits.proofs.FieldLaws.{got_field, field_zero}
use Rattle.bits.proofs.ByteWise.{turn, turn_fits}
use native.Mathlib.Nat.{zero-mul}
use Rattle.bits.proofs.by_bytes.Goals as goal

pub returns-then-n-gt64 : goal.returns-then-n-gt64
returns-then-n-gt64 c = simp (lt-leb _ _ c.if-n-gt64.true)

pub loop-left-init : goal.loop-left-init
loop-left-init c =
    let a = c.args in
    let e : 8 * (a.at / 8) + a.at % 8 ≡ a.at = omega arith in
    (omega arith, omega arith, omega arith, omega arith, rw e (omega (arith, zero-mul (2 ^ a.n))))

pub more-x-requires : goal.more-x-requires
more-x-requires c =
    let i = c.loop-left in
    let a = c.args in (
      omega arith,
      rw (c.min-m.ensures, c.byte_at-b.ensures) (turn_fits a.s.now i.x i.j i.r i.left a.at a.n i.invariant.1 i.invariant.0 i.invariant.4),
    )

pub loop-left-preserved : goal.loop-left-preserved
loop-left-preserved c =
    let i = c.loop-left in
    let a = c.args in (
      omega arith,
      omega arith,
      omega arith,
      omega arith,
      rw (c.more-x.ensures, c.min-m.ensures, c.byte_at-b.ensures) (sym (turn a.s.now i.x i.j i.r i.left i.invariant.1) ∙ i.invariant.4),
    )

pub returns : goal.returns
returns c =
    let i = c.loop-left in
    let a = c.args in
    let e : i.left ≡ 0 = omega arith in
    let h = rw e at i.invariant.4 in
    let g : i.x ≡ field_at a.s.now a.at a.n = omega (arith, field_zero a.s.now (8 * i.j + i.r)) in
    g ∙ sym (got_field 64 a.s.now a.at a.n i.invariant.0)
