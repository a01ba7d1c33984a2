use native.Mathlib.Omega.{arith}
use Prim.Native.Nat.{◌+◌, ◌*◌}
use mathlib.Core.Path.{◌≡◌, refl, sym, ◌∙◌}
use Rattle.contents.specs.Parts.{mask_bits_at}
use Rattle.mask_bits.proofs.BitLaws.{length_mask}
use Rattle.held_mask.proofs.CaseLaws.{fields_same, fields_differ, bits_end}
use Rattle.held_mask.proofs.same_bits.Goals as goal

pub loop-k-init : goal.loop-k-init
loop-k-init c = refl

pub returns-then-get : goal.returns-then-get
returns-then-get c =
    let l = c.loop-k in
    let a = c.args in
    let z : 0 + 51 * l.k ≡ 51 * l.k = omega arith in
    sym
    (l.invariant
    ∙ fields_differ a.t.now a.bytes.now 32 0 (51 * l.k) 51 (omega arith)
    (λ e. c.if-get.true (c.get.ensures ∙ e ∙ rw z (sym c.get-in-loop-k.ensures))))

pub loop-k-preserved : goal.loop-k-preserved
loop-k-preserved c =
    let l = c.loop-k in
    let a = c.args in
    let z : 0 + 51 * l.k ≡ 51 * l.k = omega arith in
    let n : 51 * (l.k + 1) ≡ 51 * l.k + 51 = omega arith in
    let e = sym c.get.ensures ∙ c.if-get.false ∙ c.get-in-loop-k.ensures in
    rw n (l.invariant ∙ fields_same a.t.now a.bytes.now 32 0 (51 * l.k) 51 (omega arith) (rw z e))

pub returns : goal.returns
returns c =
    let l = c.loop-k in
    let a = c.args in
    let s = mask_bits_at a.t.now 32 in
    let t = mask_bits_at a.bytes.now 0 in
    sym (l.invariant ∙ bits_end s t (51 * l.k) (omega (arith, length_mask a.t.now 32)) (omega (arith, length_mask a.bytes.now 0)))
