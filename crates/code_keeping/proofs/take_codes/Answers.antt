use borrow.Author.Rules.{rules}
use native.Mathlib.Omega.{arith}
use native.Mathlib.Nat.{add-zero}
use Prim.Native.Nat.{ℕ, ◌+◌, ◌≤◌}
use mathlib.Core.Path.{◌≡◌, sym, ap, ◌∙◌, refl}
use lib.ListN.{drop}
use Rattle.slots.specs.Slots.{nth_from, nth_set}
use Rattle.mask_bits.specs.Bits.{bits_at}
use Rattle.mask_bits.proofs.BitLaws.{length_bits}
use Rattle.mask_bits.proofs.PlaceLaws.{walk_on}
use Rattle.places.specs.Keeps.{held_code, by_place}
use Rattle.places.proofs.KeepLaws.{place_step, place_end, place_filler}
use Rattle.in_force.specs.Bytes.{kept_code, kept_codes}
use Rattle.in_force.proofs.KeptLaws.{kept_code_none}
use Rattle.in_force.proofs.ViewLaws.{code_bits}
use Rattle.keeping.proofs.PlacedLaws.{at_place, codes_asked, goes_on}
use Rattle.code_keeping.proofs.take_codes.Goals as goal

pub loop-code-init : goal.loop-code-init
loop-code-init c =
    let a = c.args in
    let first = c.first_code-n.result.0 in
    let one : 1 ≤ first = omega (arith, c.first_code-n.ensures) in
    (search rules, refl, refl, ap (λ (n : ℕ). kept_codes a.t.now (by_place held_code (bits_at a.t.now) a.u.codes n)) (add-zero first), λ k. ap (λ (n : ℕ). nth_set (bits_at a.t.now) (n + k)) (sym (add-zero first)), one, one)

pub returns-then-slot-eq0 : goal.returns-then-slot-eq0
returns-then-slot-eq0 c =
    let l = c.loop-code in
    let a = c.args in
    let first = c.first_code-n in
    let bits = bits_at a.t.now in
    let found = rw l.invariant.2 at c.nth_after-slot.ensures in
    let slot = at_place bits first.result.0 l.code-index l.from.0 l.n.0 _ found (l.invariant.4 0) in
    sym (place_filler kept_code held_code (drop l.code-index a.u.codes) l.t bits (first.result.0 + l.code-index) (kept_code_none l.t) (omega arith) (sym slot ∙ c.if-slot-eq0.true))
    ∙ l.invariant.3
    ∙ codes_asked a.t.now a.u first.result.0 first.ensures

pub loop-code-preserved : goal.loop-code-preserved
loop-code-preserved c =
    let l = c.loop-code in
    let a = c.args in
    let first = c.first_code-n.result.0 in
    let bits = bits_at a.t.now in
    let found = rw l.invariant.2 at c.nth_after-slot.ensures in
    let slot = at_place bits first l.code-index l.from.0 l.n.0 _ found (l.invariant.4 0) in
    let same = goes_on l.from.0 l.n.0 _ l.invariant.5 c.if-slot-eq0.false in
    let put = rw slot at c.keep_code.ensures in
    let next : first + l.code-index + 1 ≡ first + (l.code-index + 1) = omega arith in
    let step = place_step kept_code held_code a.u.codes l.code-index 0 l.t bits (first + l.code-index) (omega arith) in (
      l.invariant.0,
      c.keep_code.auto.t ∙ l.invariant.1,
      rw c.keep_code.ensures (code_bits l.t _ _ ∙ l.invariant.2),
      rw (put, ← next) (sym step ∙ l.invariant.3),
      λ k.
          let e : first + l.code-index + (1 + k) ≡ first + (l.code-index + 1) + k = omega arith in
          ap (λ (x : ℕ). nth_from (drop x bits) (x + 1) (1 + k)) (sym same)
          ∙ walk_on bits l.from.0 l.n.0 (1 + k) _ (omega (arith, length_bits a.t.now)) (omega arith) found
          ∙ l.invariant.4 (1 + k)
          ∙ ap (nth_set bits) e,
      omega arith,
      l.invariant.6,
    )

pub returns : goal.returns
returns c =
    let l = c.loop-code in
    let a = c.args in
    let first = c.first_code-n in
    sym (place_end kept_code held_code a.u.codes l.code-index 0 l.t (bits_at a.t.now) (first.result.0 + l.code-index) (omega arith))
    ∙ l.invariant.3
    ∙ codes_asked a.t.now a.u first.result.0 first.ensures
