use borrow.Author.Rules.{rules}
use borrow.Author.Tests.{eq-eqb, ne_eqb}
use native.Mathlib.Omega.{arith}
use Prim.Native.Nat.{ℕ, ◌+◌, ◌/◌}
use mathlib.Core.Path.{◌≡◌, sym, ap, ◌∙◌}
use mir.Syntax.{w16}
use mir.Val.{to_z, of_z}
use Rattle.bits.proofs.FieldLaws.{field_lt}
use Rattle.records.proofs.OrbitLaws.{slot_in, iodn_in, corr_in, radial_in, along_in, cross_in, code_in}
use Rattle.records.proofs.orbit.orbit_at.Goals as goal

pub overflow_cast-slot : goal.overflow_cast-slot
overflow_cast-slot c = let a = c.args in omega (arith, c.get32-x.ensures, field_lt a.s.now a.at 22)

pub returns-then-slot-eq0 : goal.returns-then-slot-eq0
returns-then-slot-eq0 c =
    let a = c.args in
    let z = sym (slot_in a.s.now a.at) ∙ ap (λ (x : ℕ). x / 8192) (sym c.get32-x.ensures) ∙ c.if-slot-eq0.true in
    rw (eq-eqb _ _ z) c.blank_orbit.ensures

pub signed-radial-requires : goal.signed-radial-requires
signed-radial-requires c =
    let a = c.args in
    omega (arith, c.get-y.ensures, field_lt a.s.now (a.at + 22) 47)

pub returns : goal.returns
returns c =
    let s = c.args.s.now in
    let at = c.args.at in
    let e = c.get32-x.ensures in
    let u : to_z w16 (of_z w16 c.signed-radial.result) ≡ c.signed-radial.result = search rules in
    let v : to_z w16 (of_z w16 c.signed-along.result) ≡ c.signed-along.result = search rules in
    let w : to_z w16 (of_z w16 c.signed-cross.result) ≡ c.signed-cross.result = search rules in
    rw (ne_eqb _ _ (λ z. c.if-slot-eq0.false (ap (λ (x : ℕ). x / 8192) e ∙ slot_in s at ∙ z)), u, v, w, c.ura_of-ura.ensures, c.signed-cross.ensures, c.signed-along.ensures, c.signed-radial.ensures, c.get-y.ensures, e, slot_in s at, iodn_in s at, corr_in s at, radial_in s at, along_in s at, cross_in s at, code_in s at)
