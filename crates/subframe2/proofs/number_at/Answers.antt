use borrow.Author.Rules.{rules}
use native.Mathlib.Omega.{arith}
use Prim.Native.Nat.{◌-◌}
use mathlib.Core.Path.{◌≡◌, ◌∙◌}
use mir.Syntax.{w64}
use mir.Facts.{to_z_pos}
use mir.Val.{to_z, of_z}
use Rattle.bits.proofs.FieldLaws.{got_field}
use Rattle.bits.proofs.PutLaws.{shl_small}
use Rattle.subframe2.proofs.FieldLaws.{half_lt, field_half, field_room}
use Rattle.subframe2.proofs.number_at.Goals as goal

pub signed-requires : goal.signed-requires
signed-requires c =
    let a = c.args in
    let p = c.requires in
    let e = c.get-x.ensures ∙ got_field 64 a.s.now a.at a.n (omega arith) in
    rw (shl_small (a.n - 1) (omega arith), e) (half_lt a.n p.0 p.1, field_half a.n p.0 p.1 a.s.now a.at)

pub overflow_cast-result : goal.overflow_cast-result
overflow_cast-result c =
    let a = c.args in
    let p = c.requires in
    let e = c.get-x.ensures ∙ got_field 64 a.s.now a.at a.n (omega arith) in
    rw e (record { sfits = field_room a.n p.0 p.1 a.s.now a.at })

pub returns-then-complement : goal.returns-then-complement
returns-then-complement c =
    let a = c.args in
    let e = c.get-x.ensures ∙ got_field 64 a.s.now a.at a.n (omega arith) in
    let r : to_z w64 (of_z w64 c.signed.result) ≡ c.signed.result = search rules in
    rw (r, c.signed.ensures, c.if-complement.true, shl_small (a.n - 1) (omega arith), e)

pub returns-else-complement : goal.returns-else-complement
returns-else-complement c =
    let a = c.args in
    let p = c.requires in
    let e = c.get-x.ensures ∙ got_field 64 a.s.now a.at a.n (omega arith) in
    rw (c.if-complement.false, e) (to_z_pos w64 (field_room a.n p.0 p.1 a.s.now a.at))
