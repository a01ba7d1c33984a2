use borrow.Author.Rules.{rules}
use native.Mathlib.Omega.{arith}
use mathlib.Core.Path.{◌≡◌, ◌∙◌, refl}
use lib.IntN.{pos}
use lib.ListN.{get_or}
use mir.Syntax.{w64}
use mir.Val.{to_z, of_z}
use Rattle.flat_numbers.proofs.RowLaws.{rows_start, rows_next}
use Rattle.flat_subframe2.specs.Write.{flat_field, fields_bytes}
use Rattle.flat_subframe2.proofs.put_fields.Goals as goal

pub loop-i-init : goal.loop-i-init
loop-i-init c = let a = c.args in rows_start (flat_field a.fields) 8 (λ i. refl) a.room.now 0

pub loop-i-preserved : goal.loop-i-preserved
loop-i-preserved c =
    let l = c.loop-i in
    let a = c.args in
    let z : to_z w64 (of_z w64 (get_or a.fields l.i (pos 0))) ≡ get_or a.fields l.i (pos 0) = search rules in
    c.put_field.ensures ∙ rw z (rows_next (flat_field a.fields) 8 (λ i. refl) a.room.now l.room 0 l.i _ l.invariant (omega arith))

pub returns : goal.returns
unfolding fields_bytes
returns c = search rules
