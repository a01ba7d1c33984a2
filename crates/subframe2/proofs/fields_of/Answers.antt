use borrow.Author.Rules.{rules}
use native.Mathlib.Omega.{arith}
use mathlib.Core.Path.{◌≡◌, refl, sym}
use mathlib.Core.Bool.{false}
use mir.Syntax.{w64}
use mir.Val.{to_z, of_z}
use lib.IntN.{pos}
use lib.ListN.{get_or}
use Rattle.bits.proofs.TableLaws.{fill_start, fill_step, fill_done, get_or_table}
use Rattle.subframe2.specs.Fields.{width_of, is_signed, offset_of, fields_of}
use Rattle.subframe2.proofs.FieldLaws.{width_fits, offset_fits, offset_next, field_by}
use Rattle.subframe2.proofs.fields_of.Goals as goal

pub loop-i-init : goal.loop-i-init
unfolding offset_of
loop-i-init c = (refl, fill_start _ _)

pub number_at-requires : goal.number_at-requires
number_at-requires c =
    let i = c.loop-i.i in
    let w = width_fits i (omega arith) in
    rw (c.widths-ws.ensures, get_or_table width_of 31 i 0 (omega arith)) (w.0, omega arith)

pub overflow_add-at : goal.overflow_add-at
overflow_add-at c =
    let i = c.loop-i.i in
    let w = width_fits i (omega arith) in
    rw (c.widths-ws.ensures, get_or_table width_of 31 i 0 (omega arith)) (record { fits = omega (arith, offset_fits i (omega arith)) })

pub loop-i-preserved : goal.loop-i-preserved
loop-i-preserved c =
    let i = c.loop-i.i in
    let w : get_or c.widths-ws.result i 0 ≡ width_of i = rw c.widths-ws.ensures (get_or_table width_of 31 i 0 (omega arith)) in
    let b : get_or c.signs-ss.result i false ≡ is_signed i = rw c.signs-ss.ensures (get_or_table is_signed 31 i false (omega arith)) in
    let r : to_z w64 (of_z w64 c.number_at.result) ≡ c.number_at.result = search rules in (
      rw (w, c.loop-i.invariant.0) (sym (offset_next i)),
      fill_step _ i _ _ _ (pos 0) (omega arith) c.loop-i.invariant.1 (field_by _ i _ _ _ _ _ r c.number_at.ensures c.loop-i.invariant.0 w b),
    )

pub returns : goal.returns
unfolding fields_of
returns c = let i = c.loop-i in fill_done _ i.i 31 _ _ (omega arith) refl i.invariant.1
