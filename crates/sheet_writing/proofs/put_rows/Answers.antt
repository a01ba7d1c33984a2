use borrow.Author.Rules.{rules}
use native.Mathlib.Omega.{arith}
use Prim.Native.Nat.{◌+◌, ◌*◌, ◌-◌, ◌≤◌}
use mathlib.Core.Path.{◌≡◌, sym, ap, ◌∙◌, refl}
use mathlib.Core.List.{List}
use lib.ListN.{length}
use Rattle.bits.specs.Bytes.{store_at}
use Rattle.lookback.specs.Walk.{rows_from}
use Rattle.lookback.proofs.WalkLaws.{rows_none, rows_one, rows_end}
use Rattle.row.specs.Row.{row_says}
use Rattle.row.specs.declared.Row.{Row}
use Rattle.list.specs.Rows.{row_in, list_in}
use Rattle.list.proofs.AnswerLaws.{found_some, refused_none, row_next}
use Rattle.sheet_form.specs.Layout.{row_fields}
use Rattle.sheet_writing.proofs.WalkLaws.{put_next, put_over}
use Rattle.sheet_writing.proofs.put_rows.Goals as goal

pub loop-i-init : goal.loop-i-init
loop-i-init c = let p = c.requires in (p.0, refl, refl, omega (arith, p.1), refl)

pub loop-i-preserved-in_default : goal.loop-i-preserved-in_default
loop-i-preserved-in_default c =
    let l = c.loop-i in
    let a = c.args in
    let f = row_in a.ledger.now a.issues.now in
    let e = row_next a.ledger.now a.issues.now l.i ∙ refused_none _ _ (sym c.slot_row-a.ensures ∙ ap row_says c.in_default.is) in
    let s = rows_none f 255 l.i (l.i + 1) (omega arith) e in
    let n = ap (λ (rs : List Row). length rs) s in
    (l.invariant.0, l.invariant.1, omega (arith, l.invariant.2), omega (arith, l.invariant.3), ap (λ (rs : List Row). store_at l.room l.at (row_fields rs)) (sym s) ∙ l.invariant.4)

pub loop-i-preserved : goal.loop-i-preserved
loop-i-preserved c =
    let l = c.loop-i in
    let a = c.args in
    let f = row_in a.ledger.now a.issues.now in
    let e = row_next a.ledger.now a.issues.now l.i ∙ found_some _ _ (sym c.slot_row-a.ensures ∙ ap row_says c.in-Ok.is) in
    let s = rows_one f 255 l.i (l.i + 1) _ (omega arith) e in
    let n = ap (λ (rs : List Row). length rs) s in
    let w : 24 ≤ length l.room - l.at = omega (arith, l.invariant.3) in
    let u : l.at + (length l.room - l.at) ≤ length l.room = omega (arith, l.invariant.3) in (
      l.invariant.0,
      omega arith,
      omega (arith, l.invariant.2),
      omega (arith, l.invariant.3),
      put_next l.room _ l.at _ _ _ u w c.put_row.ensures ∙ ap (λ (rs : List Row). store_at l.room l.at (row_fields rs)) (sym s) ∙ l.invariant.4,
    )

pub returns : goal.returns
returns c =
    let l = c.loop-i in
    let a = c.args in
    let s = rows_end (row_in a.ledger.now a.issues.now) 255 l.i (l.i + 1) (omega arith) in
    let n = ap (λ (rs : List Row). length rs) s in
    record {
      offset = omega (arith, l.invariant.2);
      bytes = sym (put_over l.room l.at) ∙ ap (λ (rs : List Row). store_at l.room l.at (row_fields rs)) (sym s) ∙ l.invariant.4;
    }
