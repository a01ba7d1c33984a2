use borrow.Author.Rules.{rules}
use native.Mathlib.Omega.{arith}
use Prim.Native.Nat.{◌+◌, ◌*◌, ◌-◌, ◌≤◌}
use mathlib.Core.Path.{◌≡◌, sym, ap, ◌∙◌, refl}
use mathlib.Core.List.{List}
use lib.ListN.{length}
use Rattle.bits.specs.Bytes.{store_at}
use Rattle.lookback.specs.Walk.{rows_from}
use Rattle.lookback.proofs.WalkLaws.{rows_none, rows_one, rows_end}
use Rattle.row.specs.Row.{row_says}
use Rattle.row.specs.declared.Row.{Row}
use Rattle.list.specs.Rows.{row_in, list_in}
use Rattle.list.proofs.AnswerLaws.{found_some, refused_none, row_next}
use Rattle.sheet_form.specs.Layout.{row_fields}
use Rattle.sheet_writing.proofs.WalkLaws.{put_next, put_over}
use Rattle.sheet_writing.proofs.put_rows.Given as goal

abbrev pub invariant-loop-i : goal.invariant-loop-i
invariant-loop-i l =
    (length l.issues ≡ 255)
    × (length l.room ≡ length l.initial.room)
    × (l.at + 24 * length (rows_from (row_in l.ledger l.issues) (255 - l.i) (l.i + 1)) ≡ 8 + 24 * length (list_in l.ledger l.issues))
    × (l.at + 24 * length (rows_from (row_in l.ledger l.issues) (255 - l.i) (l.i + 1)) ≤ length l.room)
    × (store_at l.room l.at (row_fields (rows_from (row_in l.ledger l.issues) (255 - l.i) (l.i + 1))) ≡ store_at l.initial.room 8 (row_fields (list_in l.ledger l.issues)))
