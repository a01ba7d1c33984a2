use borrow.Author.Rules.{rules}
use native.Mathlib.Omega.{arith}
use Prim.Native.Nat.{◌+◌, ◌*◌, ◌≤◌}
use mathlib.Core.Path.{◌≡◌, sym, ap, ◌∙◌, refl}
use lib.ListN.{length}
use Rattle.bits.specs.Bytes.{store_at}
use Rattle.row.specs.declared.Row.{Row}
use Rattle.flat_forms.specs.Write.{row_bytes}
use Rattle.sheet_form.specs.Reading.{rows_said_from}
use Rattle.answers.specs.Size.{row_size}
use Rattle.row_calls.specs.Rows.{rows_bytes}
use Rattle.sheet_calls.proofs.SheetLaws.{said_turn, said_over}
use Rattle.sheet_rooms.proofs.put_rows.Given as goal

abbrev pub invariant-loop-left : goal.invariant-loop-left
invariant-loop-left l =
    (l.left ≤ l.n)
    × (l.at + 24 * l.left ≡ 8 + 24 * l.n)
    × (l.k + row_size * l.left ≡ row_size * l.n)
    × (length l.rows ≡ length l.initial.rows)
    × (store_at l.rows l.k (rows_bytes (rows_said_from l.sheet l.left l.at)) ≡ store_at l.initial.rows 0 (rows_bytes (rows_said_from l.sheet l.n 8)))

abbrev pub decreases-loop-left : goal.decreases-loop-left
decreases-loop-left l = l.left
