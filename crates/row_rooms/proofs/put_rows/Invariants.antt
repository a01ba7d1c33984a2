use borrow.Author.Rules.{rules}
use native.Mathlib.Omega.{arith}
use Prim.Native.Nat.{◌+◌, ◌*◌, ◌-◌, ◌≤◌}
use mathlib.Core.Path.{◌≡◌, sym, ap, ◌∙◌, refl}
use lib.ListN.{length}
use Rattle.bits.specs.Bytes.{store_at}
use Rattle.lookback.specs.Walk.{rows_from}
use Rattle.row.specs.Row.{row_says, answer_of}
use Rattle.list.specs.Rows.{row_in, list_in}
use Rattle.list.proofs.AnswerLaws.{found_le, row_next}
use Rattle.answers.specs.Size.{row_size}
use Rattle.row_calls.specs.Rows.{rows_bytes}
use Rattle.row_calls.proofs.RowsLaws.{rows_turn, rows_over}
use Rattle.row_rooms.proofs.put_rows.Given as goal

abbrev pub invariant-loop-i : goal.invariant-loop-i
invariant-loop-i l =
    (l.n ≤ l.i)
    × (length l.issues ≡ 255)
    × (length l.rows ≡ length l.initial.rows)
    × (store_at l.rows (row_size * l.n) (rows_bytes (rows_from (row_in l.ledger l.issues) (255 - l.i) (l.i + 1))) ≡ store_at l.initial.rows 0 (rows_bytes (list_in l.ledger l.issues)))
