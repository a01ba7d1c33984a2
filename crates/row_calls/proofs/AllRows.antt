-- 02, CR 11: the room of qvd_rows holds all rows of the list.
use mathlib.Core.Path.{◌≡◌, refl}
use Prim.Native.Nat.{ℕ, ◌*◌, ◌≤◌}
use mathlib.Core.List.{List, [], ◌∷◌}
use native.Mathlib.Omega.{arith}
use borrow.Author.Tests.{eq-eqb}
use lib.ListN.{length, replicate, length-append, length-replicate}
use Rattle.bits.proofs.ByteLaws.{row_store}
use Rattle.list.specs.Rows.{list_in}
use Rattle.list.proofs.FitsLaws.{list_fits}
use Rattle.row.specs.declared.Row.{Row}
use Rattle.flat_forms.specs.Write.{row_bytes}
use Rattle.answers.specs.Size.{row_size}
use Rattle.row_calls.specs.Rows.{rows_size, rows_bytes, rows_answer, rows_room, AllRows}

-- some rows have 27 bytes each
rows_long : (rs : List Row) → length (rows_bytes rs) ≡ row_size * length rs
unfolding rows_bytes
rows_long [] = refl
rows_long (r ∷ rs) = omega (arith, rows_long rs, length-append (row_bytes r) (rows_bytes rs))

-- so those of a list, 174 at most, have room
rows_have_room : (s is : List ℕ) → length (rows_bytes (list_in s is)) ≤ length (replicate {A = ℕ} rows_size 0)
rows_have_room s is = omega (arith, rows_long (list_in s is), list_fits s is, length-replicate {A = ℕ} rows_size 0)

-- ALL ROWS STAND IN THE ROOM
pub all_rows : AllRows
unfolding rows_room
all_rows s is room e =
    rw (eq-eqb (rows_answer s is room) 0 e, ← rows_long (list_in s is))
    (row_store (replicate rows_size 0) 0 (rows_bytes (list_in s is)) (omega (arith, rows_have_room s is)))
