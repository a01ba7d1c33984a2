-- A list has at most one row for each slot that has a satellite.
use Prim.Native.Nat.{ℕ, zero, suc, ◌+◌, ◌≤◌, ◌<◌}
use mathlib.Core.Path.{◌≡◌}
use mathlib.Core.List.{List, ◌++◌}
use mathlib.Core.Option.{Option, none, some}
use native.Mathlib.Omega.{arith}
use borrow.Author.Tests.{le-leb, lt-leb}
use lib.ListN.{length}
use Rattle.lookback.specs.Walk.{to_list, rows_from}
use Rattle.row.specs.Row.{is_assigned, qualifies, row_of}
use Rattle.list.specs.Rows.{row_in, list_in, most_rows, Fits}

module _ {A : Type 0} (f : ℕ → Option A) where
  -- where only the first m slots from s on can have a row, there are at most m rows
  pub rows_most : (n s m : ℕ) → ((j : ℕ) → s + m ≤ j → f j ≡ none) → length (rows_from f n s) ≤ m
  unfolding rows_from
  rows_most zero s m e = omega arith
  rows_most (suc n) s zero e = rw (e s (omega arith)) (rows_most n (s + 1) zero (λ j l. e j (omega arith)))
  rows_most (suc n) s (suc m) e = go (f s) (rows_most n (s + 1) m (λ j l. e j (omega arith)))
    where
      go : (o : Option A) → length (rows_from f n (s + 1)) ≤ m → length (to_list o ++ rows_from f n (s + 1)) ≤ suc m
      go (some r) h = omega arith
      go none h = omega arith

module _ (s is : List ℕ) where
  -- a reserved slot has no row
  row_reserved : (slot : ℕ) → 174 < slot → row_in s is slot ≡ none
  unfolding row_of qualifies is_assigned
  row_reserved slot h = rw (le-leb 1 slot (omega arith), lt-leb slot 174 h)

  -- the list of any bytes and any issues has at most 174 rows
  pub list_fits : Fits (list_in s is)
  list_fits = rows_most (row_in s is) 255 1 most_rows (λ j l. row_reserved j (omega arith))
