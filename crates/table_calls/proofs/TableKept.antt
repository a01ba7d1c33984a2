-- 02, CR 14: on a refusal the tally alone changes, and where nothing is refused it does not.
use mathlib.Core.Path.{◌≡◌, refl, ap, ◌∙◌}
use mathlib.Core.Logic.{◌≢◌}
use Prim.Native.Nat.{ℕ}
use mathlib.Core.Bool.{Bool, true, false}
use mathlib.Core.List.{List}
use lib.ListN.{length}
use native.Mathlib.Omega.{arith}
use borrow.Author.Tests.{ne_eqb}
use Rattle.bits.specs.Pick.{pick}
use Rattle.verdict.specs.Verdict.{number_in}
use Rattle.table.specs.Calls.{opening_refusal, opened, closing_refusal, closed, taking_says, taking_bytes}
use Rattle.table.proofs.KeptLaws.{open_kept, close_kept, take_kept}
use Rattle.tally.specs.Tally.{is_tally, counted}
use Rattle.answers.specs.Sized.{sized}
use Rattle.table_calls.specs.Table.{table_open_answer, table_opened, table_open_tally, table_close_answer, table_closed, table_close_tally, table_take_answer, table_taken, table_take_tally, rows_for_refusal, table_rows_answer, table_rows_room, table_rows_tally}
use Rattle.table_calls.proofs.TableLaws.{taken_still}

-- 0 is answered with a tally, and is the number counted
counts_none : (y : List ℕ) (n : ℕ) → sized (is_tally y) n ≡ 0 → counted y n ≡ y
counts_none y n = go (is_tally y)
  where
    go : (b : Bool) → sized b n ≡ 0 → counted y n ≡ y
    go true e = ap (counted y) e ∙ taken_still y
    go false e = absurd (let z : ◌≡◌ {A = ℕ} 39 0 = e in omega arith)

-- a room is left by a tally of another length, and by a refusal
leaves : (y : List ℕ) (n : ℕ) (u t : List ℕ) → (n ≢ 0 → u ≡ t) → sized (is_tally y) n ≢ 0 → pick (is_tally y) u t ≡ t
leaves y n u t k = go (is_tally y)
  where
    go : (b : Bool) → sized b n ≢ 0 → pick b u t ≡ t
    go true z = k z
    go false z = refl

module _ (t y : List ℕ) (prn : ℕ) where
  pub table_open_kept : table_open_answer t y prn ≢ 0 → table_opened t y prn ≡ t
  unfolding table_open_answer table_opened
  table_open_kept z = leaves y (opening_refusal t prn) (opened t prn) t (open_kept t prn) z

  pub table_open_still : table_open_answer t y prn ≡ 0 → table_open_tally t y prn ≡ y
  unfolding table_open_answer table_open_tally
  table_open_still e = counts_none y (opening_refusal t prn) e

  pub table_close_kept : table_close_answer t y prn ≢ 0 → table_closed t y prn ≡ t
  unfolding table_close_answer table_closed
  table_close_kept z = leaves y (closing_refusal t prn) (closed t prn) t (close_kept t prn) z

  pub table_close_still : table_close_answer t y prn ≡ 0 → table_close_tally t y prn ≡ y
  unfolding table_close_answer table_close_tally
  table_close_still e = counts_none y (closing_refusal t prn) e

module _ (t y f : List ℕ) where
  pub table_take_kept : table_take_answer number_in t y f ≢ 0 → table_taken t y f ≡ t
  unfolding table_take_answer table_taken
  table_take_kept z = leaves y (number_in (taking_says t f)) (taking_bytes t f) t (take_kept t f) z

  pub table_take_still : table_take_answer number_in t y f ≡ 0 → table_take_tally t y f ≡ y
  unfolding table_take_answer table_take_tally
  table_take_still e = counts_none y (number_in (taking_says t f)) e

module _ (t y : List ℕ) (prn : ℕ) (is room : List ℕ) where
  pub table_rows_kept : table_rows_answer t y prn is room ≢ 0 → table_rows_room t y prn is room ≡ room
  unfolding table_rows_room
  table_rows_kept z = rw (ne_eqb _ _ z)

  pub table_rows_still : table_rows_answer t y prn is room ≡ 0 → table_rows_tally t y prn is room ≡ y
  unfolding table_rows_answer table_rows_tally
  table_rows_still e = counts_none y (rows_for_refusal t prn is (length room)) e
