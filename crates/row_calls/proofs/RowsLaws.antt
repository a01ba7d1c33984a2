-- Laws of the calls for rows: rows put one after the other, the lengths in the order of the tests, and each answer by its case.
use mathlib.Core.Path.{◌≡◌, refl, sym, ap, ◌∙◌}
use mathlib.Core.Logic.{◌≢◌}
use Prim.Native.Nat.{ℕ, ◌+◌, ◌*◌, ◌-◌, ◌≤◌, ◌<◌}
use mathlib.Core.List.{List, ◌++◌}
use mathlib.Core.Option.{Option, none, some}
use lib.ListN.{length, replicate}
use native.Mathlib.Omega.{arith}
use borrow.Author.Tests.{eq-eqb, ne_eqb}
use Rattle.bits.specs.Bytes.{store_at}
use Rattle.lookback.specs.Walk.{to_list, rows_from}
use Rattle.lookback.proofs.WalkLaws.{rows_step, rows_end}
use Rattle.row.specs.Row.{row_says, answer_of}
use Rattle.list.specs.Rows.{found_count}
use Rattle.row.specs.declared.Row.{Row}
use Rattle.std.specs.Prelude.{Result, Ok, Err}
use Rattle.verdict.specs.declared.Refused.{Refused}
use Rattle.flat_forms.specs.Write.{row_bytes}
use Rattle.flat_numbers.proofs.StoreLaws.{store_two}
use Rattle.held_mask.specs.Size.{size}
use Rattle.broadcast.specs.Issues.{issues_refusal}
use Rattle.list.specs.Rows.{list_in, row_of_slot_answer}
use Rattle.flat_forms.proofs.FlatLaws.{row_whole}
use Rattle.answers.specs.Size.{row_size}
use Rattle.row_calls.specs.Rows.{rows_size, answer_bytes, rows_bytes, rows_filled, rows_answer, rows_room, row_answer, row_room}

-- ---- rows put one after the other, as a loop's turn has them
answer_of_lem : (o : Option Row) (rest : List Row) → rows_bytes (to_list o ++ rest) ≡ answer_bytes (answer_of 0 o).1 ++ rows_bytes rest
unfolding rows_bytes
answer_of_lem (some r) rest = refl
answer_of_lem none rest = refl

count_of : (o : Option Row) → row_size * found_count (answer_of 0 o) ≡ length (answer_bytes (answer_of 0 o).1)
count_of (some r) = refl
count_of none = refl

module _ (f : ℕ → Option Row) (i n k : ℕ) (s t : List ℕ) (a : ℕ × Option Row) where
  pub rows_turn : i < 255 → a ≡ answer_of 0 (f (i + 1)) → k ≡ n + found_count a → t ≡ store_at s (row_size * n) (answer_bytes a.1) →
      store_at t (row_size * k) (rows_bytes (rows_from f (255 - (i + 1)) (i + 1 + 1))) ≡ store_at s (row_size * n) (rows_bytes (rows_from f (255 - i) (i + 1)))
  rows_turn h e c b =
      let rest = rows_from f (255 - (i + 1)) (i + 1 + 1) in
      let l : row_size * n + length (answer_bytes a.1) ≡ row_size * k = omega (arith, rw (← e) at (count_of (f (i + 1)))) in
      let p : rows_bytes (rows_from f (255 - i) (i + 1)) ≡ answer_bytes a.1 ++ rows_bytes rest =
      ap rows_bytes (rows_step f 255 i (i + 1) h) ∙ answer_of_lem (f (i + 1)) rest ∙ ap (λ (x : ℕ × Option Row). answer_bytes x.1 ++ rows_bytes rest) (sym e)
      in
      rw (b, p) (store_two s (row_size * n) (row_size * k) (answer_bytes a.1) (rows_bytes rest) l)

  pub rows_over : 255 ≤ i → store_at s (row_size * n) (rows_bytes (rows_from f (255 - i) (i + 1))) ≡ s
  unfolding rows_bytes store_at
  rows_over h = rw (rows_end f 255 i (i + 1) h)

-- the answer put as row n
pub answer_none : (s : List ℕ) (n : ℕ) (a : Result Row Refused) (m : Refused) → a ≡ Err m → (n ≡ n + found_count (row_says a)) × (s ≡ store_at s (row_size * n) (answer_bytes (row_says a).1))
unfolding store_at
answer_none s n a m e = rw e (omega arith, refl)

pub answer_some : (s : List ℕ) (n : ℕ) (a : Result Row Refused) (r : Row) (t : List ℕ) → a ≡ Ok r → t ≡ store_at s (row_size * n) (row_bytes r) →
    (n + 1 ≡ n + found_count (row_says a)) × (t ≡ store_at s (row_size * n) (answer_bytes (row_says a).1))
answer_some s n a r t e b = rw e (refl, b)

-- ---- the room filled, or left
module _ (s is room : List ℕ) where
  pub filled_none : length is ≢ 255 → room ≡ rows_filled s is room
  unfolding rows_filled
  filled_none n = rw (ne_eqb _ _ n)

  pub filled_all : length is ≡ 255 → rows_filled s is room ≡ store_at (replicate (length room) 0) 0 (rows_bytes (list_in s is))
  unfolding rows_filled
  filled_all l = rw (eq-eqb _ _ l)

-- ---- each function by its cases
module _ (s is : List ℕ) (slot : ℕ) (room : List ℕ) where
  pub row_ledger : length s ≢ size → (39 ≡ row_answer s is slot room) × (room ≡ row_room s is slot room)
  unfolding row_answer row_room
  row_ledger n = (rw (ne_eqb _ _ n), rw (ne_eqb _ _ n))

  pub row_size_lem : length s ≡ size → length room ≢ row_size → (39 ≡ row_answer s is slot room) × (room ≡ row_room s is slot room)
  unfolding row_answer row_room
  row_size_lem l n = (rw (eq-eqb _ _ l, ne_eqb _ _ n), rw (eq-eqb _ _ l, ne_eqb _ _ n))

  pub row_found : (r : Row) (t : List ℕ) → length s ≡ size → length room ≡ row_size → row_of_slot_answer s is slot ≡ row_says (Ok r) → t ≡ store_at room 0 (row_bytes r) →
      (0 ≡ row_answer s is slot room) × (t ≡ row_room s is slot room)
  unfolding row_answer row_room
  row_found r t l m e b = (rw (eq-eqb _ _ l, eq-eqb _ _ m, e), rw (eq-eqb _ _ l, eq-eqb _ _ m, e) (b ∙ row_whole room r m))

  pub row_none : (n : Refused) → length s ≡ size → length room ≡ row_size → row_of_slot_answer s is slot ≡ row_says (Err n) → (n.0 ≡ row_answer s is slot room) × (room ≡ row_room s is slot room)
  unfolding row_answer row_room
  row_none n l m e = (rw (eq-eqb _ _ l, eq-eqb _ _ m, e), rw (eq-eqb _ _ l, eq-eqb _ _ m, e))

module _ (s is room : List ℕ) where
  pub rows_ledger : length s ≢ size → (39 ≡ rows_answer s is room) × (room ≡ rows_room s is room)
  unfolding rows_answer rows_room
  rows_ledger n = (rw (ne_eqb _ _ n), rw (ne_eqb _ _ n))

  pub rows_size_lem : length s ≡ size → length room ≢ rows_size → (39 ≡ rows_answer s is room) × (room ≡ rows_room s is room)
  unfolding rows_answer rows_room
  rows_size_lem l n = (rw (eq-eqb _ _ l, ne_eqb _ _ n), rw (eq-eqb _ _ l, ne_eqb _ _ n))

  pub rows_bad : (n : ℕ) → length s ≡ size → length room ≡ rows_size → n ≡ issues_refusal is → n ≢ 0 → (n ≡ rows_answer s is room) × (room ≡ rows_room s is room)
  unfolding rows_answer rows_room
  rows_bad n l m e z = (rw (eq-eqb _ _ l, eq-eqb _ _ m) e, rw (eq-eqb _ _ l, eq-eqb _ _ m, ← e, ne_eqb _ _ z))

  pub rows_right : (t : List ℕ) → length s ≡ size → length room ≡ rows_size → issues_refusal is ≡ 0 → t ≡ store_at (replicate (length room) 0) 0 (rows_bytes (list_in s is)) →
      (0 ≡ rows_answer s is room) × (t ≡ rows_room s is room)
  unfolding rows_answer rows_room
  rows_right t l m e b = (rw (eq-eqb _ _ l, eq-eqb _ _ m, e), rw (eq-eqb _ _ l, eq-eqb _ _ m, e) (b ∙ rw m))
