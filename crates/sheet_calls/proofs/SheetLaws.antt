-- Laws of the functions over sheets at the boundary: each answer by its case, the rows put one after the other, and what stays as it was.
use mathlib.Core.Path.{◌≡◌, refl, sym, ap, ◌∙◌}
use mathlib.Core.Logic.{◌≢◌, dite}
use Prim.Native.Nat.{ℕ, zero, suc, ◌+◌, ◌-◌, ◌*◌, ◌≤◌, ◌<◌}
use mathlib.Core.Bool.{Bool, true, false, not, ◌&&◌}
use mathlib.Core.List.{List, [], ◌∷◌}
use mathlib.Core.Option.{Option, none, some}
use lib.Dec.{eqb, ltb, leb}
use lib.ListN.{length, replicate, get_or}
use native.Mathlib.Decide.{ℕ_discrete}
use native.Mathlib.Omega.{arith}
use borrow.Author.Tests.{eq-eqb, ne_eqb, leb-true}
use Rattle.bits.specs.Pick.{pick}
use Rattle.bits.specs.Some.{any_of, first}
use Rattle.bits.specs.Bytes.{store_at}
use Rattle.bits.proofs.TestLaws.{both_hold}
use Rattle.lent.specs.Digits.{two_at}
use Rattle.frame.specs.Frame.{is_prn}
use Rattle.held_mask.specs.Size.{size}
use Rattle.held_mask.specs.Mask.{mask_at}
use Rattle.broadcast.specs.Issues.{is_ill, issues_refusal}
use Rattle.list.specs.Rows.{list_in}
use Rattle.flat_forms.specs.Write.{row_bytes}
use Rattle.flat_numbers.proofs.StoreLaws.{store_two, store_whole}
use Rattle.sheet_form.specs.Layout.{sheet_length}
use Rattle.sheet_form.specs.Reading.{reaches, opens, header_ok, row_ok, end_ok, wrong_from, wrong_at, header_said, row_said, rows_said_from, rows_said}
use Rattle.sheet_form.specs.declared.Header.{Header}
use Rattle.sheet_writing.specs.Writing.{most_sheet_rows, sheet_for, sheet_refusal, sheet_answer, sheet_room}
use Rattle.sheet_reading.specs.Answer.{read_says, said_of, read_answer}
use Rattle.std.specs.Prelude.{Ok}
use Rattle.sheet_reading.proofs.ReadingLaws.{wrong}
use Rattle.answers.specs.Size.{row_size, sheet_header_size}
use Rattle.answers.specs.Sized.{sized, is_ledger}
use Rattle.row_calls.specs.Rows.{rows_size, rows_bytes}
use Rattle.sheet_calls.specs.Sheet.{written_in, write_sheet_answer, write_sheet_room, header_bytes, read_sheet_answer, read_sheet_header, read_sheet_rows}

-- ---- the writer by its cases
module _ (s is room : List ℕ) where
  pub write_sheet_size : length s ≢ size → (39 ≡ write_sheet_answer s is room) × (room ≡ write_sheet_room s is room)
  unfolding write_sheet_answer write_sheet_room
  write_sheet_size n = (rw (ne_eqb _ _ n), rw (ne_eqb _ _ n))

  pub write_sheet_right : (n : ℕ) (t : List ℕ) → length s ≡ size → n ≡ written_in (sheet_answer s is room) → t ≡ sheet_room s is room →
      (n ≡ write_sheet_answer s is room) × (t ≡ write_sheet_room s is room)
  unfolding write_sheet_answer write_sheet_room
  write_sheet_right n t l a b = (rw (eq-eqb _ _ l) a, rw (eq-eqb _ _ l) b)

-- every refusal is a number below 256
issues_small : (is : List ℕ) → issues_refusal is ≤ 17
unfolding issues_refusal
issues_small is = go (not (eqb (length is) 255)) (any_of is_ill is)
  where
    go : (a b : Bool) → first ((1, a) ∷ (17, b) ∷ []) ≤ 17
    go true b = omega arith
    go false true = omega arith
    go false false = omega arith

refusal_small : (s is room : List ℕ) → sheet_refusal s is room ≤ 22
unfolding sheet_refusal
refusal_small s is room =
    let n = length (list_in s is) in
    go (issues_refusal is) (not (eqb (issues_refusal is) 0)) (not (mask_at s).has) (ltb (length room) (sheet_length n)) (omega (arith, issues_small is))
  where
    go : (n : ℕ) (a b c : Bool) → n ≤ 22 → first ((n, a) ∷ (20, b) ∷ (22, c) ∷ []) ≤ 22
    go n true b c h = h
    go n false true c h = omega arith
    go n false false true h = omega arith
    go n false false false h = omega arith

-- what a room holds by a writer's refusal n and its length l: as it was, or the bytes
module _ (n l : ℕ) (bytes room : List ℕ) where
  written_kept : 0 < l → written_in (pick (eqb n 0) (0, some l) (n, none)) < 256 → pick (eqb n 0) bytes room ≡ room
  written_kept p h =
      dite (ℕ_discrete n 0)
      (λ e. absurd (let g = rw (eq-eqb n 0 e) at h in omega arith))
      (λ z. rw (ne_eqb n 0 z))

  written_given : n ≤ 22 → 256 ≤ written_in (pick (eqb n 0) (0, some l) (n, none)) → pick (eqb n 0) bytes room ≡ bytes
  written_given p h =
      dite (ℕ_discrete n 0)
      (λ e. rw (eq-eqb n 0 e))
      (λ z. absurd (let g = rw (ne_eqb n 0 z) at h in omega arith))

-- 01, Refusal numbers: lent room stays as it was where the answer is a refusal, below 256, and gets the sheet where it is 256 × its length
module _ (s is room : List ℕ) where
  pub write_sheet_kept : write_sheet_answer s is room < 256 → write_sheet_room s is room ≡ room
  unfolding write_sheet_answer write_sheet_room sheet_answer sheet_room
  write_sheet_kept h = go (is_ledger s) h
    where
      go : (b : Bool) → sized b (written_in (sheet_answer s is room)) < 256 → pick b (sheet_room s is room) room ≡ room
      go true g = written_kept (sheet_refusal s is room) (sheet_length (length (list_in s is))) (store_at room 0 (sheet_for s is)) room (omega arith) g
      go false g = refl

  pub write_sheet_given : 256 ≤ write_sheet_answer s is room → write_sheet_room s is room ≡ store_at room 0 (sheet_for s is)
  unfolding write_sheet_answer write_sheet_room sheet_answer sheet_room
  write_sheet_given h = go (is_ledger s) h
    where
      go : (b : Bool) → 256 ≤ sized b (written_in (sheet_answer s is room)) → pick b (sheet_room s is room) room ≡ store_at room 0 (sheet_for s is)
      go true g = written_given (sheet_refusal s is room) (sheet_length (length (list_in s is))) (store_at room 0 (sheet_for s is)) room (refusal_small s is room) g
      go false g = absurd (omega arith)

-- ---- the rows that a sheet says, put one after the other, as a loop's turn has them
module _ (rows s : List ℕ) (k left at : ℕ) where
  pub said_turn : (t : List ℕ) → 0 < left → t ≡ store_at rows k (row_bytes (row_said s at)) →
      store_at t (k + row_size) (rows_bytes (rows_said_from s (left - 1) (at + 24))) ≡ store_at rows k (rows_bytes (rows_said_from s left at))
  unfolding rows_bytes rows_said_from
  said_turn t h e =
      let q : left ≡ suc (left - 1) = omega arith in
      rw e (store_two rows k (k + row_size) (row_bytes (row_said s at)) (rows_bytes (rows_said_from s (left - 1) (at + 24))) refl
      ∙ ap (λ (m : ℕ). store_at rows k (rows_bytes (rows_said_from s m at))) (sym q))

  pub said_over : left ≤ 0 → store_at rows k (rows_bytes (rows_said_from s left at)) ≡ rows
  unfolding rows_bytes rows_said_from store_at
  said_over h = let q : left ≡ 0 = omega arith in rw q

-- ---- the offset of 23 is near the limit, so that the answer holds it
end_near : (a b : Bool) (from at : ℕ) → pick a (pick b none (some (from + 3))) (some from) ≡ some at → at ≤ from + 3
end_near true true from at e = absurd (let z : ◌≡◌ {A = ℕ} 0 1 = cc in omega arith)
end_near true false from at e = let z : from + 3 ≡ at = cc in omega arith
end_near false b from at e = let z : from ≡ at = cc in omega arith

from_near : (rising : Bool) (s : List ℕ) (n before from at : ℕ) → wrong_from rising s n before from ≡ some at → at ≤ from + 24 * n + 3
unfolding wrong_from
from_near rising s zero before from at e = let l = end_near (end_ok s from) (eqb (length s) (from + 3)) from at e in omega arith
from_near rising s (suc n) before from at e = go (row_ok rising before s from) e (from_near rising s n (get_or s (from + 3) 0) (from + 24) at)
  where
    go : (b : Bool) → pick b (wrong_from rising s n (get_or s (from + 3) 0) (from + 24)) (some from) ≡ some at →
        (wrong_from rising s n (get_or s (from + 3) 0) (from + 24) ≡ some at → at ≤ from + 24 + 24 * n + 3) → at ≤ from + 24 * suc n + 3
    go true q ih = let l = ih q in omega arith
    go false q ih = let z : from ≡ at = cc in omega arith

rows_few : (limit : ℕ) (s : List ℕ) → header_ok limit s ≡ true → two_at s 6 ≤ limit
unfolding header_ok
rows_few limit s h =
    leb-true (two_at s 6) limit (both_hold (reaches s 0 8 && opens s 0 1 5 && is_prn (get_or s 3 0) && leb (get_or s 4 0) 3 && leb (get_or s 5 0) 15) (leb (two_at s 6) limit) h).1

pub wrong_near : (limit : ℕ) (rising : Bool) (s : List ℕ) (at : ℕ) → wrong_at limit rising s ≡ some at → at ≤ 8 + 24 * limit + 3
unfolding wrong_at
wrong_near limit rising s at e = go (header_ok limit s) refl e
  where
    go : (b : Bool) → header_ok limit s ≡ b → pick b (wrong_from rising s (two_at s 6) 0 8) (some 0) ≡ some at → at ≤ 8 + 24 * limit + 3
    go true h q = let l = from_near rising s (two_at s 6) 0 8 at q in let m = rows_few limit s h in omega arith
    go false h q = let z : ◌≡◌ {A = ℕ} 0 at = cc in omega arith

said_wrong : (s : List ℕ) (o : Option ℕ) (at : ℕ) → read_says (wrong at) ≡ said_of s o → o ≡ some at
said_wrong s (some b) at e = ap some (sym (ap (λ (x : List ℕ × Option Header). get_or x.0 1 0) e))
said_wrong s none at e = absurd (let z = ap (λ (x : List ℕ × Option Header). length x.0) e in omega arith)

pub answer_near : (limit : ℕ) (rising : Bool) (s : List ℕ) (at : ℕ) → read_says (wrong at) ≡ read_answer limit rising s → at ≤ 8 + 24 * limit + 3
unfolding read_answer
answer_near limit rising s at e = wrong_near limit rising s at (said_wrong s (wrong_at limit rising s) at e)

-- ---- the reader by its cases
said_read : (s : List ℕ) (o : Option ℕ) (h : Header) → read_says (Ok h) ≡ said_of s o → h ≡ header_said s
said_read s (some b) h e = absurd (let z = ap (λ (x : List ℕ × Option Header). length x.0) e in omega arith)
said_read s none h e = let z : some h ≡ some (header_said s) = ap (λ (x : List ℕ × Option Header). x.1) e in cc

module _ (s header rows : List ℕ) where
  -- this answer, with these rooms left, is the one that is asked for
  abbrev pub RightRead : ℕ → List ℕ → List ℕ → Type 0
  RightRead n t u = (n ≡ read_sheet_answer s header rows) × ((t ≡ read_sheet_header s header rows) × (u ≡ read_sheet_rows s header rows))

  right_kept : (n : ℕ) → n ≡ read_sheet_answer s header rows → n ≢ 0 → RightRead n header rows
  unfolding read_sheet_header read_sheet_rows
  right_kept n e z = (e, (rw (← e, ne_eqb _ _ z), rw (← e, ne_eqb _ _ z)))

  pub read_header_size : length header ≢ sheet_header_size → RightRead 39 header rows
  unfolding read_sheet_answer
  read_header_size n = right_kept 39 (rw (ne_eqb _ _ n)) (λ z. omega arith)

  module _ (fits : length header ≡ sheet_header_size) where
    pub read_rows_size : length rows ≢ rows_size → RightRead 39 header rows
    unfolding read_sheet_answer
    read_rows_size n = right_kept 39 (rw (eq-eqb _ _ fits, ne_eqb _ _ n)) (λ z. omega arith)

    module _ (long : length rows ≡ rows_size) where
      pub read_wrong : (at : ℕ) → read_says (wrong at) ≡ read_answer most_sheet_rows true s → RightRead (23 + 256 * at) header rows
      unfolding read_sheet_answer
      read_wrong at e = right_kept (23 + 256 * at) (rw (eq-eqb _ _ fits, eq-eqb _ _ long, ← e) (omega arith)) (λ z. omega arith)

      pub read_right : (h : Header) (t u : List ℕ) → read_says (Ok h) ≡ read_answer most_sheet_rows true s →
          t ≡ store_at header 0 (header_bytes h) → u ≡ store_at (replicate (length rows) 0) 0 (rows_bytes (rows_said_from s h.rows 8)) → RightRead 0 t u
      unfolding read_sheet_answer read_sheet_header read_sheet_rows read_answer
      read_right h t u e a b =
          let q = said_read s (wrong_at most_sheet_rows true s) h e in
          rw (eq-eqb _ _ fits, eq-eqb _ _ long, ← e)
          (refl, (a ∙ store_whole header (header_bytes h) fits ∙ ap header_bytes q, b ∙ rw (long, q)))

-- 01, Refusal numbers: lent room stays as it was where the answer is not 0, and holds what is read where it is
module _ (s header rows : List ℕ) where
  pub read_sheet_kept : read_sheet_answer s header rows ≢ 0 → (read_sheet_header s header rows ≡ header) × (read_sheet_rows s header rows ≡ rows)
  unfolding read_sheet_header read_sheet_rows
  read_sheet_kept n = (rw (ne_eqb _ _ n), rw (ne_eqb _ _ n))

  pub read_sheet_given : read_sheet_answer s header rows ≡ 0 →
      (read_sheet_header s header rows ≡ header_bytes (header_said s)) × (read_sheet_rows s header rows ≡ store_at (replicate rows_size 0) 0 (rows_bytes (rows_said s)))
  unfolding read_sheet_header read_sheet_rows
  read_sheet_given e = (rw (eq-eqb _ _ e), rw (eq-eqb _ _ e))
