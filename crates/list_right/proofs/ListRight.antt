-- Demand 3: the list that a ledger gives is the list by looking back, and that list is right.
use Prim.Native.Nat.{ℕ, zero, suc, ◌+◌, ◌≤◌}
use mathlib.Core.Path.{◌≡◌, refl, sym, ap, ◌∙◌}
use mathlib.Core.Bool.{Bool, true, false}
use mathlib.Core.List.{List}
use mathlib.Core.Option.{none, some}
use native.Mathlib.Omega.{arith}
use lib.ListN.{length}
use Rattle.bits.specs.Pick.{pick}
use Rattle.lookback.specs.Walk.{count_from, nth_of}
use Rattle.lookback.proofs.WalkLaws.{rows_same, rows_found, found_rows, rows_rise, count_length}
use Rattle.held_mask.specs.Size.{size}
use Rattle.in_force.specs.Bytes.{fresh, run_bytes, Holds}
use Rattle.in_force.proofs.BackLaws.{holds_run}
use Rattle.broadcast.specs.Issues.{issues_refusal}
use Rattle.row.specs.Row.{row_of, answer_of}
use Rattle.list.specs.Rows.{row_in, list_in, count_says, count_answer, row_at_answer, row_of_slot_answer}
use Rattle.row.specs.declared.Row.{Row}
use Rattle.std.specs.Prelude.{Ok}
use Rattle.list.proofs.AnswerLaws.{count_right, at_right, slot_right}
use Rattle.broadcast.proofs.IssueLaws.{issues_long}
use Rattle.list_right.specs.InForce.{qualifies_after, row_after, row_in_force, list_in_force}
use Rattle.list_right.specs.Right.{qualifying, Serves, Right}

-- ---- the ledger's rows are those by looking back
module _ (s : List ℕ) (prn : ℕ) (h : List (List ℕ)) (is : List ℕ) (H : Holds s prn h) where
  pub row_held : (slot : ℕ) → 1 ≤ slot → slot ≤ 255 → row_in s is slot ≡ row_in_force prn h is slot
  unfolding row_in_force
  row_held slot p q = rw (H.mask, H.orbit slot p q, H.code slot p q, H.clock slot p q)

  pub list_held : list_in s is ≡ list_in_force prn h is
  unfolding list_in_force
  list_held = rows_same (row_in s is) (row_in_force prn h is) row_held

  pub count_held : issues_refusal is ≡ 0 → count_answer s is ≡ count_says (Ok (length (list_in_force prn h is)))
  count_held e = count_right s is e ∙ ap (λ (l : List Row). count_says (Ok (length l))) list_held

  pub at_held : (n : ℕ) → issues_refusal is ≡ 0 → row_at_answer s is n ≡ answer_of 0 (nth_of (list_in_force prn h is) n)
  at_held n e = at_right s is n e ∙ ap (λ (l : List Row). answer_of 0 (nth_of l n)) list_held

  pub slot_held : (slot : ℕ) → 1 ≤ slot → slot ≤ 255 → issues_refusal is ≡ 0 → row_of_slot_answer s is slot ≡ answer_of 0 (row_in_force prn h is slot)
  slot_held slot p q e = slot_right s is (issues_long is e) slot (λ z. omega arith) q e ∙ ap (answer_of 0) (row_held slot p q)

-- ---- the list by looking back is right
module _ (prn : ℕ) (h : List (List ℕ)) (is : List ℕ) where
  row_yes : (slot : ℕ) → qualifies_after prn h is slot ≡ true → row_in_force prn h is slot ≡ some (row_after prn h slot)
  unfolding row_in_force row_after qualifies_after row_of
  row_yes slot e = rw e

  row_no : (slot : ℕ) → qualifies_after prn h is slot ≡ false → row_in_force prn h is slot ≡ none
  unfolding row_in_force qualifies_after row_of
  row_no slot e = rw e

  served : (slot : ℕ) (r : Row) → 1 ≤ slot → slot ≤ 255 → row_in_force prn h is slot ≡ some r → Serves prn h is r
  served slot r p q e = go (qualifies_after prn h is slot) refl
    where
      go : (b : Bool) → qualifies_after prn h is slot ≡ b → Serves prn h is r
      go true a = record { slot = slot; low = p; high = q; qualified = a; row = (let f = row_yes slot a in cc) }
      go false a = absurd (let f = row_no slot a in let z : ◌≡◌ {A = ℕ} 0 1 = cc in omega arith)

  own : (slot : ℕ) (r : Row) → row_in_force prn h is slot ≡ some r → r.slot.0 ≡ slot
  unfolding row_after
  own slot r e = go (qualifies_after prn h is slot) refl
    where
      go : (b : Bool) → qualifies_after prn h is slot ≡ b → r.slot.0 ≡ slot
      go true a =
          let f : some r ≡ some (row_after prn h slot) = sym e ∙ row_yes slot a in
          let g : r ≡ row_after prn h slot = cc in
          ap (λ (x : Row). x.slot.0) g
      go false a = absurd (let f = row_no slot a in let z : ◌≡◌ {A = ℕ} 0 1 = cc in omega arith)

  counts : (n slot : ℕ) → count_from (row_in_force prn h is) n slot ≡ qualifying prn h is n slot
  unfolding count_from qualifying
  counts zero slot = refl
  counts (suc n) slot = go (qualifies_after prn h is slot) refl (counts n (slot + 1))
    where
      go : (b : Bool) → qualifies_after prn h is slot ≡ b → count_from (row_in_force prn h is) n (slot + 1) ≡ qualifying prn h is n (slot + 1) →
          count_from (row_in_force prn h is) (suc n) slot ≡ qualifying prn h is n (slot + 1) + pick b 1 0
      go true a e = let f = row_yes slot a in rw (f, e)
      go false a e = let f = row_no slot a in rw (f, e)

  -- DEMAND 3, of the list by looking back
  pub list_is_right : Right prn h is (list_in_force prn h is)
  unfolding list_in_force
  list_is_right = record {
    every = λ slot p q a. found_rows (row_in_force prn h is) 255 1 (row_after prn h slot) (record { slot = slot; low = p; high = omega arith; row = row_yes slot a });
    only = λ r m. (let f = rows_found (row_in_force prn h is) 255 1 r m in served f.slot r f.low (let g = f.high in omega arith) f.row);
    rising = λ i j d l m. rows_rise (row_in_force prn h is) (λ r. r.slot.0) own 255 1 i j d l m;
    counted = sym (count_length (row_in_force prn h is) 255 1) ∙ counts 255 1;
  }

-- DEMAND 3: after any frames, taken one by one into a fresh ledger for the PRN, the ledger's list is right
pub demand_3 : (s : List ℕ) (prn : ℕ) (h : List (List ℕ)) (is : List ℕ) → length s ≡ size → Right prn h is (list_in (run_bytes (fresh s prn) h) is)
demand_3 s prn h is l = rw (list_held (run_bytes (fresh s prn) h) prn h is (holds_run s prn h l)) (list_is_right prn h is)
