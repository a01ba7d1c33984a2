-- What the answers say, and what they say of the row behind them.
use Prim.Native.Nat.{ℕ, ◌+◌, ◌-◌, ◌<◌, ◌≤◌}
use mathlib.Core.Path.{◌≡◌, refl, sym, ap, ◌∙◌}
use mathlib.Core.Logic.{dite, ◌≢◌}
use native.Mathlib.Decide.{ℕ_discrete}
use mathlib.Core.List.{List}
use borrow.Author.Tests.{eq-eqb, ne_eqb, lt-ltb, le-ltb}
use mathlib.Core.Option.{Option, none, some}
use mathlib.Core.Bool.{Bool, true, false}
use native.Mathlib.Omega.{arith}
use lib.ListN.{length, get_or}
use Rattle.bits.specs.Some.{any_of}
use Rattle.lookback.specs.Walk.{to_list, nth_of}
use Rattle.broadcast.specs.Issues.{is_ill, issues_refusal}
use Rattle.broadcast.proofs.IssueLaws.{issues_sound}
use Rattle.row.specs.Row.{row_says, answer_of, row_held}
use Rattle.row.specs.declared.Row.{Row}
use Rattle.std.specs.Prelude.{Result, Ok, Err}
use Rattle.verdict.specs.declared.Refused.{Refused}
use Rattle.list.specs.Rows.{found_count, count_says, row_in, list_in, count_answer, row_at_answer, row_of_slot_answer}

-- answers that say the same are the same: a promise of what is said admits a single answer
pub row_once : (a b : Result Row Refused) → row_says a ≡ row_says b → a ≡ b
row_once (Ok r) (Ok q) e = ap Ok (only e)
  where
    only : ◌≡◌ {A = ℕ × Option Row} (0, some r) (0, some q) → r ≡ q
    only f = let g : some r ≡ some q = ap (λ (x : ℕ × Option Row). x.1) f in cc
row_once (Ok r) (Err n) e = absurd (let l = ap found_count e in omega arith)
row_once (Err n) (Ok r) e = absurd (let l = ap found_count e in omega arith)
row_once (Err n) (Err m) e = ap (λ (k : ℕ). Err (record { 0 = k })) (ap (λ (x : ℕ × Option Row). x.0) e)

pub count_once : (a b : Result ℕ Refused) → count_says a ≡ count_says b → a ≡ b
count_once (Ok n) (Ok m) e = let g : some n ≡ some m = ap (λ (x : ℕ × Option ℕ). x.1) e in cc
count_once (Ok n) (Err m) e = absurd (let l = ap (λ (x : ℕ × Option ℕ). length (to_list x.1)) e in omega arith)
count_once (Err n) (Ok m) e = absurd (let l = ap (λ (x : ℕ × Option ℕ). length (to_list x.1)) e in omega arith)
count_once (Err n) (Err m) e = ap (λ (k : ℕ). Err (record { 0 = k })) (ap (λ (x : ℕ × Option ℕ). x.0) e)

-- the row behind an answer
pub found_some : (o : Option Row) (r : Row) → answer_of 0 o ≡ row_says (Ok r) → o ≡ some r
found_some (some q) r e = ap (λ (x : ℕ × Option Row). x.1) e
found_some none r e = absurd (let l = ap found_count e in omega arith)

pub refused_none : (o : Option Row) (n : Refused) → answer_of 0 o ≡ row_says (Err n) → o ≡ none
refused_none (some q) n e = absurd (let l = ap found_count e in omega arith)
refused_none none n e = refl

pub count_one : (o : Option Row) → found_count (answer_of 0 o) ≡ length (to_list o)
count_one (some q) = refl
count_one none = refl

pub found_le : (a : Result Row Refused) → found_count (row_says a) ≤ 1
found_le (Ok r) = omega arith
found_le (Err n) = omega arith

-- slot i + 1 takes entry i
pub row_next : (s is : List ℕ) (i : ℕ) → row_in s is (i + 1) ≡ row_held s (get_or is i 0) (i + 1)
row_next s is i = let e : i + 1 - 1 ≡ i = omega arith in rw e

-- the cases of the three questions
module _ (s is : List ℕ) where
  pub count_bad : (issues_refusal is ≡ 0 → ⊥) → count_answer s is ≡ (issues_refusal is, none)
  unfolding count_answer
  count_bad n = rw (ne_eqb (issues_refusal is) 0 n)

  pub count_right : issues_refusal is ≡ 0 → count_answer s is ≡ (0, some (length (list_in s is)))
  unfolding count_answer
  count_right e = rw (eq-eqb (issues_refusal is) 0 e)

  answer_bad : (m : ℕ) (o : Option Row) → (m ≡ 0 → ⊥) → answer_of m o ≡ (m, none)
  answer_bad m (some r) n = rw (ne_eqb m 0 n)
  answer_bad m none n = rw (ne_eqb m 0 n)

  pub at_bad : (n : ℕ) → (issues_refusal is ≡ 0 → ⊥) → row_at_answer s is n ≡ (issues_refusal is, none)
  unfolding row_at_answer
  at_bad n e = answer_bad (issues_refusal is) (nth_of (list_in s is) n) e

  pub at_right : (n : ℕ) → issues_refusal is ≡ 0 → row_at_answer s is n ≡ answer_of 0 (nth_of (list_in s is) n)
  unfolding row_at_answer
  at_right n e = ap (λ (m : ℕ). answer_of m (nth_of (list_in s is) n)) e

  pub slot_len : (slot : ℕ) → (length is ≡ 255 → ⊥) → row_of_slot_answer s is slot ≡ (1, none)
  unfolding row_of_slot_answer
  slot_len slot n = rw (ne_eqb (length is) 255 n) (answer_bad 1 (row_in s is slot) (λ e. omega arith))

  module _ (len : length is ≡ 255) where
    pub slot_zero : (slot : ℕ) → slot ≡ 0 → row_of_slot_answer s is slot ≡ (11, none)
    unfolding row_of_slot_answer
    slot_zero slot e = rw (eq-eqb (length is) 255 len, eq-eqb slot 0 e) (answer_bad 11 (row_in s is slot) (λ q. omega arith))

    module _ (slot : ℕ) (low : slot ≡ 0 → ⊥) where
      pub slot_high : 255 < slot → row_of_slot_answer s is slot ≡ (11, none)
      unfolding row_of_slot_answer
      slot_high h = rw (eq-eqb (length is) 255 len, ne_eqb slot 0 low, lt-ltb 255 slot h) (answer_bad 11 (row_in s is slot) (λ q. omega arith))

      pub slot_bad : slot ≤ 255 → (issues_refusal is ≡ 0 → ⊥) → row_of_slot_answer s is slot ≡ (issues_refusal is, none)
      unfolding row_of_slot_answer issues_refusal
      slot_bad h n = ill (any_of is_ill is) refl
        where
          ill : (b : Bool) → any_of is_ill is ≡ b → row_of_slot_answer s is slot ≡ (issues_refusal is, none)
          ill true e = rw (eq-eqb (length is) 255 len, ne_eqb slot 0 low, le-ltb 255 slot h, e) (answer_bad 17 (row_in s is slot) (λ q. omega arith))
          ill false e = absurd (n (rw (eq-eqb (length is) 255 len, e)))

      pub slot_right : slot ≤ 255 → issues_refusal is ≡ 0 → row_of_slot_answer s is slot ≡ answer_of 0 (row_in s is slot)
      unfolding row_of_slot_answer
      slot_right h e = rw (eq-eqb (length is) 255 len, ne_eqb slot 0 low, le-ltb 255 slot h, issues_sound is e)

  -- a count that is refused is refused for the issues
  pub count_refused : (why : Refused) → count_says (Err why) ≡ count_answer s is → (issues_refusal is ≡ why.0) × (issues_refusal is ≢ 0)
  count_refused why e =
      dite (ℕ_discrete (issues_refusal is) 0)
      (λ z. absurd (let l = ap (λ (x : ℕ × Option ℕ). length (to_list x.1)) (e ∙ count_right z) in omega arith))
      (λ n. (sym (ap (λ (x : ℕ × Option ℕ). x.0) (e ∙ count_bad n)), n))

  -- a count of rows is that of the list, and the issues are sound
  pub count_rows : (n : ℕ) → count_says (Ok n) ≡ count_answer s is → (issues_refusal is ≡ 0) × (n ≡ length (list_in s is))
  count_rows n e =
      dite (ℕ_discrete (issues_refusal is) 0)
      (λ z. (z, let g : some n ≡ some (length (list_in s is)) = ap (λ (x : ℕ × Option ℕ). x.1) (e ∙ count_right z) in cc))
      (λ m. absurd (let l = ap (λ (x : ℕ × Option ℕ). length (to_list x.1)) (e ∙ count_bad m) in omega arith))
