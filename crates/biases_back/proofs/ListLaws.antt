-- Lists: a property of every element, two tables joined, and how many biases the satellites of a list have.
use mathlib.Core.Path.{◌≡◌, sym, ap, ◌∙◌}
use mathlib.Core.Logic.{dite}
use Prim.Native.Nat.{ℕ, zero, suc, ◌+◌, ◌-◌, ◌≤◌}
use mathlib.Core.List.{List, [], ◌∷◌, ◌++◌, append_assoc, append-nil}
use lib.ListN.{get_or, length, get_or-append, get_or-eq_default}
use lib.Seq.{get_or-append-add}
use native.Mathlib.Decide.{dec_lt}
use native.Mathlib.Nat.{add-suc, add-zero}
use native.Mathlib.Omega.{arith}
use Rattle.bits.specs.Table.{table}
use Rattle.bits.proofs.TableLaws.{length_table, get_or_table}
use Rattle.biases.specs.Biases.{blank_sat, filled}
use Rattle.biases.specs.declared.BiasSat.{BiasSat}
use Rattle.biases.proofs.FilledLaws.{filled_at, length_filled}
use Rattle.canonical_biases.specs.Canon.{bias_count}

-- ---- what holds of every element and of what stands past the end
module _ {A : Type 0} (P : A → Type 0) (d : A) (pd : P d) where
  pub all_table : (f : ℕ → A) (n : ℕ) → ((i : ℕ) → P (f i)) → (i : ℕ) → P (get_or (table f n) i d)
  all_table f n h i =
      dite (dec_lt i n)
      (λ l. rw (get_or_table f n i d l) (h i))
      (λ l. rw (get_or-eq_default (table f n) d {n = i} (omega (arith, length_table f n))) pd)

  pub all_append : (xs ys : List A) → ((i : ℕ) → P (get_or xs i d)) → ((i : ℕ) → P (get_or ys i d)) → (i : ℕ) → P (get_or (xs ++ ys) i d)
  all_append xs ys h k i =
      dite (dec_lt i (length xs))
      (λ l. rw (get_or-append xs ys d i l) (h i))
      (λ l.
      let e : i ≡ length xs + (i - length xs) = omega arith in
      rw (e, get_or-append-add xs ys (i - length xs) d) (k (i - length xs)))

  pub all_filled : (n : ℕ) (xs : List A) → ((i : ℕ) → P (get_or xs i d)) → (i : ℕ) → P (get_or (filled n d xs) i d)
  all_filled n xs h i =
      dite (dec_lt i n)
      (λ l. rw (filled_at n d xs i l) (h i))
      (λ l. rw (get_or-eq_default (filled n d xs) d {n = i} (omega (arith, length_filled n d xs))) pd)

-- ---- one table behind another
pub table_join : {A : Type 0} (f : ℕ → A) (n m : ℕ) → table f n ++ table (λ (i : ℕ). f (n + i)) m ≡ table f (n + m)
unfolding table
table_join f n zero = rw (add-zero n) (append-nil (table f n))
table_join f n (suc m) =
    rw (add-suc n m)
    (sym (append_assoc (table f n) (table (λ (i : ℕ). f (n + i)) m) (f (n + m) ∷ []))
    ∙ ap (λ (xs : List _). xs ++ (f (n + m) ∷ [])) (table_join f n m))

-- ---- how many biases
-- satellites without biases add none
pub count_past : (rs : List BiasSat) (n d : ℕ) → ((i : ℕ) → n ≤ i → (get_or rs i blank_sat).count ≡ 0) → bias_count rs (n + d) ≡ bias_count rs n
unfolding bias_count
count_past rs n zero h = ap (bias_count rs) (add-zero n)
count_past rs n (suc d) h =
    rw (add-suc n d, h (n + d) (omega arith), count_past rs n d h) (omega arith)

-- of n satellites out of 31
pub count_all : (rs : List BiasSat) (n : ℕ) → n ≤ 31 → ((i : ℕ) → n ≤ i → (get_or rs i blank_sat).count ≡ 0) → bias_count rs 31 ≡ bias_count rs n
count_all rs n l h =
    let e : n + (31 - n) ≡ 31 = omega arith in
    sym (ap (bias_count rs) e) ∙ count_past rs n (31 - n) h
