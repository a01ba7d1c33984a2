-- Many bits of a mask at once: a row of them apart from those that follow, for any length.
use mathlib.Core.Path.{◌≡◌, sym, ◌∙◌}
use mathlib.Core.Logic.{◌≢◌}
use mathlib.Core.Bool.{Bool, true, false}
use mathlib.Core.List.{List, [], ◌∷◌, ◌++◌, append_assoc}
use Prim.Native.Nat.{ℕ, zero, suc, ◌+◌, ◌-◌, ◌≤◌, ◌<◌}
use native.Mathlib.Omega.{arith}
use lib.ListN.{length, drop}
use borrow.Author.Tests.{ne_eqb}
use Rattle.bits.specs.Table.{table}
use Rattle.bits.proofs.TableLaws.{drop_one, length_table, get_or_table}
use Rattle.slots.specs.Slots.{set_count, nth_from}

module _ {A : Type 0} where
  -- what is left of a table from entry i on: w entries, and what is left from entry i + w on
  pub drop_table : (f : ℕ → A) (n i w : ℕ) → i + w ≤ n → drop i (table f n) ≡ table (λ (j : ℕ). f (i + j)) w ++ drop (i + w) (table f n)
  unfolding table
  drop_table f n i zero h = let e : i + 0 ≡ i = omega arith in rw e
  drop_table f n i (suc w) h =
      let e : i + suc w ≡ i + w + 1 = omega arith in
      drop_table f n i w (omega arith)
      ∙ rw (drop_one (table f n) (i + w) (f (i + w)) (omega (arith, length_table f n)), get_or_table f n (i + w) (f (i + w)) (omega arith), e)
      (sym (append_assoc (table (λ (j : ℕ). f (i + j)) w) (f (i + w) ∷ []) (drop (i + w + 1) (table f n))))

-- the set bits of two rows
pub count_append : (xs ys : List Bool) → set_count (xs ++ ys) ≡ set_count xs + set_count ys
unfolding set_count
count_append [] ys = omega arith
count_append (true ∷ xs) ys = omega (arith, count_append xs ys)
count_append (false ∷ xs) ys = omega (arith, count_append xs ys)

pass_one : (bs : List Bool) (k n : ℕ) → n ≢ 1 → nth_from (true ∷ bs) k n ≡ nth_from bs (k + 1) (n - 1)
unfolding nth_from
pass_one bs k n q = rw (ne_eqb n 1 q)

-- with fewer set bits in the first row than are sought, it is passed whole
pub nth_pass_many : (xs ys : List Bool) (k n : ℕ) → set_count xs < n → nth_from (xs ++ ys) k n ≡ nth_from ys (k + length xs) (n - set_count xs)
unfolding set_count nth_from
nth_pass_many [] ys k n h =
    let e : k + 0 ≡ k = omega arith in
    let f : n - 0 ≡ n = omega arith in
    rw (e, f)
nth_pass_many (false ∷ xs) ys k n h =
    let e : k + 1 + length xs ≡ k + suc (length xs) = omega arith in
    let f : n - set_count xs ≡ n - (set_count xs + 0) = omega arith in
    nth_pass_many xs ys (k + 1) n (omega arith) ∙ rw (e, f)
nth_pass_many (true ∷ xs) ys k n h =
    let e : k + 1 + length xs ≡ k + suc (length xs) = omega arith in
    let f : n - 1 - set_count xs ≡ n - (set_count xs + 1) = omega arith in
    pass_one (xs ++ ys) k n (λ q. omega arith) ∙ nth_pass_many xs ys (k + 1) (n - 1) (omega arith) ∙ rw (e, f)
