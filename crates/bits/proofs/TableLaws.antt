-- A list by its elements, and a list filled from the front by a loop, of any type.
use mathlib.Core.Path.{◌≡◌, refl, sym, ap, ap₂, ◌∙◌}
use mathlib.Core.Logic.{⊎_elim, dite, ◌≢◌}
use Prim.Native.Nat.{ℕ, zero, suc, ◌+◌, ◌≤◌, ◌<◌}
use mathlib.Core.List.{List, [], ◌∷◌, ◌++◌, append_assoc, append-nil}
use lib.ListN.{get_or, set, length, drop, length-append, length-set, drop_of_length-le, get_or-append}
use lib.Seq.{drop-cons, set_at, get_or_at, ext_get_or, get_or-set_same, get_or-set_other}
use native.Mathlib.Nat.{not-suc-le-zero, eq-or-lt_of_le, le_of_suc-le-suc}
use native.Mathlib.Decide.{ℕ_discrete}
use native.Mathlib.Numerals.{add-one}
use native.Mathlib.Omega.{arith}
use Rattle.bits.specs.Table.{table}

module _ {A : Type 0} where
  -- what is left from entry i on is that entry, and what is left from the next on
  pub drop_one : (l : List A) (i : ℕ) (d : A) → i < length l → drop i l ≡ get_or l i d ∷ drop (i + 1) l
  drop_one l i d h = rw (add-one, drop-cons l i d)

  pub length_table : (f : ℕ → A) (n : ℕ) → length (table f n) ≡ n
  unfolding table
  length_table f zero = refl
  length_table f (suc n) = length-append (table f n) (f n ∷ []) ∙ omega (arith, length_table f n)

  -- element i
  pub get_or_table : (f : ℕ → A) (n i : ℕ) (d : A) → i < n → get_or (table f n) i d ≡ f i
  unfolding table
  get_or_table f zero i d h = absurd (not-suc-le-zero h)
  get_or_table f (suc n) i d h =
      ⊎_elim
      (λ (e : i ≡ n). rw e (get_or_at (table f n) (f n) [] d n (length_table f n)))
      (λ (l : i < n). get_or-append (table f n) (f n ∷ []) d i (rw (length_table f n) l) ∙ get_or_table f n i d l)
      (eq-or-lt_of_le (le_of_suc-le-suc h))

  -- equal elements, equal lists
  pub table_ext : (f g : ℕ → A) (n : ℕ) → ((i : ℕ) → i < n → f i ≡ g i) → table f n ≡ table g n
  unfolding table
  table_ext f g zero e = refl
  table_ext f g (suc n) e = ap₂ (λ (xs : List A) (x : A). xs ++ (x ∷ [])) (table_ext f g n (λ i l. e i (omega arith))) (e n (omega arith))

  -- a list is the table of its elements
  pub table_same : (xs : List A) (n : ℕ) (d : A) → length xs ≡ n → table (λ (i : ℕ). get_or xs i d) n ≡ xs
  table_same xs n d e =
      ext_get_or d (table (λ (i : ℕ). get_or xs i d) n) xs (omega (arith, length_table (λ (i : ℕ). get_or xs i d) n))
      (λ j h. get_or_table (λ (i : ℕ). get_or xs i d) n j d (omega (arith, length_table (λ (i : ℕ). get_or xs i d) n)))

  -- one element changed
  pub table_set : (f g : ℕ → A) (n i : ℕ) (v d : A) → i < n → g i ≡ v → ((j : ℕ) → j < n → j ≢ i → g j ≡ f j) → table g n ≡ set (table f n) i v
  table_set f g n i v d l e o =
      ext_get_or d (table g n) (set (table f n) i v)
      (omega (arith, length_table g n, length_table f n, length-set (table f n) i v))
      (λ j h.
      let k : j < n = omega (arith, length_table g n) in
      get_or_table g n j d k
      ∙ dite (ℕ_discrete j i)
      (λ q. rw q (e ∙ sym (get_or-set_same (table f n) i v d (omega (arith, length_table f n)))))
      (λ q. o j k q ∙ sym (get_or_table f n j d k) ∙ sym (get_or-set_other (table f n) i j v d q)))

  -- nothing stored yet
  pub fill_start : (f : ℕ → A) (d : List A) → d ≡ table f 0 ++ drop 0 d
  unfolding table
  fill_start f d = refl

  -- one more element stored
  fill_more : (f : ℕ → A) (n : ℕ) (d : List A) (z : A) → n < length d → set (table f n ++ drop n d) n (f n) ≡ table f (n + 1) ++ drop (n + 1) d
  unfolding table
  fill_more f n d z l =
      ap (λ (t : List A). set (table f n ++ t) n (f n)) (drop-cons d n z l)
      ∙ set_at (table f n) (get_or d n z) (drop (suc n) d) (f n) n (length_table f n)
      ∙ rw (add-one n) (sym (append_assoc (table f n) (f n ∷ []) (drop (suc n) d)))

  -- all stored
  fill_all : (f : ℕ → A) (n : ℕ) (d : List A) → length d ≤ n → table f n ++ drop n d ≡ table f n
  fill_all f n d l = ap (λ (t : List A). table f n ++ t) (drop_of_length-le d l) ∙ append-nil (table f n)

  -- the same, as a loop's turn and its end have them
  pub fill_step : (f : ℕ → A) (n : ℕ) (d out : List A) (v z : A) → n < length d → out ≡ table f n ++ drop n d → v ≡ f n → set out n v ≡ table f (n + 1) ++ drop (n + 1) d
  fill_step f n d out v z l e q = rw (e, q) (fill_more f n d z l)

  pub fill_done : (f : ℕ → A) (n k : ℕ) (d out : List A) → n ≡ k → length d ≡ k → out ≡ table f n ++ drop n d → out ≡ table f k
  fill_done f n k d out q l e = e ∙ rw q (fill_all f k d (omega arith))
