-- Laws of the rows walked in rising slot order: what is in the list, in which order, how many, and the k-th.
use mathlib.Core.Path.{◌≡◌, refl, sym, ap, ap₂, ◌∙◌}
use mathlib.Core.Logic.{◌⊎◌, inl, inr, ⊎_elim, dite}
use Prim.Native.Nat.{ℕ, zero, suc, ◌+◌, ◌-◌, ◌≤◌, ◌<◌}
use mathlib.Core.List.Memᴰ
use mathlib.Core.List.{List, [], ◌∷◌, ◌++◌, Memᴰ}
use mathlib.Core.Option.{Option, none, some}
use mathlib.Core.Bool.{Bool, true, false}
use lib.Dec.{eqb}
use lib.ListN.{get_or, length, length-append}
use native.Mathlib.Nat.{not-suc-le-zero, sub-zero}
use native.Mathlib.Decide.{ℕ_discrete, dec_lt}
use native.Mathlib.Omega.{arith}
use borrow.Author.Tests.{eq-eqb, ne_eqb}
use Rattle.bits.specs.Pick.{pick}
use Rattle.lookback.specs.Store.{or_else}
use Rattle.lookback.specs.Walk.{to_list, rows_from, rows, count_from, nth_of, nth_row_from}

-- some slot of the n from s on has the row r
pub record Found {A : Type 0} (f : ℕ → Option A) (n s : ℕ) (r : A) : Type 0 where
  pub slot : ℕ
  pub low : s ≤ slot
  pub high : slot < s + n
  pub row : f slot ≡ some r

found_later : {A : Type 0} {f : ℕ → Option A} {n s : ℕ} {r : A} → Found f n (s + 1) r → Found f (suc n) s r
found_later a = record { slot = a.slot; low = omega (arith, a.low); high = omega (arith, a.high); row = a.row }

-- ---- what is in the list
module _ {A : Type 0} where
  -- equal functions, equal rows
  pub rows_ext : (f g : ℕ → Option A) (n s : ℕ) → ((j : ℕ) → s ≤ j → j < s + n → f j ≡ g j) → rows_from f n s ≡ rows_from g n s
  unfolding rows_from
  rows_ext f g zero s e = refl
  rows_ext f g (suc n) s e =
      ap₂ (λ (o : Option A) (rs : List A). to_list o ++ rs) (e s (omega arith) (omega arith)) (rows_ext f g n (s + 1) (λ j p q. e j (omega arith) (omega arith)))

  pub rows_same : (f g : ℕ → Option A) → ((s : ℕ) → 1 ≤ s → s ≤ 255 → f s ≡ g s) → rows f ≡ rows g
  rows_same f g e = rows_ext f g 255 1 (λ j p q. e j p (omega arith))

  -- what is in the list is some slot's row
  pub rows_found : (f : ℕ → Option A) (n s : ℕ) (r : A) → Memᴰ r (rows_from f n s) → Found f n s r
  unfolding rows_from
  rows_found f zero s r m = absurd (Memᴰ.not-nil m)
  rows_found f (suc n) s r m = go (f s) refl m (rows_found f n (s + 1) r)
    where
      go : (o : Option A) → f s ≡ o → Memᴰ r (to_list o ++ rows_from f n (s + 1)) → (Memᴰ r (rows_from f n (s + 1)) → Found f n (s + 1) r) → Found f (suc n) s r
      go (some q) e m ih =
          ⊎_elim
          (λ h. record { slot = s; low = omega arith; high = omega arith; row = e ∙ ap some (sym h) })
          (λ t. found_later (ih t))
          (Memᴰ.cases_cons m)
      go none e m ih = found_later (ih m)

  -- and each slot's row is in the list
  pub found_rows : (f : ℕ → Option A) (n s : ℕ) (r : A) → Found f n s r → Memᴰ r (rows_from f n s)
  unfolding rows_from
  found_rows f zero s r a = absurd (omega (arith, a.low, a.high))
  found_rows f (suc n) s r a =
      dite (ℕ_discrete a.slot s)
      (λ q. here (f s) (ap f (sym q) ∙ a.row))
      (λ q. later (f s) (found_rows f n (s + 1) r (record { slot = a.slot; low = omega (arith, a.low); high = omega (arith, a.high); row = a.row })))
    where
      here : (o : Option A) → o ≡ some r → Memᴰ r (to_list o ++ rows_from f n (s + 1))
      here (some q) e = let h : r ≡ q = cc in Memᴰ.head h
      here none e = absurd (let z : ◌≡◌ {A = ℕ} 0 1 = cc in omega arith)

      later : (o : Option A) → Memᴰ r (rows_from f n (s + 1)) → Memᴰ r (to_list o ++ rows_from f n (s + 1))
      later (some q) m = Memᴰ.tail m
      later none m = m

  -- each element of a list is in it
  pub get_or_in : (xs : List A) (i : ℕ) (d : A) → i < length xs → Memᴰ (get_or xs i d) xs
  get_or_in [] i d h = absurd (not-suc-le-zero h)
  get_or_in (x ∷ xs) zero d h = Memᴰ.head refl
  get_or_in (x ∷ xs) (suc i) d h = Memᴰ.tail (get_or_in xs i d (omega arith))

  pub rows_at : (f : ℕ → Option A) (n s i : ℕ) (d : A) → i < length (rows_from f n s) → Found f n s (get_or (rows_from f n s) i d)
  rows_at f n s i d h = rows_found f n s (get_or (rows_from f n s) i d) (get_or_in (rows_from f n s) i d h)

-- ---- in which order: each row says its slot
module _ {A : Type 0} (f : ℕ → Option A) (key : A → ℕ) (own : (s : ℕ) (r : A) → f s ≡ some r → key r ≡ s) where
  rows_low : (n s i : ℕ) (d : A) → i < length (rows_from f n s) → s ≤ key (get_or (rows_from f n s) i d)
  rows_low n s i d h =
      let a = rows_at f n s i d h in
      omega (arith, own a.slot (get_or (rows_from f n s) i d) a.row, a.low)

  -- the slots rise strictly along the list
  pub rows_rise : (n s i j : ℕ) (d : A) → i < j → j < length (rows_from f n s) → key (get_or (rows_from f n s) i d) < key (get_or (rows_from f n s) j d)
  unfolding rows_from
  rows_rise zero s i j d p q = absurd (not-suc-le-zero q)
  rows_rise (suc n) s i j d p q = go (f s) refl i j p q (λ i j. rows_rise n (s + 1) i j d)
    where
      go : (o : Option A) → f s ≡ o → (i j : ℕ) → i < j → j < length (to_list o ++ rows_from f n (s + 1)) →
          ((i j : ℕ) → i < j → j < length (rows_from f n (s + 1)) → key (get_or (rows_from f n (s + 1)) i d) < key (get_or (rows_from f n (s + 1)) j d)) →
          key (get_or (to_list o ++ rows_from f n (s + 1)) i d) < key (get_or (to_list o ++ rows_from f n (s + 1)) j d)
      go (some r) e i zero p q ih = absurd (not-suc-le-zero p)
      go (some r) e zero (suc j) p q ih = omega (arith, own s r e, rows_low n (s + 1) j d (omega arith))
      go (some r) e (suc i) (suc j) p q ih = ih i j (omega arith) (omega arith)
      go none e i j p q ih = ih i j p q

  -- so no slot stands twice
  pub rows_once : (n s i j : ℕ) (d : A) → i < length (rows_from f n s) → j < length (rows_from f n s) → key (get_or (rows_from f n s) i d) ≡ key (get_or (rows_from f n s) j d) → i ≡ j
  rows_once n s i j d p q e =
      dite (dec_lt i j)
      (λ l. absurd (omega (arith, rows_rise n s i j d l q)))
      (λ l. dite (dec_lt j i) (λ m. absurd (omega (arith, rows_rise n s j i d m p))) (λ m. omega arith))

-- ---- how many
module _ {A : Type 0} (f : ℕ → Option A) where
  -- the number of slots that have a row is the length of the list
  pub count_length : (n s : ℕ) → count_from f n s ≡ length (rows_from f n s)
  unfolding rows_from count_from
  count_length zero s = refl
  count_length (suc n) s = omega (arith, length-append (to_list (f s)) (rows_from f n (s + 1)), count_length n (s + 1))

  one_or_none : (o : Option A) → length (to_list o) ≤ 1
  one_or_none (some r) = omega arith
  one_or_none none = omega arith

  pub count_le : (n s : ℕ) → count_from f n s ≤ n
  unfolding count_from
  count_le zero s = omega arith
  count_le (suc n) s = omega (arith, count_le n (s + 1), one_or_none (f s))

  pub rows_le : (n s : ℕ) → length (rows_from f n s) ≤ n
  rows_le n s = omega (arith, count_le n s, count_length n s)

-- ---- the k-th, from 1
module _ {A : Type 0} where
  -- there from 1 to the length
  pub nth_there : (xs : List A) (k : ℕ) (d : A) → 1 ≤ k → k ≤ length xs → nth_of xs k ≡ some (get_or xs (k - 1) d)
  unfolding nth_of
  nth_there [] k d p q = absurd (omega arith)
  nth_there (r ∷ rs) k d p q =
      dite (ℕ_discrete k 1)
      (λ e. rw e)
      (λ e.
      let g : k - 1 ≡ suc (k - 1 - 1) = omega arith in
      rw (ne_eqb k 1 e) (nth_there rs (k - 1) d (omega arith) (omega arith) ∙ sym (ap (λ (m : ℕ). some (get_or (r ∷ rs) m d)) g)))

  -- and nowhere else
  pub nth_missing : (xs : List A) (k : ℕ) → (k < 1) ⊎ (length xs < k) → nth_of xs k ≡ none
  unfolding nth_of
  nth_missing [] k o = refl
  nth_missing (r ∷ rs) k (inl h) = rw (ne_eqb k 1 (λ e. omega arith)) (nth_missing rs (k - 1) (inl (omega arith)))
  nth_missing (r ∷ rs) k (inr h) = rw (ne_eqb k 1 (λ e. omega arith)) (nth_missing rs (k - 1) (inr (omega arith)))

  -- the walk finds the k-th of the list
  pub nth_rows : (f : ℕ → Option A) (n s k : ℕ) → nth_row_from f n s k ≡ nth_of (rows_from f n s) k
  unfolding nth_row_from rows_from nth_of
  nth_rows f zero s k = refl
  nth_rows f (suc n) s k = go (f s) (nth_rows f n (s + 1))
    where
      either : (b : Bool) (r : A) (x : Option A) → or_else (pick b (some r) none) x ≡ pick b (some r) x
      either true r x = refl
      either false r x = refl

      go : (o : Option A) → ((j : ℕ) → nth_row_from f n (s + 1) j ≡ nth_of (rows_from f n (s + 1)) j) →
          or_else (nth_of (to_list o) k) (nth_row_from f n (s + 1) (k - length (to_list o))) ≡ nth_of (to_list o ++ rows_from f n (s + 1)) k
      go (some r) ih = rw (ih (k - 1)) (either (eqb k 1) r (nth_of (rows_from f n (s + 1)) (k - 1)))
      go none ih = rw (sub-zero k) (ih k)

-- ---- a loop's turn and its end: i of the n slots are passed, and s is the next
module _ {A : Type 0} (f : ℕ → Option A) (n i s : ℕ) where
  pub rows_step : i < n → rows_from f (n - i) s ≡ to_list (f s) ++ rows_from f (n - (i + 1)) (s + 1)
  unfolding rows_from
  rows_step h = let e : n - i ≡ suc (n - (i + 1)) = omega arith in rw e

  pub rows_none : i < n → f s ≡ none → rows_from f (n - i) s ≡ rows_from f (n - (i + 1)) (s + 1)
  rows_none h e = rows_step h ∙ rw e

  pub rows_one : (r : A) → i < n → f s ≡ some r → rows_from f (n - i) s ≡ r ∷ rows_from f (n - (i + 1)) (s + 1)
  rows_one r h e = rows_step h ∙ rw e

  pub rows_end : n ≤ i → rows_from f (n - i) s ≡ []
  unfolding rows_from
  rows_end h = let e : n - i ≡ 0 = omega arith in rw e

  pub count_step : i < n → count_from f (n - i) s ≡ count_from f (n - (i + 1)) (s + 1) + length (to_list (f s))
  unfolding count_from
  count_step h = let e : n - i ≡ suc (n - (i + 1)) = omega arith in rw e

  pub count_end : n ≤ i → count_from f (n - i) s ≡ 0
  unfolding count_from
  count_end h = let e : n - i ≡ 0 = omega arith in rw e

  nth_step : (k : ℕ) → i < n → nth_row_from f (n - i) s k ≡ or_else (nth_of (to_list (f s)) k) (nth_row_from f (n - (i + 1)) (s + 1) (k - length (to_list (f s))))
  unfolding nth_row_from
  nth_step k h = let e : n - i ≡ suc (n - (i + 1)) = omega arith in rw e

  pub nth_hit : (k : ℕ) (r : A) → i < n → f s ≡ some r → k ≡ 1 → nth_row_from f (n - i) s k ≡ some r
  unfolding nth_of
  nth_hit k r h e p = nth_step k h ∙ rw (e, eq-eqb k 1 p)

  pub nth_pass : (k : ℕ) (r : A) → i < n → f s ≡ some r → (k ≡ 1 → ⊥) → nth_row_from f (n - i) s k ≡ nth_row_from f (n - (i + 1)) (s + 1) (k - 1)
  unfolding nth_of
  nth_pass k r h e p = nth_step k h ∙ rw (e, ne_eqb k 1 p)

  pub nth_skip : (k : ℕ) → i < n → f s ≡ none → nth_row_from f (n - i) s k ≡ nth_row_from f (n - (i + 1)) (s + 1) k
  unfolding nth_of
  nth_skip k h e = nth_step k h ∙ rw (e, sub-zero k)

  pub nth_end : (k : ℕ) → n ≤ i → nth_row_from f (n - i) s k ≡ none
  unfolding nth_row_from
  nth_end k h = let e : n - i ≡ 0 = omega arith in rw e
