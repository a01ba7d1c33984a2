-- The first n of a list, filled up; a run of elements stored into a list, of any type.
use mathlib.Core.Path.{◌≡◌, refl, sym, ap, ◌∙◌}
use mathlib.Core.Logic.{dite, ◌≢◌}
use Prim.Native.Nat.{ℕ, zero, suc, ◌+◌, ◌-◌, ◌≤◌, ◌<◌}
use mathlib.Core.List.{List, [], ◌∷◌, ◌++◌, append_assoc, append-nil}
use lib.ListN.{get_or, set, length, replicate, length-append, length-take, length-set, length-replicate, get_or-replicate, get_or-append, get_or-eq_default}
use lib.Seq.{get_or-take, get_or_at, get_or-append-add, ext_get_or, get_or-set_same, get_or-set_other, set_out, take_all}
use native.Mathlib.Decide.{dec_lt, ℕ_discrete}
use native.Mathlib.Nat.{add-suc, add-zero}
use native.Mathlib.Numerals.{add-one}
use native.Mathlib.Omega.{arith}
use Rattle.bits.specs.Table.{table}
use Rattle.bits.proofs.TableLaws.{length_table}
use Rattle.biases.specs.Biases.{filled, stored}

module _ {A : Type 0} where
  pub length_filled : (n : ℕ) (d : A) (xs : List A) → length (filled n d xs) ≡ n
  unfolding filled
  length_filled n d xs =
      length-take n (xs ++ replicate n d) ∙ omega (arith, length-append xs (replicate n d), length-replicate n d)

  -- element i of the filled list is that of the list, and d past its end
  pub filled_at : (n : ℕ) (d : A) (xs : List A) (i : ℕ) → i < n → get_or (filled n d xs) i d ≡ get_or xs i d
  unfolding filled
  filled_at n d xs i h =
      get_or-take n (xs ++ replicate n d) i d h
      ∙ dite (dec_lt i (length xs))
      (λ l. get_or-append xs (replicate n d) d i l)
      (λ l.
      let k = i - length xs in
      let e : i ≡ length xs + k = omega arith in
      ap (λ (j : ℕ). get_or (xs ++ replicate n d) j d) e
      ∙ get_or-append-add xs (replicate n d) k d
      ∙ get_or-replicate n k d d (omega arith)
      ∙ sym (get_or-eq_default xs d (omega arith)))

  -- nothing to fill up
  pub filled_none : (n : ℕ) (d : A) → replicate n d ≡ filled n d []
  unfolding filled
  filled_none n d = sym (take_all n (replicate n d) (omega (arith, length-replicate n d)))

  -- equal elements, equal lists
  pub filled_same : (n : ℕ) (d : A) (xs ys : List A) → ((i : ℕ) → i < n → get_or xs i d ≡ get_or ys i d) → filled n d xs ≡ filled n d ys
  filled_same n d xs ys e =
      ext_get_or d (filled n d xs) (filled n d ys) (omega (arith, length_filled n d xs, length_filled n d ys))
      (λ i h.
      let l : i < n = omega (arith, length_filled n d xs) in
      filled_at n d xs i l ∙ e i l ∙ sym (filled_at n d ys i l))

  -- a list that is filled is left as it is
  pub filled_again : (n : ℕ) (d : A) (xs : List A) → length xs ≡ n → filled n d xs ≡ xs
  filled_again n d xs e =
      ext_get_or d (filled n d xs) xs (omega (arith, length_filled n d xs)) (λ i h. filled_at n d xs i (omega (arith, length_filled n d xs)))

  -- what stands past the end is not looked at
  pub filled_full : (n : ℕ) (d : A) (xs ys : List A) → n ≤ length xs → filled n d (xs ++ ys) ≡ filled n d xs
  filled_full n d xs ys h = filled_same n d (xs ++ ys) xs (λ i l. get_or-append xs ys d i (omega arith))

  -- one element more
  snoc_at : (xs : List A) (v d : A) (j : ℕ) → j ≢ length xs → get_or (xs ++ (v ∷ [])) j d ≡ get_or xs j d
  snoc_at xs v d j ne =
      dite (dec_lt j (length xs))
      (λ l. get_or-append xs (v ∷ []) d j l)
      (λ l.
      get_or-eq_default (xs ++ (v ∷ [])) d (omega (arith, length-append xs (v ∷ [])))
      ∙ sym (get_or-eq_default xs d (omega arith)))

  pub filled_set : (n : ℕ) (d : A) (xs : List A) (k : ℕ) (v : A) → length xs ≡ k → k < n → set (filled n d xs) k v ≡ filled n d (xs ++ (v ∷ []))
  filled_set n d xs k v e l =
      let f = length_filled n d xs in
      let g = length_filled n d (xs ++ (v ∷ [])) in
      ext_get_or d (set (filled n d xs) k v) (filled n d (xs ++ (v ∷ [])))
      (omega (arith, length-set (filled n d xs) k v))
      (λ j h.
      let m : j < n = omega (arith, length-set (filled n d xs) k v) in
      dite (ℕ_discrete j k)
      (λ q. rw q (get_or-set_same (filled n d xs) k v d (omega arith) ∙ sym (filled_at n d (xs ++ (v ∷ [])) k l ∙ get_or_at xs v [] d k e)))
      (λ q.
      get_or-set_other (filled n d xs) k j v d q
      ∙ filled_at n d xs j m
      ∙ sym (filled_at n d (xs ++ (v ∷ [])) j m ∙ snoc_at xs v d j (λ r. q (r ∙ e)))))

  pub length_stored : (xs : List A) (k : ℕ) (f : ℕ → A) (n : ℕ) → length (stored xs k f n) ≡ length xs
  unfolding stored
  length_stored xs k f zero = refl
  length_stored xs k f (suc n) = length-set (stored xs k f n) (k + n) (f n) ∙ length_stored xs k f n

  pub stored_none : (xs : List A) (k : ℕ) (f : ℕ → A) → xs ≡ stored xs k f 0
  unfolding stored
  stored_none xs k f = refl

  pub stored_step : (xs : List A) (k : ℕ) (f : ℕ → A) (n : ℕ) → stored xs k f (n + 1) ≡ set (stored xs k f n) (k + n) (f n)
  unfolding stored
  stored_step xs k f n = rw (add-one n)

  -- from the end on nothing more is stored
  stored_past : (xs : List A) (k : ℕ) (f : ℕ → A) (n d : ℕ) → length xs ≤ k + n → stored xs k f (n + d) ≡ stored xs k f n
  unfolding stored
  stored_past xs k f n zero h = rw (add-zero n)
  stored_past xs k f n (suc d) h =
      rw (add-suc n d)
      (set_out (stored xs k f (n + d)) (k + (n + d)) (f (n + d)) (omega (arith, length_stored xs k f (n + d)))
      ∙ stored_past xs k f n d h)

  pub stored_stop : (xs : List A) (k : ℕ) (f : ℕ → A) (n m : ℕ) → n ≤ m → length xs ≤ k + n → stored xs k f n ≡ stored xs k f m
  stored_stop xs k f n m l h =
      let e : m ≡ n + (m - n) = omega arith in
      sym (ap (stored xs k f) e ∙ stored_past xs k f n (m - n) h)

  -- a run stored behind a list that is filled up
  pub stored_filled : (n : ℕ) (d : A) (xs : List A) (f : ℕ → A) (m : ℕ) → stored (filled n d xs) (length xs) f m ≡ filled n d (xs ++ table f m)
  unfolding stored table
  stored_filled n d xs f zero = ap (filled n d) (sym (append-nil xs))
  stored_filled n d xs f (suc m) =
      let ys = xs ++ table f m in
      let e : length ys ≡ length xs + m = length-append xs (table f m) ∙ ap (λ (j : ℕ). length xs + j) (length_table f m) in
      rw (stored_filled n d xs f m, ← append_assoc xs (table f m) (f m ∷ []))
      (dite (dec_lt (length xs + m) n)
      (λ l. filled_set n d ys (length xs + m) (f m) e l)
      (λ l.
      set_out (filled n d ys) (length xs + m) (f m) (omega (arith, length_filled n d ys))
      ∙ sym (filled_full n d ys (f m ∷ []) (omega arith))))
