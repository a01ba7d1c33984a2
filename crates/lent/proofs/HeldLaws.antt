-- Laws of records of one width in lent bytes: a record put is an element set in the list that the bytes say.
use mathlib.Core.Path.{◌≡◌, refl, sym, ap, ◌∙◌}
use mathlib.Core.Logic.{◌⊎◌, inl, inr, ⊎_elim, dite, ◌≢◌}
use Prim.Native.Nat.{ℕ, suc, ◌+◌, ◌-◌, ◌*◌, ◌≤◌, ◌<◌}
use mathlib.Core.Bool.{Bool, true, false, not, ◌&&◌}
use mathlib.Core.List.{List, [], ◌∷◌}
use lib.Dec.{eqb, ltb}
use lib.ListN.{get_or, length}
use lib.Seq.{set_out}
use native.Mathlib.Nat.{mul-suc, mul-le-mul_left}
use native.Mathlib.Decide.{ℕ_discrete, dec_lt}
use native.Mathlib.Omega.{arith}
use borrow.Author.Tests.{eq-eqb, ne_eqb, lt-ltb, le-ltb}
use Rattle.bits.specs.Pick.{pick}
use Rattle.bits.specs.Bytes.{store_at, row_at, Kept}
use Rattle.bits.proofs.TableLaws.{table_set, table_ext, length_table, get_or_table}
use Rattle.bits.proofs.ByteLaws.{row_store, row_kept, kept_same, kept_trans, kept_wide, kept_store}
use Rattle.lookback.specs.Store.{Named, put, replace, replace_all, in_order}
use Rattle.lookback.proofs.ReplaceLaws.{flat}
use Rattle.lent.specs.Held.{offset, held_at, helds_at, put_held, comes_in, replace_held, replace_helds, target_of}
use Rattle.lent.proofs.PastLaws.{store_past}

-- a slot's record ends where or before a later slot's begins
ordered : (w j i : ℕ) → 0 < j → j < i → w * (j - 1) + w ≤ w * (i - 1)
ordered w j i p q =
    let m : w * suc (j - 1) ≤ w * (i - 1) = mul-le-mul_left w (omega arith) in
    omega (arith, mul-suc w (j - 1))

pub within : (w i : ℕ) → i < 256 → 0 < i → w * (i - 1) + w ≤ w * 255
within w i q p =
    let m : w * suc (i - 1) ≤ w * 255 = mul-le-mul_left w (omega arith) in
    omega (arith, mul-suc w (i - 1))

pub get_or_helds : {A : Type 0} (of : List ℕ → A) (w : ℕ) (s : List ℕ) (st i : ℕ) (d : A) → i < 255 → get_or (helds_at of w s st) i d ≡ held_at of w s st (i + 1)
unfolding helds_at
get_or_helds of w s st i d l = get_or_table _ 255 i d l

pub length_helds : {A : Type 0} (of : List ℕ → A) (w : ℕ) (s : List ℕ) (st : ℕ) → length (helds_at of w s st) ≡ 255
unfolding helds_at
length_helds of w s st = length_table _ 255

-- every record that is named is a held one
abbrev pub AllHeld : {A : Type 0} → (A → Bool) → List (Named A) → Type 0
AllHeld has [] = Unit {0}
AllHeld has (n ∷ ns) = (has n.held ≡ true) × AllHeld has ns

module _ {A : Type 0} (of : List ℕ → A) (bytes : A → List ℕ) (w : ℕ) (long : (h : A) → length (bytes h) ≡ w) where
  pub put_none : (s : List ℕ) (st i : ℕ) (h : A) → i ≡ 0 → put_held bytes w s st i h ≡ s
  unfolding put_held
  put_none s st i h e = rw e

  pub put_far : (s : List ℕ) (st i : ℕ) (h : A) → 256 ≤ i → put_held bytes w s st i h ≡ s
  unfolding put_held
  put_far s st i h l = rw (ne_eqb i 0 (λ e. omega arith), le-ltb i 256 l)

  pub put_slot : (s : List ℕ) (st i : ℕ) (h : A) → 0 < i → i < 256 → put_held bytes w s st i h ≡ store_at s (offset w st i) (bytes h)
  unfolding put_held
  put_slot s st i h p q = rw (ne_eqb i 0 (λ e. omega arith), lt-ltb i 256 q)

  -- the slot that was put is read back
  pub put_back : (s : List ℕ) (st i : ℕ) (h : A) → st + w * 255 ≤ length s → 0 < i → i < 256 → held_at of w (put_held bytes w s st i h) st i ≡ of (bytes h)
  unfolding held_at
  put_back s st i h fits p q =
      let e : row_at (store_at s (offset w st i) (bytes h)) (offset w st i) (length (bytes h)) ≡ bytes h = row_store s (offset w st i) (bytes h) (omega (arith, long h, within w i q p)) in
      rw (put_slot s st i h p q) (ap of (rw (long h) at e))

  -- only its bytes change
  pub put_kept : (s : List ℕ) (st i : ℕ) (h : A) → Kept (offset w st i) (offset w st i + w) s (put_held bytes w s st i h)
  put_kept s st i h =
      dite (ℕ_discrete i 0)
      (λ e. rw (put_none s st i h e) (kept_same _ _ s))
      (λ n.
      dite (dec_lt i 256)
      (λ q. rw (put_slot s st i h (omega arith) q) (kept_store _ _ s (offset w st i) (bytes h) (omega arith) (omega (arith, long h))))
      (λ q. rw (put_far s st i h (omega arith)) (kept_same _ _ s)))

  -- every byte outside the records' room is as it was
  pub put_room : (s : List ℕ) (st i : ℕ) (h : A) → Kept st (st + w * 255) s (put_held bytes w s st i h)
  put_room s st i h =
      dite (ℕ_discrete i 0)
      (λ e. rw (put_none s st i h e) (kept_same _ _ s))
      (λ n.
      dite (dec_lt i 256)
      (λ q. kept_wide st (st + w * 255) (put_kept s st i h) (omega arith) (omega (arith, within w i q (omega arith))))
      (λ q. rw (put_far s st i h (omega arith)) (kept_same _ _ s)))

  -- every other slot's record is as it was
  pub put_other : (s : List ℕ) (st i j : ℕ) (h : A) → 0 < i → 0 < j → j ≢ i → held_at of w (put_held bytes w s st i h) st j ≡ held_at of w s st j
  unfolding held_at
  put_other s st i j h p q n =
      ap of (row_kept (offset w st j) w (put_kept s st i h)
      (dite (dec_lt j i) (λ l. inl (omega (arith, ordered w j i q l))) (λ l. inr (omega (arith, ordered w i j p (omega arith))))))

  -- THE LAW: a record put into the bytes is an element set in the list that they say
  pub put_view : (s : List ℕ) (st i : ℕ) (h : A) → st + w * 255 ≤ length s → helds_at of w (put_held bytes w s st i h) st ≡ put (helds_at of w s st) i (of (bytes h))
  unfolding helds_at
  put_view s st i h fits =
      dite (ℕ_discrete i 0)
      (λ e. rw (put_none s st i h e, e))
      (λ n.
      dite (dec_lt i 256)
      (λ q.
      let e : i - 1 + 1 ≡ i = omega arith in
      rw (ne_eqb i 0 n)
      (table_set (λ (k : ℕ). held_at of w s st (k + 1)) (λ (k : ℕ). held_at of w (put_held bytes w s st i h) st (k + 1)) 255 (i - 1) (of (bytes h)) (of (bytes h)) (omega arith)
      (rw e (put_back s st i h fits (omega arith) q))
      (λ j l m. put_other s st i (j + 1) h (omega arith) (omega arith) (λ f. m (omega arith)))))
      (λ q. rw (put_far s st i h (omega arith), ne_eqb i 0 n) (sym (set_out _ (i - 1) (of (bytes h)) (omega (arith, length_table (λ (k : ℕ). held_at of w s st (k + 1)) 255))))))

  -- records that are read as they were meant
  abbrev pub Sound : List (Named A) → Type 0
  Sound [] = Unit {0}
  Sound (n ∷ ns) = (of (bytes n.held) ≡ n.held) × Sound ns

  -- held ones are, where each that is held is
  pub held_sound : (has : A → Bool) → ((h : A) → has h ≡ true → of (bytes h) ≡ h) → (ns : List (Named A)) → AllHeld has ns → Sound ns
  held_sound has back [] a = tt
  held_sound has back (n ∷ ns) a = (back n.held a.0, held_sound has back ns a.1)

module _ {A : Type 0} (replaces : A → A → Bool) (absent : A) (of : List ℕ → A) (bytes : A → List ℕ) (w : ℕ) (long : (h : A) → length (bytes h) ≡ w) where
  -- a slot above 255 is slot 0: neither is kept
  pub replace_named : (s : List ℕ) (st x : ℕ) (h : A) → replace_held replaces of bytes w s st (pick (ltb x 256) x 0) h ≡ replace_held replaces of bytes w s st x h
  unfolding replace_held
  replace_named s st x h =
      dite (dec_lt x 256)
      (λ q. let e : pick {A = ℕ} (ltb x 256) x 0 ≡ x = rw (lt-ltb x 256 q) in ap (λ (i : ℕ). replace_held replaces of bytes w s st i h) e)
      (λ q.
      let e : pick {A = ℕ} (ltb x 256) x 0 ≡ 0 = rw (le-ltb x 256 (omega arith)) in
      ap (λ (i : ℕ). replace_held replaces of bytes w s st i h) e
      ∙ rw (put_none of bytes w long s st 0 h refl, put_far of bytes w long s st x h (omega arith))
      (flat (comes_in replaces of w s st 0 h) s ∙ sym (flat (comes_in replaces of w s st x h) s)))

  -- stored at its target it is put where it replaces what is held
  pub target_replaced : (s : List ℕ) (st i : ℕ) (h : A) → i < 256 → store_at s (target_of replaces of w s st i h) (bytes h) ≡ replace_held replaces of bytes w s st i h
  unfolding replace_held target_of
  target_replaced s st i h q =
      dite (ℕ_discrete i 0)
      (λ e. rw (eq-eqb i 0 e, put_none of bytes w long s st i h e) (store_past s (length s) (bytes h) (omega arith) ∙ sym (flat (comes_in replaces of w s st i h) s)))
      (λ n. rw (ne_eqb i 0 n, put_slot of bytes w long s st i h (omega arith) q) (go (comes_in replaces of w s st i h)))
    where
      go : (b : Bool) → store_at s (pick b (offset w st i) (length s)) (bytes h) ≡ pick b (store_at s (offset w st i) (bytes h)) s
      go true = refl
      go false = store_past s (length s) (bytes h) (omega arith)

  -- its target lies within the bytes where it does, and names a slot
  pub target_within : (s : List ℕ) (st i : ℕ) (h : A) → 0 < w → ltb (target_of replaces of w s st i h) (length s) ≡ not (eqb i 0) && comes_in replaces of w s st i h
  unfolding target_of
  target_within s st i h p = go (eqb i 0) (dec_lt (length s) (offset w st i + w))
    where
      past : ltb (length s) (length s) ≡ false
      past = le-ltb (length s) (length s) (omega arith)

      inside : (b : Bool) → offset w st i + w ≤ length s → ltb (pick b (offset w st i) (length s)) (length s) ≡ b
      inside true l = lt-ltb (offset w st i) (length s) (omega arith)
      inside false l = past

      go : (z : Bool) → Dec (length s < offset w st i + w) → ltb (pick z (length s) (pick (comes_in replaces of w s st i h) (offset w st i) (length s))) (length s) ≡ not z && comes_in replaces of w s st i h
      go true d = past
      go false d =
          dite d
          (λ l. rw (lt-ltb (length s) (offset w st i + w) l) past)
          (λ l. rw (le-ltb (length s) (offset w st i + w) (omega arith)) (inside (replaces (held_at of w s st i) h) (omega arith)))

  -- a record that names nothing is put nowhere
  pub replace_none : (s : List ℕ) (st : ℕ) (h : A) → replace_held replaces of bytes w s st 0 h ≡ s
  unfolding replace_held
  replace_none s st h = rw (put_none of bytes w long s st 0 h refl) (flat (comes_in replaces of w s st 0 h) s)

  pub replace_room : (s : List ℕ) (st i : ℕ) (h : A) → Kept st (st + w * 255) s (replace_held replaces of bytes w s st i h)
  unfolding replace_held
  replace_room s st i h = go (comes_in replaces of w s st i h)
    where
      go : (b : Bool) → Kept st (st + w * 255) s (pick b (put_held bytes w s st i h) s)
      go true = put_room of bytes w long s st i h
      go false = kept_same _ _ s

  pub replaces_room : (s : List ℕ) (st : ℕ) (ns : List (Named A)) → Kept st (st + w * 255) s (replace_helds replaces of bytes w s st ns)
  unfolding in_order
  replaces_room s st [] = kept_same _ _ s
  replaces_room s st (n ∷ ns) = kept_trans (replace_room s st n.at n.held) (replaces_room (replace_held replaces of bytes w s st n.at n.held) st ns)

  -- THE LAW: a record put into the bytes where it replaces what they hold is one put so into the list that they say
  pub replace_view : (s : List ℕ) (st i : ℕ) (h : A) → st + w * 255 ≤ length s → of (bytes h) ≡ h → helds_at of w (replace_held replaces of bytes w s st i h) st ≡ replace replaces absent (helds_at of w s st) i h
  unfolding replace_held replace
  replace_view s st i h fits so =
      dite (ℕ_discrete i 0)
      (λ e.
      rw (put_none of bytes w long s st i h e, flat (comes_in replaces of w s st i h) s, eq-eqb i 0 e)
      (sym (flat (replaces (get_or (helds_at of w s st) (i - 1) absent) h) (helds_at of w s st))))
      (λ n.
      dite (dec_lt i 256)
      (λ q.
      let near : offset w st i + w ≤ length s = omega (arith, within w i q (omega arith)) in
      let one : i - 1 + 1 ≡ i = omega arith in
      let here : get_or (helds_at of w s st) (i - 1) absent ≡ held_at of w s st i = get_or_helds of w s st (i - 1) absent (omega arith) ∙ ap (held_at of w s st) one in
      rw (le-ltb (length s) (offset w st i + w) near, here) (go (replaces (held_at of w s st i) h) (put_view of bytes w long s st i h fits ∙ rw so)))
      (λ q.
      rw (put_far of bytes w long s st i h (omega arith), flat (comes_in replaces of w s st i h) s, ne_eqb i 0 n, set_out (helds_at of w s st) (i - 1) h (omega (arith, length_helds of w s st)))
      (sym (flat (replaces (get_or (helds_at of w s st) (i - 1) absent) h) (helds_at of w s st)))))
    where
      go : (b : Bool) → helds_at of w (put_held bytes w s st i h) st ≡ put (helds_at of w s st) i h → helds_at of w (pick b (put_held bytes w s st i h) s) st ≡ pick b (put (helds_at of w s st) i h) (helds_at of w s st)
      go true e = e
      go false e = refl

  pub replaces_view : (s : List ℕ) (st : ℕ) (ns : List (Named A)) → st + w * 255 ≤ length s → Sound of bytes w long ns → helds_at of w (replace_helds replaces of bytes w s st ns) st ≡ replace_all replaces absent (helds_at of w s st) ns
  unfolding in_order replace_all
  replaces_view s st [] fits so = refl
  replaces_view s st (n ∷ ns) fits so =
      let t = replace_held replaces of bytes w s st n.at n.held in
      replaces_view t st ns (rw (replace_room s st n.at n.held).long fits) so.1
      ∙ rw (replace_view s st n.at n.held fits so.0)

-- a record, and the list, is as it was where its bytes are
module _ {A : Type 0} (of : List ℕ → A) (w st lo hi : ℕ) (s t : List ℕ) (k : Kept lo hi s t) (o : (st + w * 255 ≤ lo) ⊎ (hi ≤ st)) where
  pub held_kept : (slot : ℕ) → 1 ≤ slot → slot ≤ 255 → held_at of w t st slot ≡ held_at of w s st slot
  unfolding held_at
  held_kept slot p q = ap of (row_kept (offset w st slot) w k (⊎_elim (λ g. inl (omega (arith, within w slot (omega arith) (omega arith)))) (λ g. inr (omega arith)) o))

  pub helds_kept : helds_at of w t st ≡ helds_at of w s st
  unfolding helds_at
  helds_kept = table_ext _ _ 255 (λ i l. held_kept (i + 1) (omega arith) (omega arith))
