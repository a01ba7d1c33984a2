-- A store that puts and drops holds, at every slot, what is in force by looking back.
use Prim.Native.Nat.{ℕ, ◌-◌, ◌≤◌}
use mathlib.Core.Path.{◌≡◌, refl, ap, sym, ◌∙◌}
use mathlib.Core.List.{List, [], ◌∷◌, ◌++◌, map}
use mathlib.Core.Bool.{Bool, true, false, false≢true}
use mathlib.Core.Option.{Option, none, some}
use native.Mathlib.Omega.{arith}
use lib.ListN.{length, get_or, length-map, get_or-map}
use Rattle.bits.specs.Pick.{pick}
use Rattle.lookback.specs.Store.{Named, replace_all, or_given, naming, replacing, all_same, Kind, standing, standing_or, since, unplaced, kept}
use Rattle.lookback.proofs.ReplaceLaws.{flat, times, replace_all_at}

-- ---- masks that came since
-- the newest of some masks, oldest first, or d
abbrev pub last_or : {M : Type 0} → List M → M → M
last_or [] d = d
last_or (m ∷ ms) d = last_or ms m

module _ {M : Type 0} (same : M → M → Bool) where
  same_all : ((a b : M) → same a b ≡ true → a ≡ b) → (p d : M) (ms : List M) → d ≡ p → all_same same p ms ≡ true → last_or ms d ≡ p
  unfolding all_same
  same_all eq p d [] e h = e
  same_all eq p d (m ∷ ms) e h = go (same p m) refl h (same_all eq p m ms)
    where
      go : (b : Bool) → same p m ≡ b → pick b (all_same same p ms) false ≡ true → (m ≡ p → all_same same p ms ≡ true → last_or ms m ≡ p) → last_or ms m ≡ p
      go true f e ih = ih (sym (eq p m f)) e
      go false f e ih = absurd (false≢true e)

  all_snoc : (p m : M) (ms : List M) → all_same same p (ms ++ (m ∷ [])) ≡ pick (all_same same p ms) (same p m) false
  unfolding all_same
  all_snoc p m [] = go (same p m)
    where
      go : (b : Bool) → pick b true false ≡ b
      go true = refl
      go false = refl
  all_snoc p m (x ∷ ms) = go (same p x) (all_snoc p m ms)
    where
      go : (b : Bool) → all_same same p (ms ++ (m ∷ [])) ≡ pick (all_same same p ms) (same p m) false →
          pick b (all_same same p (ms ++ (m ∷ []))) false ≡ pick (pick b (all_same same p ms) false) (same p m) false
      go true e = e
      go false e = refl

-- what one mask more leaves of a record, if it is (b) the mask before it or not
after : {A : Type 0} → Kind A → Bool → A → A
after k b r = pick b r (unplaced k r)

after_absent : {A : Type 0} (k : Kind A) (b : Bool) → after k b k.absent ≡ k.absent
unfolding after
after_absent k true = refl
after_absent k false = flat (k.placed k.absent) k.absent

module _ {M A : Type 0} (k : Kind A) (same : M → M → Bool) where
  standing_snoc : ((a b : M) → same a b ≡ true → a ≡ b) → (p m : M) (ms : List M) (r : A) → standing k same p (ms ++ (m ∷ [])) r ≡ after k (same (last_or ms p) m) (standing k same p ms r)
  unfolding after
  standing_snoc eq p m ms r = rw (all_snoc same p m ms) (go (k.placed r) refl (all_same same p ms) refl)
    where
      alike : (b : Bool) (x y : A) → x ≡ y → x ≡ pick b x y
      alike true x y e = refl
      alike false x y e = e

      go : (t : Bool) → k.placed r ≡ t → (b : Bool) → all_same same p ms ≡ b →
          pick t (pick (pick b (same p m) false) r k.absent) r ≡ pick (same (last_or ms p) m) (pick t (pick b r k.absent) r) (unplaced k (pick t (pick b r k.absent) r))
      go true e true f = rw (same_all same eq p p ms refl f, e)
      go true e false f = alike (same (last_or ms p) m) k.absent _ (sym (flat (k.placed k.absent) k.absent))
      go false e b f = alike (same (last_or ms p) m) r (unplaced k r) (sym (ap (λ (t : Bool). pick t k.absent r) e))

  standing_nil : (p : M) (o : Option A) (d : A) → standing_or k same o p [] d ≡ or_given o d
  unfolding all_same
  standing_nil p (some r) d = flat (k.placed r) r
  standing_nil p none d = refl

  kept_at : (m old : M) (xs : List A) (i : ℕ) → get_or (kept k same (some m) old xs) i k.absent ≡ after k (same old m) (get_or xs i k.absent)
  unfolding kept after
  kept_at m old xs i = go (same old m)
    where
      go : (b : Bool) → get_or (pick b xs (map (unplaced k) xs)) i k.absent ≡ pick b (get_or xs i k.absent) (unplaced k (get_or xs i k.absent))
      go true = refl
      go false = ap (get_or (map (unplaced k) xs) i) (sym (flat (k.placed k.absent) k.absent)) ∙ get_or-map (unplaced k) xs i k.absent

  length_kept : (x : Option M) (old : M) (xs : List A) → length (kept k same x old xs) ≡ length xs
  unfolding kept
  length_kept (some m) old xs = go (same old m)
    where
      go : (b : Bool) → length (pick b xs (map (unplaced k) xs)) ≡ length xs
      go true = refl
      go false = length-map xs (unplaced k)
  length_kept none old xs = refl

-- ---- the law of every store
-- back ms h s walks back over the history h, with the masks ms accepted since: it stops at the first frame that has a record for slot s that
-- replaces the one in force before it, and which came under the mask in force before it; a frame that brings a mask has none
pub record LooksBack {F M A : Type 0} (k : Kind A) (same : M → M → Bool) (replaces : A → A → Bool) (mask_of : F → Option M) (mask_in : List F → M)
    (by : List F → F → ℕ → Option A) (back : List M → List F → ℕ → A) : Type 0 where
  pub same_eq : (a b : M) → same a b ≡ true → a ≡ b
  pub mask_next : (c : F) (h : List F) → mask_in (c ∷ h) ≡ or_given (mask_of c) (mask_in h)
  pub quiet : (h : List F) (c : F) (m : M) (s : ℕ) → mask_of c ≡ some m → by h c s ≡ none
  pub start : (ms : List M) (s : ℕ) → back ms [] s ≡ k.absent
  pub next : (ms : List M) (c : F) (h : List F) (s : ℕ) → back ms (c ∷ h) s ≡ standing_or k same (replacing replaces (back [] h s) (by h c s)) (mask_in h) ms (back (since (mask_of c) ms) h s)

module _ {F M A : Type 0} {k : Kind A} {same : M → M → Bool} {replaces : A → A → Bool} {mask_of : F → Option M} {mask_in : List F → M}
    {by : List F → F → ℕ → Option A} {back : List M → List F → ℕ → A} (L : LooksBack k same replaces mask_of mask_in by back) where
  -- comparing a mask with the one before it is comparing it with the mask that a record came under
  back_snoc : (m : M) (h : List F) (ms : List M) (s : ℕ) → back (ms ++ (m ∷ [])) h s ≡ after k (same (last_or ms (mask_in h)) m) (back ms h s)
  back_snoc m [] ms s = rw (L.start (ms ++ (m ∷ [])) s, L.start ms s) (sym (after_absent k (same (last_or ms (mask_in [])) m)))
  back_snoc m (c ∷ h) ms s =
      rw (L.next (ms ++ (m ∷ [])) c h s, L.next ms c h s, L.mask_next c h) (go (mask_of c) refl (replacing replaces (back [] h s) (by h c s)) refl (λ ns. back_snoc m h ns s))
    where
      go : (x : Option M) → mask_of c ≡ x → (o : Option A) → replacing replaces (back [] h s) (by h c s) ≡ o →
          ((ns : List M) → back (ns ++ (m ∷ [])) h s ≡ after k (same (last_or ns (mask_in h)) m) (back ns h s)) →
          standing_or k same o (mask_in h) (ms ++ (m ∷ [])) (back (since x (ms ++ (m ∷ []))) h s) ≡
          after k (same (last_or ms (or_given x (mask_in h))) m) (standing_or k same o (mask_in h) ms (back (since x ms) h s))
      go (some n) e (some r) f ih = absurd (let z : ◌≡◌ {A = ℕ} 0 1 = cc (sym f ∙ ap (replacing replaces (back [] h s)) (L.quiet h c n s e)) in omega arith)
      go (some n) e none f ih = ih (n ∷ ms)
      go none e (some r) f ih = standing_snoc k same L.same_eq (mask_in h) m ms r
      go none e none f ih = ih ms

  kept_since : (h : List F) (x : Option M) (xs : List A) (s : ℕ) → get_or xs (s - 1) k.absent ≡ back [] h s → get_or (kept k same x (mask_in h) xs) (s - 1) k.absent ≡ back (since x []) h s
  unfolding kept
  kept_since h (some m) xs s e = kept_at k same m (mask_in h) xs (s - 1) ∙ rw e (sym (back_snoc m h [] s))
  kept_since h none xs s e = e

  -- a record is held against what was in force before its frame: a frame that brings a mask has none
  held_against : (c : F) (h : List F) (x : Option M) (s : ℕ) → mask_of c ≡ x → replacing replaces (back (since x []) h s) (by h c s) ≡ replacing replaces (back [] h s) (by h c s)
  held_against c h (some m) s e = rw (L.quiet h c m s e)
  held_against c h none s e = refl

  -- the record of a slot that a store held, kept by the mask of c and replaced by that of c where it does, is the one in force after c
  pub slot_step : (c : F) (h : List F) (xs : List A) (s : ℕ) → get_or xs (s - 1) k.absent ≡ back [] h s →
      or_given (replacing replaces (get_or (kept k same (mask_of c) (mask_in h) xs) (s - 1) k.absent) (by h c s)) (get_or (kept k same (mask_of c) (mask_in h) xs) (s - 1) k.absent) ≡ back [] (c ∷ h) s
  slot_step c h xs s e =
      rw (kept_since h (mask_of c) xs s e, held_against c h (mask_of c) s refl, L.next [] c h s)
      (sym (standing_nil k same (mask_in h) (replacing replaces (back [] h s) (by h c s)) (back (since (mask_of c) []) h s)))

  -- a store that held what is in force after h, kept by the mask of c and given the records ns, holds what is in force after c
  pub store_step : (c : F) (h : List F) (xs : List A) (ns : List (Named A)) (s : ℕ) → 1 ≤ s → s ≤ length xs → times s ns ≤ 1 →
      get_or xs (s - 1) k.absent ≡ back [] h s → naming s ns ≡ by h c s →
      get_or (replace_all replaces k.absent (kept k same (mask_of c) (mask_in h) xs) ns) (s - 1) k.absent ≡ back [] (c ∷ h) s
  store_step c h xs ns s p q o e f =
      replace_all_at replaces k.absent (kept k same (mask_of c) (mask_in h) xs) ns s p (rw (length_kept k same (mask_of c) (mask_in h) xs) q) o ∙
      rw f (slot_step c h xs s e)

  -- a frame that does nothing
  pub store_idle : (c : F) (h : List F) (s : ℕ) → mask_of c ≡ none → by h c s ≡ none → back [] (c ∷ h) s ≡ back [] h s
  store_idle c h s e f = L.next [] c h s ∙ rw (e, f)
