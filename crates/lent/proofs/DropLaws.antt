-- Laws of records dropped in place: what the bytes say then.
use mathlib.Core.Path.{◌≡◌, refl, sym, ap, ◌∙◌}
use Prim.Native.Nat.{ℕ, zero, suc, ◌+◌, ◌-◌, ◌*◌, ◌≤◌, ◌<◌}
use mathlib.Core.Bool.{Bool, true, false}
use mathlib.Core.List.{List, ◌++◌, map, append-nil, append_assoc}
use lib.ListN.{get_or, set, length, take, drop, drop_of_length-le}
use lib.Seq.{set-get_or, take_all, take-suc-set, drop-set-lt, drop-cons}
use native.Mathlib.Numerals.{add-one}
use native.Mathlib.Omega.{arith}
use borrow.Author.Tests.{ne_eqb}
use Rattle.bits.specs.Pick.{pick}
use Rattle.bits.specs.Bytes.{Kept}
use Rattle.bits.proofs.ByteLaws.{kept_same, kept_trans}
use Rattle.lookback.specs.Store.{Kind, unplaced}
use Rattle.lent.specs.Held.{held_at, helds_at, put_held}
use Rattle.lent.specs.Drop.{drop_one, dropped_to}
use Rattle.lent.proofs.HeldLaws.{put_room, put_view, get_or_helds, length_helds}

-- a list changed from the front by f, one element more
map_step : {A : Type 0} (f : A → A) (l : List A) (i : ℕ) (d : A) → i < length l → take i l ++ map f (drop i l) ≡ take (suc i) (set l i (f (get_or l i d))) ++ map f (drop (suc i) (set l i (f (get_or l i d))))
map_step f l i d h = rw (take-suc-set l i (f (get_or l i d)) h, drop-set-lt (suc i) l i (f (get_or l i d)) (omega arith), drop-cons l i d h, append_assoc)

-- the whole list changed
map_end : {A : Type 0} (f : A → A) (l : List A) (i : ℕ) → length l ≤ i → take i l ++ map f (drop i l) ≡ l
map_end f l i h = rw (drop_of_length-le l h, take_all i l h, append-nil)

module _ {A : Type 0} (k : Kind A) (of : List ℕ → A) (bytes : A → List ℕ) (w : ℕ) where
  pub drop_start : (s : List ℕ) (st : ℕ) → dropped_to k of bytes w s st 0 ≡ s
  unfolding dropped_to
  drop_start s st = refl

  pub drop_step : (s : List ℕ) (st i : ℕ) → dropped_to k of bytes w s st (i + 1) ≡ drop_one k of bytes w (dropped_to k of bytes w s st i) st (i + 1)
  unfolding dropped_to
  drop_step s st i = ap (dropped_to k of bytes w s st) (add-one i)

  pub drop_yes : (s : List ℕ) (st slot : ℕ) → k.placed (held_at of w s st slot) ≡ true → drop_one k of bytes w s st slot ≡ put_held bytes w s st slot k.absent
  unfolding drop_one
  drop_yes s st slot e = rw e

  pub drop_no : (s : List ℕ) (st slot : ℕ) → k.placed (held_at of w s st slot) ≡ false → drop_one k of bytes w s st slot ≡ s
  unfolding drop_one
  drop_no s st slot e = rw e

module _ {A : Type 0} (k : Kind A) (of : List ℕ → A) (bytes : A → List ℕ) (w : ℕ) (long : (h : A) → length (bytes h) ≡ w) where
  -- every byte outside the records' room is as it was
  pub one_room : (s : List ℕ) (st slot : ℕ) → Kept st (st + w * 255) s (drop_one k of bytes w s st slot)
  unfolding drop_one
  one_room s st slot = go (k.placed (held_at of w s st slot))
    where
      go : (b : Bool) → Kept st (st + w * 255) s (pick b (put_held bytes w s st slot k.absent) s)
      go true = put_room of bytes w long s st slot k.absent
      go false = kept_same _ _ s

  pub drop_room : (s : List ℕ) (st n : ℕ) → Kept st (st + w * 255) s (dropped_to k of bytes w s st n)
  unfolding dropped_to
  drop_room s st zero = kept_same _ _ s
  drop_room s st (suc n) = kept_trans (drop_room s st n) (one_room (dropped_to k of bytes w s st n) st (n + 1))

module _ {A : Type 0} (k : Kind A) (of : List ℕ → A) (bytes : A → List ℕ) (w : ℕ) (long : (h : A) → length (bytes h) ≡ w)
    (back : of (bytes k.absent) ≡ k.absent) where
  one_view : (s : List ℕ) (st i : ℕ) → st + w * 255 ≤ length s → i < 255 →
      helds_at of w (drop_one k of bytes w s st (i + 1)) st ≡ set (helds_at of w s st) i (unplaced k (get_or (helds_at of w s st) i k.absent))
  unfolding drop_one
  one_view s st i fits l =
      rw (get_or_helds of w s st i k.absent l) (go (k.placed (held_at of w s st (i + 1))))
    where
      go : (b : Bool) →
          helds_at of w (pick b (put_held bytes w s st (i + 1) k.absent) s) st ≡ set (helds_at of w s st) i (pick b k.absent (held_at of w s st (i + 1)))
      go true =
          let e : i + 1 - 1 ≡ i = omega arith in
          put_view of bytes w long s st (i + 1) k.absent fits ∙ rw (ne_eqb (i + 1) 0 (λ q. omega arith), e, back)
      go false = sym (ap (set (helds_at of w s st) i) (sym (get_or_helds of w s st i k.absent l)) ∙ set-get_or (helds_at of w s st) i k.absent)

  -- the first n slots dropped
  drop_view : (s : List ℕ) (st n : ℕ) → st + w * 255 ≤ length s → n ≤ 255 →
      map (unplaced k) (helds_at of w s st) ≡ take n (helds_at of w (dropped_to k of bytes w s st n) st) ++ map (unplaced k) (drop n (helds_at of w (dropped_to k of bytes w s st n) st))
  unfolding dropped_to
  drop_view s st zero fits l = refl
  drop_view s st (suc n) fits l =
      let t = dropped_to k of bytes w s st n in
      let r = drop_room k of bytes w long s st n in
      let m : n < length (helds_at of w t st) = omega (arith, length_helds of w t st) in
      drop_view s st n fits (omega arith)
      ∙ map_step (unplaced k) (helds_at of w t st) n k.absent m
      ∙ rw (one_view t st n (rw r.long fits) (omega arith))

  -- THE LAW: what the bytes say after the records by place are dropped
  pub dropped_view : (s : List ℕ) (st : ℕ) → st + w * 255 ≤ length s → helds_at of w (dropped_to k of bytes w s st 255) st ≡ map (unplaced k) (helds_at of w s st)
  dropped_view s st fits =
      sym (drop_view s st 255 fits (omega arith) ∙ map_end (unplaced k) (helds_at of w (dropped_to k of bytes w s st 255) st) 255 (omega (arith, length_helds of w (dropped_to k of bytes w s st 255) st)))
