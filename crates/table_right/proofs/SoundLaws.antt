-- A table by its rooms: what `is_table` says, room by room, and which room a PRN has.
use mathlib.Core.Path.{◌≡◌, refl, sym, ap, ◌∙◌}
use mathlib.Core.Logic.{◌≢◌, dite}
use Prim.Native.Nat.{ℕ, zero, suc, ◌+◌, ◌*◌, ◌≤◌, ◌<◌}
use mathlib.Core.Bool.{Bool, true, false, not, ◌&&◌, true≢false}
use mathlib.Core.List.{List, [], ◌∷◌}
use lib.Dec.{eqb, ltb}
use lib.ListN.{length, replicate, length-replicate}
use native.Mathlib.Decide.{ℕ_discrete, dec_lt}
use native.Mathlib.Omega.{arith}
use borrow.Author.Tests.{eq-eqb, ne_eqb, eqb-true, eqb-false, not-true as not_yes, lt-ltb}
use Rattle.bits.specs.Pick.{pick}
use Rattle.bits.proofs.TestLaws.{both_hold}
use Rattle.lent.proofs.ZeroLaws.{get_or_zeros}
use Rattle.frame.specs.Frame.{is_prn}
use Rattle.held_mask.specs.Size.{size}
use Rattle.in_force.specs.Bytes.{prn_at}
use Rattle.table_form.specs.Table.{table_size, put_part, prn_in, is_right, is_table, room_with, room_of, free_room}
use Rattle.table_form.proofs.PartLaws.{put_long, prn_same, prn_other}
use Rattle.table_form.proofs.RoomLaws.{table_long, with_4, of_ten}
use Rattle.table_right.specs.Calls.{how_many}

-- what holds of the four rooms holds of each
pub each_room : (P : ℕ → Type 0) → P 0 → P 1 → P 2 → P 3 → (i : ℕ) → i < 4 → P i
each_room P a b c d zero h = a
each_room P a b c d (suc zero) h = b
each_room P a b c d (suc (suc zero)) h = c
each_room P a b c d (suc (suc (suc zero))) h = d
each_room P a b c d (suc (suc (suc (suc n)))) h = absurd (omega arith)

-- 0 is none of the ten
pub prn_some : (p : ℕ) → is_prn p ≡ true → p ≢ 0
prn_some p h z = true≢false (sym h ∙ ap is_prn z)

-- four tests that all hold
all_four : (a b c d : Bool) → a && b && c && d ≡ true → ((a ≡ true) × (b ≡ true)) × ((c ≡ true) × (d ≡ true))
all_four a b c d h =
    let x = both_hold (a && b && c) d h in
    let y = both_hold (a && b) c x.0 in
    (both_hold a b y.0, (y.1, x.1))

-- bytes that are a table, room by room
pub record Sound (t : List ℕ) : Type 0 where
  pub long : length t ≡ table_size
  pub known : (i : ℕ) → i < 4 → prn_in t i ≢ 0 → is_prn (prn_in t i) ≡ true
  pub once : (i j : ℕ) → i < 4 → j < 4 → prn_in t i ≢ 0 → prn_in t i ≡ prn_in t j → i ≡ j

-- ---- one PRN byte
module _ (p x y z : ℕ) where
  rest : is_right p x y z ≡ true → p ≢ 0 → is_prn p && not (eqb p x) && not (eqb p y) && not (eqb p z) ≡ true
  rest h n = rw (ne_eqb p 0 n) at h

  module _ (h : is_right p x y z ≡ true) (n : p ≢ 0) where
    parts : ((is_prn p ≡ true) × (not (eqb p x) ≡ true)) × ((not (eqb p y) ≡ true) × (not (eqb p z) ≡ true))
    parts = all_four (is_prn p) (not (eqb p x)) (not (eqb p y)) (not (eqb p z)) (rest h n)

    is_ten : is_prn p ≡ true
    is_ten = parts.0.0

    not_x : p ≢ x
    not_x = eqb-false p x (not_yes (eqb p x) parts.0.1)

    not_y : p ≢ y
    not_y = eqb-false p y (not_yes (eqb p y) parts.1.0)

    not_z : p ≢ z
    not_z = eqb-false p z (not_yes (eqb p z) parts.1.1)

  right_by : (p ≢ 0 → is_prn p ≡ true) → (p ≢ 0 → p ≢ x) → (p ≢ 0 → p ≢ y) → (p ≢ 0 → p ≢ z) → is_right p x y z ≡ true
  right_by ten a b c =
      dite (ℕ_discrete p 0)
      (λ e. rw (eq-eqb p 0 e))
      (λ n. rw (ne_eqb p 0 n, ten n, ne_eqb p x (a n), ne_eqb p y (b n), ne_eqb p z (c n)))

-- ---- a table is sound
module _ (t : List ℕ) (h : is_table t ≡ true) where
  four : ((is_right (prn_in t 0) (prn_in t 1) (prn_in t 2) (prn_in t 3) ≡ true) × (is_right (prn_in t 1) (prn_in t 0) (prn_in t 2) (prn_in t 3) ≡ true))
      × ((is_right (prn_in t 2) (prn_in t 0) (prn_in t 1) (prn_in t 3) ≡ true) × (is_right (prn_in t 3) (prn_in t 0) (prn_in t 1) (prn_in t 2) ≡ true))
  unfolding is_table
  four =
      let l = eqb (length t) table_size in
      let a = is_right (prn_in t 0) (prn_in t 1) (prn_in t 2) (prn_in t 3) in
      let b = is_right (prn_in t 1) (prn_in t 0) (prn_in t 2) (prn_in t 3) in
      let c = is_right (prn_in t 2) (prn_in t 0) (prn_in t 1) (prn_in t 3) in
      let d = is_right (prn_in t 3) (prn_in t 0) (prn_in t 1) (prn_in t 2) in
      let x = all_four (l && a) b c d h in
      (((both_hold l a x.0.0).1, x.0.1), x.1)

  pub sound : Sound t
  sound = record {
    long = table_long t h;
    known =
        each_room (λ (i : ℕ). prn_in t i ≢ 0 → is_prn (prn_in t i) ≡ true)
        (is_ten _ _ _ _ four.0.0) (is_ten _ _ _ _ four.0.1) (is_ten _ _ _ _ four.1.0) (is_ten _ _ _ _ four.1.1);
    once = λ i j a b.
        each_room (λ (i : ℕ). prn_in t i ≢ 0 → prn_in t i ≡ prn_in t j → i ≡ j)
        (each_room (λ (j : ℕ). prn_in t 0 ≢ 0 → prn_in t 0 ≡ prn_in t j → 0 ≡ j) (λ n e. refl) (λ n e. absurd (not_x _ _ _ _ four.0.0 n e)) (λ n e. absurd (not_y _ _ _ _ four.0.0 n e)) (λ n e. absurd (not_z _ _ _ _ four.0.0 n e)) j b)
        (each_room (λ (j : ℕ). prn_in t 1 ≢ 0 → prn_in t 1 ≡ prn_in t j → 1 ≡ j) (λ n e. absurd (not_x _ _ _ _ four.0.1 n e)) (λ n e. refl) (λ n e. absurd (not_y _ _ _ _ four.0.1 n e)) (λ n e. absurd (not_z _ _ _ _ four.0.1 n e)) j b)
        (each_room (λ (j : ℕ). prn_in t 2 ≢ 0 → prn_in t 2 ≡ prn_in t j → 2 ≡ j) (λ n e. absurd (not_x _ _ _ _ four.1.0 n e)) (λ n e. absurd (not_y _ _ _ _ four.1.0 n e)) (λ n e. refl) (λ n e. absurd (not_z _ _ _ _ four.1.0 n e)) j b)
        (each_room (λ (j : ℕ). prn_in t 3 ≢ 0 → prn_in t 3 ≡ prn_in t j → 3 ≡ j) (λ n e. absurd (not_x _ _ _ _ four.1.1 n e)) (λ n e. absurd (not_y _ _ _ _ four.1.1 n e)) (λ n e. absurd (not_z _ _ _ _ four.1.1 n e)) (λ n e. refl) j b)
        i a;
  }

-- ---- and what is sound is a table
module _ (t : List ℕ) (S : Sound t) where
  apart : (i j : ℕ) → i < 4 → j < 4 → i ≢ j → prn_in t i ≢ 0 → prn_in t i ≢ prn_in t j
  apart i j a b n z e = n (S.once i j a b z e)

  right_room : (i j k l : ℕ) → i < 4 → j < 4 → k < 4 → l < 4 → i ≢ j → i ≢ k → i ≢ l → is_right (prn_in t i) (prn_in t j) (prn_in t k) (prn_in t l) ≡ true
  right_room i j k l a b c d x y z =
      right_by _ _ _ _ (S.known i a) (apart i j a b x) (apart i k a c y) (apart i l a d z)

  pub is_table_lem : is_table t ≡ true
  unfolding is_table
  is_table_lem =
      rw (
        eq-eqb (length t) table_size S.long,
        right_room 0 1 2 3 (omega arith) (omega arith) (omega arith) (omega arith) (λ z. omega arith) (λ z. omega arith) (λ z. omega arith),
        right_room 1 0 2 3 (omega arith) (omega arith) (omega arith) (omega arith) (λ z. omega arith) (λ z. omega arith) (λ z. omega arith),
        right_room 2 0 1 3 (omega arith) (omega arith) (omega arith) (omega arith) (λ z. omega arith) (λ z. omega arith) (λ z. omega arith),
        right_room 3 0 1 2 (omega arith) (omega arith) (omega arith) (omega arith) (λ z. omega arith) (λ z. omega arith) (λ z. omega arith),
      )

-- ---- zero bytes
pub zero_prn : (n i : ℕ) → prn_in (replicate n 0) i ≡ 0
zero_prn n i = get_or_zeros n (size * i)

pub zero_sound : (n : ℕ) → n ≡ table_size → Sound (replicate n 0)
zero_sound n e = record {
  long = length-replicate n 0 ∙ e;
  known = λ i a z. absurd (z (zero_prn n i));
  once = λ i j a b z q. absurd (z (zero_prn n i));
}

-- ---- a part put back whose PRN byte is 0, or one of the ten that no other room has
module _ (t : List ℕ) (S : Sound t) (i : ℕ) (h : i < 4) (r : List ℕ) (whole : length r ≡ size) where
  pub put_sound : (prn_at r ≢ 0 → is_prn (prn_at r) ≡ true) → ((j : ℕ) → j < 4 → j ≢ i → prn_at r ≢ 0 → prn_in t j ≢ prn_at r) → Sound (put_part t i r)
  put_sound ten new =
      let same = prn_same t S.long i h r whole in
      let other = prn_other t S.long i h r whole in
      record {
        long = put_long t S.long i h r whole;
        known = λ j a z.
            dite (ℕ_discrete j i)
            (λ e. ap (λ (k : ℕ). is_prn (prn_in (put_part t i r) k)) e ∙ ap is_prn same ∙ ten (λ q. z (ap (λ (k : ℕ). prn_in (put_part t i r) k) e ∙ same ∙ q)))
            (λ n. ap is_prn (other j n) ∙ S.known j a (λ q. z (other j n ∙ q)));
        once = λ j k a b z e.
            dite (ℕ_discrete j i)
            (λ x. dite (ℕ_discrete k i)
            (λ y. x ∙ sym y)
            (λ m.
            let own : prn_in (put_part t i r) j ≡ prn_at r = ap (λ (k : ℕ). prn_in (put_part t i r) k) x ∙ same in
            absurd (new k b m (λ q. z (own ∙ q)) (sym (other k m) ∙ sym e ∙ own))))
            (λ n. dite (ℕ_discrete k i)
            (λ y.
            let own : prn_in (put_part t i r) k ≡ prn_at r = ap (λ (k : ℕ). prn_in (put_part t i r) k) y ∙ same in
            absurd (new j a n (λ q. z (e ∙ own ∙ q)) (sym (other j n) ∙ e ∙ own)))
            (λ m. S.once j k a b (λ q. z (other j n ∙ q)) (sym (other j n) ∙ e ∙ other k m)));
      }

-- ---- the first room with a PRN byte
module _ (t : List ℕ) (p : ℕ) where
  pub with_at : room_with t p < 4 → prn_in t (room_with t p) ≡ p
  unfolding room_with
  with_at h = go (eqb (prn_in t 0) p) (eqb (prn_in t 1) p) (eqb (prn_in t 2) p) (eqb (prn_in t 3) p) refl refl refl refl h
    where
      go : (a b c d : Bool) → eqb (prn_in t 0) p ≡ a → eqb (prn_in t 1) p ≡ b → eqb (prn_in t 2) p ≡ c → eqb (prn_in t 3) p ≡ d →
          pick a 0 (pick b 1 (pick c 2 (pick d 3 4))) < 4 → prn_in t (pick a 0 (pick b 1 (pick c 2 (pick d 3 4)))) ≡ p
      go true b c d x y z w l = eqb-true _ _ x
      go false true c d x y z w l = eqb-true _ _ y
      go false false true d x y z w l = eqb-true _ _ z
      go false false false true x y z w l = eqb-true _ _ w
      go false false false false x y z w l = absurd (omega arith)

  pub with_none : ((j : ℕ) → j < 4 → prn_in t j ≢ p) → 4 ≡ room_with t p
  with_none n = with_4 t p (n 0 (omega arith)) (n 1 (omega arith)) (n 2 (omega arith)) (n 3 (omega arith))

  -- where there is none, no room has it
  pub none_with : 4 ≤ room_with t p → (j : ℕ) → j < 4 → prn_in t j ≢ p
  unfolding room_with
  none_with h =
      each_room (λ (j : ℕ). prn_in t j ≢ p)
      (λ e. let g = rw (eq-eqb _ _ e) at h in omega arith)
      (go1 (eqb (prn_in t 0) p) h)
      (go2 (eqb (prn_in t 0) p) (eqb (prn_in t 1) p) h)
      (go3 (eqb (prn_in t 0) p) (eqb (prn_in t 1) p) (eqb (prn_in t 2) p) h)
    where
      go1 : (a : Bool) → 4 ≤ pick a 0 (pick (eqb (prn_in t 1) p) 1 (pick (eqb (prn_in t 2) p) 2 (pick (eqb (prn_in t 3) p) 3 4))) → prn_in t 1 ≢ p
      go1 true l e = omega arith
      go1 false l e = let g = rw (eq-eqb _ _ e) at l in omega arith

      go2 : (a b : Bool) → 4 ≤ pick a 0 (pick b 1 (pick (eqb (prn_in t 2) p) 2 (pick (eqb (prn_in t 3) p) 3 4))) → prn_in t 2 ≢ p
      go2 true b l e = omega arith
      go2 false true l e = omega arith
      go2 false false l e = let g = rw (eq-eqb _ _ e) at l in omega arith

      go3 : (a b c : Bool) → 4 ≤ pick a 0 (pick b 1 (pick c 2 (pick (eqb (prn_in t 3) p) 3 4))) → prn_in t 3 ≢ p
      go3 true b c l e = omega arith
      go3 false true c l e = omega arith
      go3 false false true l e = omega arith
      go3 false false false l e = let g = rw (eq-eqb _ _ e) at l in omega arith

  -- the only room that has it
  pub with_found : (i : ℕ) → i < 4 → prn_in t i ≡ p → ((j : ℕ) → j < 4 → prn_in t j ≡ p → j ≡ i) → room_with t p ≡ i
  with_found i h e only =
      dite (dec_lt (room_with t p) 4)
      (λ l. only (room_with t p) l (with_at l))
      (λ l. absurd (none_with (omega (arith, l)) i h e))

-- the same PRN bytes in the same rooms
pub with_same : (t u : List ℕ) (p : ℕ) → ((j : ℕ) → j < 4 → eqb (prn_in u j) p ≡ eqb (prn_in t j) p) → room_with u p ≡ room_with t p
unfolding room_with
with_same t u p e = rw (e 0 (omega arith), e 1 (omega arith), e 2 (omega arith), e 3 (omega arith))

-- ---- how many rooms are free
abbrev pub rooms : List ℕ
rooms = 0 ∷ 1 ∷ 2 ∷ 3 ∷ []

abbrev pub is_free : List ℕ → ℕ → Bool
is_free t i = eqb (prn_in t i) 0

abbrev pub free_count : List ℕ → ℕ
free_count t = how_many (is_free t) rooms

-- a room is free exactly if some is
pub free_some : (t : List ℕ) → ltb (free_room t) 4 ≡ ltb 0 (free_count t)
unfolding room_with how_many
free_some t = go (is_free t 0) (is_free t 1) (is_free t 2) (is_free t 3)
  where
    go : (a b c d : Bool) → ltb (pick a 0 (pick b 1 (pick c 2 (pick d 3 4)))) 4 ≡ ltb 0 (0 + pick d 1 0 + pick c 1 0 + pick b 1 0 + pick a 1 0)
    go true b c d = sym (lt-ltb 0 (0 + pick d 1 0 + pick c 1 0 + pick b 1 0 + 1) (omega arith))
    go false true c d = sym (lt-ltb 0 (0 + pick d 1 0 + pick c 1 0 + 1 + 0) (omega arith))
    go false false true d = sym (lt-ltb 0 (0 + pick d 1 0 + 1 + 0 + 0) (omega arith))
    go false false false true = refl
    go false false false false = refl

-- a room stands among the four once
pub room_once : (i : ℕ) → i < 4 → how_many (eqb i) rooms ≡ 1
unfolding how_many
room_once = each_room (λ (i : ℕ). how_many (eqb i) rooms ≡ 1) refl refl refl refl

-- ---- the room of a PRN
module _ (t : List ℕ) (prn : ℕ) where
  pub of_at : room_of t prn < 4 → (is_prn prn ≡ true) × (prn_in t (room_of t prn) ≡ prn)
  unfolding room_of
  of_at h = go (is_prn prn) refl h
    where
      go : (b : Bool) → is_prn prn ≡ b → pick b (room_with t prn) 4 < 4 → (is_prn prn ≡ true) × (prn_in t (pick b (room_with t prn) 4) ≡ prn)
      go true e l = (e, with_at t prn l)
      go false e l = absurd (omega arith)

  pub of_found : Sound t → is_prn prn ≡ true → (i : ℕ) → i < 4 → prn_in t i ≡ prn → room_of t prn ≡ i
  of_found S ten i h e =
      sym (of_ten t prn ten) ∙ with_found t prn i h e (λ j l q. S.once j i l h (λ z. prn_some prn ten (sym q ∙ z)) (q ∙ sym e))

  pub of_none : (is_prn prn ≡ true → (j : ℕ) → j < 4 → prn_in t j ≢ prn) → 4 ≡ room_of t prn
  unfolding room_of
  of_none n = go (is_prn prn) refl
    where
      go : (b : Bool) → is_prn prn ≡ b → 4 ≡ pick b (room_with t prn) 4
      go true e = with_none t prn (n e)
      go false e = refl

  pub none_of : is_prn prn ≡ true → 4 ≤ room_of t prn → (j : ℕ) → j < 4 → prn_in t j ≢ prn
  none_of ten h = none_with t prn (omega (arith, of_ten t prn ten))

pub of_same : (t u : List ℕ) (prn : ℕ) → (is_prn prn ≡ true → (j : ℕ) → j < 4 → eqb (prn_in u j) prn ≡ eqb (prn_in t j) prn) → room_of u prn ≡ room_of t prn
unfolding room_of
of_same t u prn e = go (is_prn prn) refl
  where
    go : (b : Bool) → is_prn prn ≡ b → pick b (room_with u prn) 4 ≡ pick b (room_with t prn) 4
    go true q = with_same t u prn (e q)
    go false q = refl

-- the same PRN bytes
pub same_sound : (t u : List ℕ) → Sound t → length u ≡ table_size → ((j : ℕ) → prn_in u j ≡ prn_in t j) → Sound u
same_sound t u S l e = record {
  long = l;
  known = λ i a z. ap is_prn (e i) ∙ S.known i a (λ q. z (e i ∙ q));
  once = λ i j a b z q. S.once i j a b (λ x. z (e i ∙ x)) (sym (e i) ∙ q ∙ e j);
}
