-- One call more: what a table holds after calls, it holds after the next.
use mathlib.Core.Path.{◌≡◌, refl, sym, ap, subst, ◌∙◌}
use mathlib.Core.Logic.{◌≢◌, dite}
use Prim.Native.Nat.{ℕ, ◌+◌, ◌≤◌, ◌<◌}
use mathlib.Core.Bool.{Bool, true, false, ◌&&◌, ◌||◌, true≢false}
use mathlib.Core.List.{List, [], ◌∷◌}
use lib.Dec.{eqb, ltb}
use lib.ListN.{length, set, replicate, length-replicate}
use native.Mathlib.Decide.{ℕ_discrete}
use native.Mathlib.Omega.{arith}
use borrow.Author.Tests.{eq-eqb, ne_eqb, lt-ltb, le-ltb, ltb-true, ltb-false}
use Rattle.lent.proofs.ZeroLaws.{get_or_zeros}
use Rattle.frame.specs.Frame.{is_prn}
use Rattle.held_mask.specs.Size.{size}
use Rattle.in_force.specs.Bytes.{prn_at, fresh, run_bytes, Holds}
use Rattle.in_force.proofs.ViewLaws.{fresh_long, fresh_prn}
use Rattle.in_force.proofs.BackLaws.{holds_run}
use Rattle.table_form.specs.Table.{part, put_part, prn_in, room_of, has_room, free_room}
use Rattle.table_form.proofs.PartLaws.{part_long, part_same, part_other, prn_same, prn_other}
use Rattle.table_right.specs.Calls.{Call, Open, Close, the_ten, is_open, open_count, frames_for}
use Rattle.table_right.proofs.CountLaws.{many_same, many_more, ten_once}
use Rattle.table_right.proofs.SoundLaws.{Sound, prn_some, put_sound, with_at, rooms, is_free, free_count, free_some, room_once, of_at, of_found, of_none, none_of, of_same}

-- ---- tests
pub or_no : (b : Bool) → b || false ≡ b
or_no true = refl
or_no false = refl

pub and_yes : (b : Bool) → b && true ≡ b
and_yes true = refl
and_yes false = refl

pub and_no : (b : Bool) → b && false ≡ false
and_no true = refl
and_no false = refl

-- ---- what a table holds after calls
pub record After (t : List ℕ) (h : List Call) : Type 0 where
  pub sound : Sound t
  pub opens : (prn : ℕ) → has_room t prn ≡ is_open h prn
  pub bytes : (prn : ℕ) → is_open h prn ≡ true → (s : List ℕ) → length s ≡ size → part t (room_of t prn) ≡ run_bytes (fresh s prn) (frames_for h prn)
  pub count : open_count h + free_count t ≡ 4

module _ (t : List ℕ) (h : List Call) (A : After t h) where
  -- an open PRN has a room
  pub open_room : (prn : ℕ) → is_open h prn ≡ true → room_of t prn < 4
  open_room prn y = ltb-true (room_of t prn) 4 (A.opens prn ∙ y)

  pub shut_room : (prn : ℕ) → is_open h prn ≡ false → 4 ≤ room_of t prn
  shut_room prn n = ltb-false (room_of t prn) 4 (A.opens prn ∙ n)

  -- and its ledger holds what is in force after its frames
  pub open_holds : (prn : ℕ) → is_open h prn ≡ true → Holds (part t (room_of t prn)) prn (frames_for h prn)
  open_holds prn y =
      let p = part t (room_of t prn) in
      let l : length p ≡ size = part_long t A.sound.long (room_of t prn) (open_room prn y) in
      subst (λ (s : List ℕ). Holds s prn (frames_for h prn)) (sym (A.bytes prn y p l)) (holds_run p prn (frames_for h prn) l)

  -- 02, CR 14: fewer than four are open exactly if a room is free
  pub few_open : ltb (open_count h) 4 ≡ ltb (free_room t) 4
  few_open =
      dite (ℕ_discrete (free_count t) 0)
      (λ e. le-ltb (open_count h) 4 (omega (arith, A.count)) ∙ sym (free_some t ∙ le-ltb 0 (free_count t) (omega arith)))
      (λ n. lt-ltb (open_count h) 4 (omega (arith, A.count)) ∙ sym (free_some t ∙ lt-ltb 0 (free_count t) (omega arith)))

  -- calls that open and close nothing and bring no frame of an open PRN
  pub still : (k : List Call) → ((prn : ℕ) → is_open k prn ≡ is_open h prn) → ((prn : ℕ) → is_open h prn ≡ true → frames_for k prn ≡ frames_for h prn) → After t k
  still k o f = record {
    sound = A.sound;
    opens = λ prn. A.opens prn ∙ sym (o prn);
    bytes = λ prn y s l. let z = sym (o prn) ∙ y in A.bytes prn z s l ∙ ap (run_bytes (fresh s prn)) (sym (f prn z));
    count = ap (λ (n : ℕ). n + free_count t) (many_same (is_open h) (is_open k) the_ten o) ∙ A.count;
  }

-- ---- an opening that is taken
module _ (t : List ℕ) (h : List Call) (A : After t h) (p : ℕ) (ten : is_prn p ≡ true) (new : is_open h p ≡ false) (free : free_room t < 4) where
  r : List ℕ
  r = fresh (part t (free_room t)) p

  whole : length r ≡ size
  unfolding r
  whole = fresh_long (part t (free_room t)) p ∙ part_long t A.sound.long (free_room t) free

  own : prn_at r ≡ p
  unfolding r
  own = fresh_prn (part t (free_room t)) p (omega (arith, part_long t A.sound.long (free_room t) free))

  none : (j : ℕ) → j < 4 → prn_in t j ≢ p
  none = none_of t p ten (shut_room t h A p new)

  u : List ℕ
  u = put_part t (free_room t) r

  was : prn_in t (free_room t) ≡ 0
  was = with_at t 0 free

  is : prn_in u (free_room t) ≡ p
  unfolding u
  is = prn_same t A.sound.long (free_room t) free r whole ∙ own

  other : (j : ℕ) → j ≢ free_room t → prn_in u j ≡ prn_in t j
  unfolding u
  other = prn_other t A.sound.long (free_room t) free r whole

  opened_sound : Sound u
  unfolding u
  opened_sound = put_sound t A.sound (free_room t) free r whole (λ z. ap is_prn own ∙ ten) (λ j l n z e. none j l (e ∙ own))

  room_own : room_of u p ≡ free_room t
  room_own = of_found u p opened_sound ten (free_room t) free is

  room_other : (q : ℕ) → q ≢ p → room_of u q ≡ room_of t q
  room_other q n =
      of_same t u q
      (λ y j l.
      dite (ℕ_discrete j (free_room t))
      (λ e.
      ap (λ (k : ℕ). eqb (prn_in u k) q) e
      ∙ ne_eqb (prn_in u (free_room t)) q (λ z. n (sym z ∙ is))
      ∙ sym (ne_eqb (prn_in t (free_room t)) q (λ z. prn_some q y (sym z ∙ was)))
      ∙ ap (λ (k : ℕ). eqb (prn_in t k) q) (sym e))
      (λ m. ap (λ (x : ℕ). eqb x q) (other j m)))

  now_open : is_open (Open p ∷ h) p ≡ true
  unfolding is_open
  now_open = rw (new, eq-eqb p p refl, ten, few_open t h A ∙ lt-ltb (free_room t) 4 free)

  as_before : (q : ℕ) → q ≢ p → is_open (Open p ∷ h) q ≡ is_open h q
  unfolding is_open
  as_before q n = rw (ne_eqb p q (λ z. n (sym z))) (or_no (is_open h q))

  frames_none : frames_for (Open p ∷ h) p ≡ []
  unfolding frames_for
  frames_none = rw (eq-eqb p p refl, new)

  frames_before : (q : ℕ) → q ≢ p → frames_for (Open p ∷ h) q ≡ frames_for h q
  unfolding frames_for
  frames_before q n = rw (ne_eqb p q (λ z. n (sym z)))

  own_bytes : (s : List ℕ) → length s ≡ size → part u (room_of u p) ≡ run_bytes (fresh s p) (frames_for (Open p ∷ h) p)
  unfolding u r run_bytes fresh
  own_bytes s l =
      rw frames_none
      (ap (part u) room_own
      ∙ part_same t A.sound.long (free_room t) free r whole
      ∙ ap (λ (n : ℕ). set (replicate n 0) 0 p) (part_long t A.sound.long (free_room t) free ∙ sym l))

  other_bytes : (q : ℕ) → q ≢ p → is_open h q ≡ true → (s : List ℕ) → length s ≡ size → part u (room_of u q) ≡ run_bytes (fresh s q) (frames_for (Open p ∷ h) q)
  unfolding u
  other_bytes q n y s l =
      let o = open_room t h A q y in
      let a = of_at t q o in
      rw (frames_before q n)
      (ap (part u) (room_other q n)
      ∙ part_other t A.sound.long (free_room t) free r whole (room_of t q) o (λ e. prn_some q a.0 (sym a.1 ∙ ap (prn_in t) e ∙ was))
      ∙ A.bytes q y s l)

  opened_count : open_count (Open p ∷ h) + free_count u ≡ 4
  opened_count =
      let a = many_more (is_open h) (is_open (Open p ∷ h)) p new now_open as_before the_ten in
      let b = many_more (is_free u) (is_free t) (free_room t) (ne_eqb (prn_in u (free_room t)) 0 (λ z. prn_some p ten (sym is ∙ z))) (eq-eqb (prn_in t (free_room t)) 0 was) (λ j m. ap (λ (x : ℕ). eqb x 0) (sym (other j m))) rooms in
      omega (arith, a, b, ten_once p ten, room_once (free_room t) free, A.count)

  all_opened : After u (Open p ∷ h)
  all_opened = record {
    sound = opened_sound;
    opens = λ q.
        dite (ℕ_discrete q p)
        (λ e. subst (λ (x : ℕ). has_room u x ≡ is_open (Open p ∷ h) x) (sym e) (lt-ltb (room_of u p) 4 (omega (arith, room_own)) ∙ sym now_open))
        (λ n. ap (λ (k : ℕ). ltb k 4) (room_other q n) ∙ A.opens q ∙ sym (as_before q n));
    bytes = λ q y.
        dite (ℕ_discrete q p)
        (λ e. subst (λ (x : ℕ). (s : List ℕ) → length s ≡ size → part u (room_of u x) ≡ run_bytes (fresh s x) (frames_for (Open p ∷ h) x)) (sym e) own_bytes)
        (λ n. other_bytes q n (sym (as_before q n) ∙ y));
    count = opened_count;
  }

  pub after_opened : After (put_part t (free_room t) (fresh (part t (free_room t)) p)) (Open p ∷ h)
  unfolding u r
  after_opened = all_opened

-- ---- a closing that is taken
module _ (t : List ℕ) (h : List Call) (A : After t h) (p : ℕ) (yes : is_open h p ≡ true) where
  at_room : room_of t p < 4
  at_room = open_room t h A p yes

  zeros : List ℕ
  zeros = replicate (length (part t (room_of t p))) 0

  zeros_long : length zeros ≡ size
  unfolding zeros
  zeros_long = length-replicate (length (part t (room_of t p))) 0 ∙ part_long t A.sound.long (room_of t p) at_room

  zeros_prn : prn_at zeros ≡ 0
  unfolding zeros
  zeros_prn = get_or_zeros (length (part t (room_of t p))) 0

  v : List ℕ
  v = put_part t (room_of t p) zeros

  held : (is_prn p ≡ true) × (prn_in t (room_of t p) ≡ p)
  held = of_at t p at_room

  cleared : prn_in v (room_of t p) ≡ 0
  unfolding v
  cleared = prn_same t A.sound.long (room_of t p) at_room zeros zeros_long ∙ zeros_prn

  kept : (j : ℕ) → j ≢ room_of t p → prn_in v j ≡ prn_in t j
  unfolding v
  kept = prn_other t A.sound.long (room_of t p) at_room zeros zeros_long

  closed_sound : Sound v
  unfolding v
  closed_sound =
      put_sound t A.sound (room_of t p) at_room zeros zeros_long (λ z. absurd (z zeros_prn)) (λ j l n z e. absurd (z zeros_prn))

  room_gone : 4 ≡ room_of v p
  room_gone =
      of_none v p
      (λ y j l e.
      dite (ℕ_discrete j (room_of t p))
      (λ x. prn_some p y (sym e ∙ ap (prn_in v) x ∙ cleared))
      (λ n. n (A.sound.once j (room_of t p) l at_room (λ z. prn_some p y (sym e ∙ kept j n ∙ z)) (sym (kept j n) ∙ e ∙ sym held.1))))

  room_kept : (q : ℕ) → q ≢ p → room_of v q ≡ room_of t q
  room_kept q n =
      of_same t v q
      (λ y j l.
      dite (ℕ_discrete j (room_of t p))
      (λ e.
      ap (λ (k : ℕ). eqb (prn_in v k) q) e
      ∙ ne_eqb (prn_in v (room_of t p)) q (λ z. prn_some q y (sym z ∙ cleared))
      ∙ sym (ne_eqb (prn_in t (room_of t p)) q (λ z. n (sym z ∙ held.1)))
      ∙ ap (λ (k : ℕ). eqb (prn_in t k) q) (sym e))
      (λ m. ap (λ (x : ℕ). eqb x q) (kept j m)))

  now_shut : is_open (Close p ∷ h) p ≡ false
  unfolding is_open
  now_shut = rw (yes, eq-eqb p p refl)

  as_it_was : (q : ℕ) → q ≢ p → is_open (Close p ∷ h) q ≡ is_open h q
  unfolding is_open
  as_it_was q n = rw (ne_eqb p q (λ z. n (sym z))) (and_yes (is_open h q))

  kept_bytes : (q : ℕ) → q ≢ p → is_open h q ≡ true → (s : List ℕ) → length s ≡ size → part v (room_of v q) ≡ run_bytes (fresh s q) (frames_for (Close p ∷ h) q)
  unfolding v frames_for
  kept_bytes q n y s l =
      let o = open_room t h A q y in
      let a = of_at t q o in
      ap (part v) (room_kept q n)
      ∙ part_other t A.sound.long (room_of t p) at_room zeros zeros_long (room_of t q) o (λ e. n (sym a.1 ∙ ap (prn_in t) e ∙ held.1))
      ∙ A.bytes q y s l

  closed_count : open_count (Close p ∷ h) + free_count v ≡ 4
  closed_count =
      let a = many_more (is_open (Close p ∷ h)) (is_open h) p now_shut yes (λ q n. sym (as_it_was q n)) the_ten in
      let b = many_more (is_free t) (is_free v) (room_of t p) (ne_eqb (prn_in t (room_of t p)) 0 (λ z. prn_some p held.0 (sym held.1 ∙ z))) (eq-eqb (prn_in v (room_of t p)) 0 cleared) (λ j m. ap (λ (x : ℕ). eqb x 0) (kept j m)) rooms in
      omega (arith, a, b, ten_once p held.0, room_once (room_of t p) at_room, A.count)

  all_closed : After v (Close p ∷ h)
  all_closed = record {
    sound = closed_sound;
    opens = λ q.
        dite (ℕ_discrete q p)
        (λ e. subst (λ (x : ℕ). has_room v x ≡ is_open (Close p ∷ h) x) (sym e) (le-ltb (room_of v p) 4 (omega (arith, room_gone)) ∙ sym now_shut))
        (λ n. ap (λ (k : ℕ). ltb k 4) (room_kept q n) ∙ A.opens q ∙ sym (as_it_was q n));
    bytes = λ q y.
        dite (ℕ_discrete q p)
        (λ e. absurd (true≢false (sym y ∙ ap (is_open (Close p ∷ h)) e ∙ now_shut)))
        (λ n. kept_bytes q n (sym (as_it_was q n) ∙ y));
    count = closed_count;
  }

  pub after_closed : After (put_part t (room_of t p) (replicate (length (part t (room_of t p))) 0)) (Close p ∷ h)
  unfolding v zeros
  after_closed = all_closed
