-- THE THEOREMS of 02, CR 14: after any calls the table is right, and each PRN is as if it were alone.
use mathlib.Core.Path.{◌≡◌, refl, sym, ap, subst, ◌∙◌}
use mathlib.Core.Logic.{◌⊎◌, inl, inr, dite, ⊎_elim}
use Prim.Native.Nat.{ℕ, ◌≤◌}
use mathlib.Core.Bool.{Bool, true, false, not, ◌&&◌, true≢false}
use mathlib.Core.List.{List, [], ◌∷◌, ◌++◌, append-nil}
use lib.Dec.{eqb, ltb}
use lib.ListN.{length, replicate}
use native.Mathlib.Decide.{ℕ_discrete, dec_lt}
use native.Mathlib.Omega.{arith}
use borrow.Author.Tests.{eq-eqb, ne_eqb, lt-ltb, le-ltb}
use Rattle.bits.specs.Pick.{pick}
use Rattle.bits.specs.Some.{first}
use Rattle.bits.proofs.TestLaws.{both_hold}
use Rattle.verdict.specs.Verdict.{refused_by}
use Rattle.frame.specs.Frame.{prn_of, is_prn, shell_refusal, shell_for}
use Rattle.held_mask.specs.Size.{size}
use Rattle.in_force.specs.Back.{says_after}
use Rattle.in_force.specs.Bytes.{fresh, take_says, take_bytes, run_bytes, Holds}
use Rattle.in_force.proofs.BackLaws.{says_run}
use Rattle.broadcast.specs.Issues.{issues_refusal}
use Rattle.list_right.proofs.ListRight.{list_held}
use Rattle.table_form.specs.Table.{table_size, part, put_part, is_table, room_of, free_room, ledger_for}
use Rattle.table_form.proofs.PartLaws.{part_long}
use Rattle.table.specs.Calls.{opening_refusal, opened, closing_refusal, closed, taking_says, taking_bytes}
use Rattle.table.proofs.CallLaws.{open_4, open_28, open_29, open_0, close_30, close_0, take_stray, take_own}
use Rattle.table_list.specs.Questions.{asking_refusal}
use Rattle.table_right.specs.Calls.{Call, Open, Close, Frame, empty_table, table_by, table_after, how_many, is_open, open_count, is_own, frames_for, own_frames, keeps_open, is_for}
use Rattle.table_right.specs.Right.{OneLedger, RightAfter, Alone, Untouched}
use Rattle.table_right.proofs.SoundLaws.{prn_some, is_table_lem, zero_prn, zero_sound, free_count, of_at, of_none}
use Rattle.table_right.proofs.StepLaws.{After, or_no, and_yes, and_no, open_room, shut_room, open_holds, few_open, still, after_opened, after_closed}
use Rattle.table_right.proofs.FrameLaws.{after_stray, after_taken}

-- ---- the empty table
module _ (n : ℕ) (e : n ≡ table_size) where
  zero_room : (prn : ℕ) → 4 ≡ room_of (replicate n 0) prn
  zero_room prn = of_none (replicate n 0) prn (λ y j l q. prn_some prn y (sym q ∙ zero_prn n j))

  zero_free : free_count (replicate n 0) ≡ 4
  unfolding how_many
  zero_free = rw (zero_prn n 0, zero_prn n 1, zero_prn n 2, zero_prn n 3)

  none_open : open_count [] ≡ 0
  unfolding is_open how_many
  none_open = refl

  none_shut : (prn : ℕ) → is_open [] prn ≡ false
  unfolding is_open
  none_shut prn = refl

  after_none : After (replicate n 0) []
  after_none = record {
    sound = zero_sound n e;
    opens = λ prn. le-ltb (room_of (replicate n 0) prn) 4 (omega (arith, zero_room prn)) ∙ sym (none_shut prn);
    bytes = λ prn y. absurd (true≢false (sym y ∙ none_shut prn));
    count = omega (arith, none_open, zero_free);
  }

-- ---- one call more
module _ (t : List ℕ) (h : List Call) (A : After t h) where
  table : is_table t ≡ true
  table = is_table_lem t A.sound

  -- an opening that opens nothing
  idle_open : (p : ℕ) → ((q : ℕ) → (eqb p q && is_prn p && ltb (open_count h) 4 ≡ false) ⊎ (is_open h q ≡ true)) → After t (Open p ∷ h)
  unfolding is_open frames_for
  idle_open p w =
      still t h A (Open p ∷ h)
      (λ q. ⊎_elim (λ e. rw e (or_no (is_open h q))) (λ y. rw y) (w q))
      (λ q y. rw (y, and_no (eqb p q)))

  step_open : (p : ℕ) → After (opened t p) (Open p ∷ h)
  step_open p = go (is_prn p) (is_open h p) refl refl
    where
      go : (b c : Bool) → is_prn p ≡ b → is_open h p ≡ c → After (opened t p) (Open p ∷ h)
      go false c n o =
          subst (λ (x : List ℕ). After x (Open p ∷ h)) (open_4 t p table n).1 (idle_open p (λ q. inl (rw (n, and_no (eqb p q)))))
      go true true ten o =
          subst (λ (x : List ℕ). After x (Open p ∷ h)) (open_28 t p table ten (open_room t h A p o)).1
          (idle_open p (λ q. dite (ℕ_discrete q p) (λ e. inr (ap (is_open h) e ∙ o)) (λ n. inl (rw (ne_eqb p q (λ z. n (sym z)))))))
      go true false ten o =
          dite (dec_lt (free_room t) 4)
          (λ l.
          subst (λ (x : List ℕ). After x (Open p ∷ h)) (open_0 t p table ten (shut_room t h A p o) l (put_part t (free_room t) (fresh (part t (free_room t)) p)) refl).1
          (after_opened t h A p ten o l))
          (λ n.
          let full : 4 ≤ free_room t = omega (arith, n) in
          let e : ltb (open_count h) 4 ≡ false = few_open t h A ∙ le-ltb (free_room t) 4 full in
          subst (λ (x : List ℕ). After x (Open p ∷ h)) (open_29 t p table ten (shut_room t h A p o) full).1
          (idle_open p (λ q. inl (rw e (and_no (eqb p q && is_prn p))))))

  -- a closing that closes nothing
  idle_close : (p : ℕ) → is_open h p ≡ false → After t (Close p ∷ h)
  unfolding is_open frames_for
  idle_close p o =
      still t h A (Close p ∷ h)
      (λ q. dite (ℕ_discrete q p) (λ e. rw (ap (is_open h) e ∙ o)) (λ n. rw (ne_eqb p q (λ z. n (sym z))) (and_yes (is_open h q))))
      (λ q y. refl)

  step_close : (p : ℕ) → After (closed t p) (Close p ∷ h)
  step_close p = go (is_open h p) refl
    where
      go : (c : Bool) → is_open h p ≡ c → After (closed t p) (Close p ∷ h)
      go true o =
          subst (λ (x : List ℕ). After x (Close p ∷ h))
          (close_0 t p table (open_room t h A p o) (put_part t (room_of t p) (replicate (length (part t (room_of t p))) 0)) refl).1
          (after_closed t h A p o)
      go false o = subst (λ (x : List ℕ). After x (Close p ∷ h)) (close_30 t p table (shut_room t h A p o)).1 (idle_close p o)

  step_frame : (f : List ℕ) → After (taking_bytes t f) (Frame f ∷ h)
  step_frame f = go (is_open h (prn_of f)) refl
    where
      go : (c : Bool) → is_open h (prn_of f) ≡ c → After (taking_bytes t f) (Frame f ∷ h)
      go true o =
          subst (λ (x : List ℕ). After x (Frame f ∷ h))
          (take_own t f table (take_says (part t (room_of t (prn_of f))) f) (put_part t (room_of t (prn_of f)) (take_bytes (part t (room_of t (prn_of f))) f)) (open_room t h A (prn_of f) o) refl refl).1
          (after_taken t h A f o)
      go false o = subst (λ (x : List ℕ). After x (Frame f ∷ h)) (take_stray t f table (shell_for 0 f) (shut_room t h A (prn_of f) o) refl).1 (after_stray t h A f o)

  step : (c : Call) → After (table_by t c) (c ∷ h)
  unfolding table_by
  step (Open p) = step_open p
  step (Close p) = step_close p
  step (Frame f) = step_frame f

pub after : (h : List Call) → After (table_after h) h
unfolding table_after empty_table
after [] = after_none table_size refl
after (c ∷ h) = step (table_after h) h (after h) c

-- ---- what it means for a PRN that is open
ledger_part : (t : List ℕ) (prn : ℕ) → is_table t ≡ true → ledger_for t prn ≡ part t (room_of t prn)
unfolding ledger_for
ledger_part t prn y = rw y

one_ledger : (t : List ℕ) (h : List Call) → After t h → (prn : ℕ) → is_open h prn ≡ true → OneLedger t prn (frames_for h prn)
one_ledger t h A prn y =
    let l = open_room t h A prn y in
    let a = of_at t prn l in
    let e = ledger_part t prn (is_table_lem t A.sound) in
    let H = subst (λ (s : List ℕ). Holds s prn (frames_for h prn)) (sym e) (open_holds t h A prn y) in
    record {
      room = l;
      named = a.1;
      once = λ j k q. A.sound.once j (room_of t prn) k l (λ z. prn_some prn a.0 (sym q ∙ z)) (q ∙ sym a.1);
      bytes = λ s k. e ∙ A.bytes prn y s k;
      holds = H;
      list = λ is. list_held (ledger_for t prn) prn (frames_for h prn) is H;
    }

-- ---- how calls are answered
module _ (t : List ℕ) (h : List Call) (A : After t h) where
  -- four are open exactly if no room is free
  all_open : not (ltb (free_room t) 4) ≡ eqb (open_count h) 4
  all_open =
      ap not (sym (few_open t h A))
      ∙ dite (ℕ_discrete (open_count h) 4)
      (λ e. ap not (le-ltb (open_count h) 4 (omega arith)) ∙ sym (eq-eqb (open_count h) 4 e))
      (λ n. ap not (lt-ltb (open_count h) 4 (omega (arith, A.count))) ∙ sym (ne_eqb (open_count h) 4 n))

  says_open : (prn : ℕ) → opening_refusal t prn ≡ first ((4, not (is_prn prn)) ∷ (28, is_open h prn) ∷ (29, eqb (open_count h) 4) ∷ [])
  unfolding opening_refusal
  says_open prn = rw (is_table_lem t A.sound, A.opens prn, all_open)

  says_close : (prn : ℕ) → closing_refusal t prn ≡ pick (is_open h prn) 0 30
  unfolding closing_refusal
  says_close prn = rw (is_table_lem t A.sound, A.opens prn) (go (is_open h prn))
    where
      go : (b : Bool) → first ((30, not b) ∷ []) ≡ pick b 0 30
      go true = refl
      go false = refl

  says_ask : (prn : ℕ) (is : List ℕ) → asking_refusal t prn is ≡ first ((issues_refusal is, not (eqb (issues_refusal is) 0)) ∷ (30, not (is_open h prn)) ∷ [])
  unfolding asking_refusal
  says_ask prn is = rw (is_table_lem t A.sound, A.opens prn)

  says_take : (f : List ℕ) → taking_says t f ≡ pick (is_open h (prn_of f)) (says_after (prn_of f) (frames_for h (prn_of f)) f) (refused_by (shell_refusal true f))
  unfolding taking_says
  says_take f = rw (is_table_lem t A.sound, A.opens (prn_of f)) (go (is_open h (prn_of f)) refl)
    where
      go : (b : Bool) → is_open h (prn_of f) ≡ b →
          pick b (take_says (part t (room_of t (prn_of f))) f) (refused_by (shell_refusal true f))
          ≡ pick b (says_after (prn_of f) (frames_for h (prn_of f)) f) (refused_by (shell_refusal true f))
      go true y =
          let p = part t (room_of t (prn_of f)) in
          let l : length p ≡ size = part_long t A.sound.long (room_of t (prn_of f)) (open_room t h A (prn_of f) y) in
          ap (λ (s : List ℕ). take_says s f) (A.bytes (prn_of f) y p l) ∙ says_run p (prn_of f) (frames_for h (prn_of f)) f l
      go false y = refl

-- 02, CR 14: THE THEOREM
pub right_after : (h : List Call) → RightAfter h
right_after h =
    let A = after h in
    record {
      stays = is_table_lem (table_after h) A.sound;
      few = omega (arith, A.count);
      each = one_ledger (table_after h) h A;
      opening = says_open (table_after h) h A;
      closing = says_close (table_after h) h A;
      asking = says_ask (table_after h) h A;
      taking = says_take (table_after h) h A;
    }

-- ---- calls since an opening
module _ (prn : ℕ) (h : List Call) (y : is_open h prn ≡ true) where
  abbrev Since : List Call → Type 0
  Since later = (is_open (later ++ h) prn ≡ true) × (frames_for (later ++ h) prn ≡ own_frames prn later ++ frames_for h prn)

  since : (later : List Call) → keeps_open prn later ≡ true → Since later
  unfolding is_open frames_for own_frames keeps_open
  since [] k = (y, refl)
  since (Open p ∷ later) k =
      let ih = since later k in
      (rw ih.0, rw (ih.0, and_no (eqb p prn)) ih.1)
  since (Close p ∷ later) k =
      let b = both_hold (not (eqb p prn)) (keeps_open prn later) k in
      let ih = since later b.1 in
      (rw (ih.0, b.0), ih.1)
  since (Frame f ∷ later) k =
      let ih = since later k in
      (ih.0, go (is_own prn f) ih.1)
    where
      go : (b : Bool) → frames_for (later ++ h) prn ≡ own_frames prn later ++ frames_for h prn →
          pick b (f ∷ frames_for (later ++ h) prn) (frames_for (later ++ h) prn) ≡ pick b (f ∷ own_frames prn later) (own_frames prn later) ++ frames_for h prn
      go true e = ap (λ (fs : List (List ℕ)). f ∷ fs) e
      go false e = e

fresh_frames : (prn : ℕ) (before : List Call) → is_open before prn ≡ false → frames_for (Open prn ∷ before) prn ≡ []
unfolding frames_for
fresh_frames prn before n = rw (eq-eqb prn prn refl, n)

-- 02, CR 14: THE THEOREM of independence
pub alone : Alone
alone prn later before n y k =
    let h = later ++ (Open prn ∷ before) in
    let s = since prn (Open prn ∷ before) y later k in
    let e : frames_for h prn ≡ own_frames prn later =
    s.1 ∙ ap (λ (fs : List (List ℕ)). own_frames prn later ++ fs) (fresh_frames prn before n) ∙ append-nil (own_frames prn later)
    in (
      subst (λ (fs : List (List ℕ)). OneLedger (table_after h) prn fs) e (one_ledger (table_after h) h (after h) prn s.0),
      λ f q.
          says_take (table_after h) h (after h) f
          ∙ ap (λ (p : ℕ). pick (is_open h p) (says_after p (frames_for h p) f) (refused_by (shell_refusal true f))) q
          ∙ ap (λ (b : Bool). pick b (says_after prn (frames_for h prn) f) (refused_by (shell_refusal true f))) s.0
          ∙ ap (λ (fs : List (List ℕ)). says_after prn fs f) e,
    )

-- ---- a call for another PRN
quiet : (prn : ℕ) (c : Call) → is_for prn c ≡ false → (keeps_open prn (c ∷ []) ≡ true) × (own_frames prn (c ∷ []) ≡ [])
unfolding is_for keeps_open own_frames
quiet prn (Open p) n = (refl, refl)
quiet prn (Close p) n = (rw n, refl)
quiet prn (Frame f) n = (refl, rw n)

-- 02, CR 14: THE THEOREM of rooms untouched
pub untouched : Untouched
untouched prn c h y n =
    let q = quiet prn c n in
    let s = since prn h y (c ∷ []) q.0 in
    let e : frames_for (c ∷ h) prn ≡ frames_for h prn = s.1 ∙ ap (λ (fs : List (List ℕ)). fs ++ frames_for h prn) q.1 in
    let was = one_ledger (table_after h) h (after h) prn y in
    let is = one_ledger (table_after (c ∷ h)) (c ∷ h) (after (c ∷ h)) prn s.0 in
    let room = ledger_for (table_after h) prn in
    (s.0, is.bytes room was.holds.long ∙ ap (run_bytes (fresh room prn)) e ∙ sym (was.bytes room was.holds.long))
