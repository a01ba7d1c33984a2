-- A frame more: the ledger of its PRN takes it or refuses it, and every other room stays.
use mathlib.Core.Path.{◌≡◌, refl, sym, ap, subst, ◌∙◌}
use mathlib.Core.Logic.{◌≢◌, dite}
use Prim.Native.Nat.{ℕ, ◌+◌, ◌<◌}
use mathlib.Core.Bool.{Bool, true, false, not, ◌&&◌, true≢false}
use mathlib.Core.List.{List, [], ◌∷◌}
use lib.Dec.{eqb, ltb}
use lib.ListN.{length}
use native.Mathlib.Decide.{ℕ_discrete}
use native.Mathlib.Omega.{arith}
use borrow.Author.Tests.{eq-eqb, ne_eqb}
use Rattle.bits.specs.Pick.{pick}
use Rattle.bits.specs.Some.{first}
use Rattle.bits.specs.Bits.{bit_at, field_at}
use Rattle.check24.specs.Check.{check_ok}
use Rattle.parity.specs.Parity.{parity_ok}
use Rattle.judge.specs.Judge.{refusal_at}
use Rattle.frame.specs.Frame.{prn_of, foreign_to, shell_refusal, refusal_with}
use Rattle.frame.proofs.FrameLaws.{leading}
use Rattle.held_mask.specs.Size.{size}
use Rattle.in_force.specs.Bytes.{prn_at, fresh, take_bytes, run_bytes, Holds}
use Rattle.in_force.proofs.RefusalLaws.{refused_same, frame_refusal}
use Rattle.in_force.proofs.BackLaws.{holds_step}
use Rattle.table_form.specs.Table.{part, put_part, prn_in, room_of}
use Rattle.table_form.proofs.PartLaws.{put_long, part_same, part_other, prn_same, prn_other}
use Rattle.table_right.specs.Calls.{Call, Frame, is_open, open_count, is_own, frames_for}
use Rattle.table_right.proofs.CountLaws.{many_same}
use Rattle.table_right.proofs.SoundLaws.{rooms, is_free, of_at, of_same, same_sound}
use Rattle.table_right.proofs.StepLaws.{After, and_yes, and_no, open_room, open_holds, still}

-- ---- a frame that is not 125 bytes with the right sync is refused, by any ledger
shell_refused : (foreign : Bool) (f : List ℕ) → eqb (length f) 125 && eqb (field_at f 0 16) 0xEB90 ≡ false → shell_refusal foreign f ≢ 0
unfolding shell_refusal
shell_refused foreign f h =
    go (eqb (length f) 125) (eqb (field_at f 0 16) 0xEB90) foreign (eqb (bit_at f 22) 1) (not (parity_ok f)) (not (check_ok f 28 462)) h
  where
    go : (a b c d e g : Bool) → a && b ≡ false → first ((1, not a) ∷ (3, not b) ∷ (4, c) ∷ (5, d) ∷ (6, e) ∷ (7, g) ∷ []) ≢ 0
    go true true c d e g q = absurd (true≢false q)
    go true false c d e g q = λ z. omega arith
    go false b c d e g q = λ z. omega arith

not_own : (s f : List ℕ) → is_own (prn_of f) f ≡ false → take_bytes s f ≡ s
unfolding is_own refusal_with
not_own s f h =
    let shut : eqb (length f) 125 && eqb (field_at f 0 16) 0xEB90 ≡ false = sym (and_yes _) ∙ ap (λ (b : Bool). eqb (length f) 125 && eqb (field_at f 0 16) 0xEB90 && b) (sym (eq-eqb (prn_of f) (prn_of f) refl)) ∙ h in
    let n = shell_refused (foreign_to (prn_at s) f) f shut in
    let e : refusal_with (foreign_to (prn_at s) f) f ≡ shell_refusal (foreign_to (prn_at s) f) f = leading (shell_refusal (foreign_to (prn_at s) f) f) (refusal_at f 28) n in
    let m : refusal_with (foreign_to (prn_at s) f) f ≢ 0 = λ z. n (sym e ∙ z) in
    refused_same s f (λ z. m (sym (frame_refusal s f m) ∙ z))

-- a frame of one PRN is none of another
own_other : (f : List ℕ) (q : ℕ) → prn_of f ≢ q → is_own q f ≡ false
unfolding is_own
own_other f q n = rw (ne_eqb (prn_of f) q n) (and_no (eqb (length f) 125 && eqb (field_at f 0 16) 0xEB90))

module _ (t : List ℕ) (h : List Call) (A : After t h) (f : List ℕ) where
  -- no ledger is open for its PRN
  pub after_stray : is_open h (prn_of f) ≡ false → After t (Frame f ∷ h)
  unfolding is_open frames_for
  after_stray n = still t h A (Frame f ∷ h) (λ q. refl) (λ q y. rw (own_other f q (λ z. true≢false (sym y ∙ ap (is_open h) (sym z) ∙ n))))

  module _ (yes : is_open h (prn_of f) ≡ true) where
    abbrev p : ℕ
    p = prn_of f

    at_room : room_of t p < 4
    at_room = open_room t h A p yes

    r : List ℕ
    r = take_bytes (part t (room_of t (prn_of f))) f

    holds : Holds r p (f ∷ frames_for h p)
    unfolding r
    holds = holds_step (part t (room_of t p)) p (frames_for h p) f (open_holds t h A p yes)

    u : List ℕ
    u = put_part t (room_of t (prn_of f)) r

    same : (j : ℕ) → prn_in u j ≡ prn_in t j
    unfolding u
    same j =
        dite (ℕ_discrete j (room_of t p))
        (λ e.
        ap (prn_in (put_part t (room_of t p) r)) e
        ∙ prn_same t A.sound.long (room_of t p) at_room r holds.long
        ∙ holds.own
        ∙ sym (of_at t p at_room).1
        ∙ ap (prn_in t) (sym e))
        (λ n. prn_other t A.sound.long (room_of t p) at_room r holds.long j n)

    room : (q : ℕ) → room_of u q ≡ room_of t q
    room q = of_same t u q (λ y j l. ap (λ (x : ℕ). eqb x q) (same j))

    own_frames : (s : List ℕ) → length s ≡ size → r ≡ run_bytes (fresh s p) (frames_for (Frame f ∷ h) p)
    unfolding r frames_for run_bytes
    own_frames s l = go (is_own p f) refl
      where
        go : (b : Bool) → is_own p f ≡ b → take_bytes (part t (room_of t p)) f ≡ run_bytes (fresh s p) (pick b (f ∷ frames_for h p) (frames_for h p))
        go true e = ap (λ (x : List ℕ). take_bytes x f) (A.bytes p yes s l)
        go false e = not_own (part t (room_of t p)) f e ∙ A.bytes p yes s l

    own_bytes : (s : List ℕ) → length s ≡ size → part u (room_of u p) ≡ run_bytes (fresh s p) (frames_for (Frame f ∷ h) p)
    unfolding u
    own_bytes s l = ap (part u) (room p) ∙ part_same t A.sound.long (room_of t p) at_room r holds.long ∙ own_frames s l

    other_bytes : (q : ℕ) → q ≢ p → is_open h q ≡ true → (s : List ℕ) → length s ≡ size → part u (room_of u q) ≡ run_bytes (fresh s q) (frames_for (Frame f ∷ h) q)
    unfolding u frames_for
    other_bytes q n y s l =
        let o = open_room t h A q y in
        rw (own_other f q (λ z. n (sym z)))
        (ap (part u) (room q)
        ∙ part_other t A.sound.long (room_of t p) at_room r holds.long (room_of t q) o (λ e. n (sym (of_at t q o).1 ∙ ap (prn_in t) e ∙ (of_at t p at_room).1))
        ∙ A.bytes q y s l)

    all_taken : After u (Frame f ∷ h)
    unfolding is_open u
    all_taken = record {
      sound = same_sound t u A.sound (put_long t A.sound.long (room_of t p) at_room r holds.long) same;
      opens = λ q. ap (λ (k : ℕ). ltb k 4) (room q) ∙ A.opens q;
      bytes = λ q y.
          dite (ℕ_discrete q p)
          (λ e. subst (λ (x : ℕ). (s : List ℕ) → length s ≡ size → part u (room_of u x) ≡ run_bytes (fresh s x) (frames_for (Frame f ∷ h) x)) (sym e) own_bytes)
          (λ n. other_bytes q n y);
      count = ap (λ (k : ℕ). open_count h + k) (many_same (is_free t) (is_free u) rooms (λ j. ap (λ (x : ℕ). eqb x 0) (same j))) ∙ A.count;
    }

    pub after_taken : After (put_part t (room_of t (prn_of f)) (take_bytes (part t (room_of t (prn_of f))) f)) (Frame f ∷ h)
    unfolding u r
    after_taken = all_taken
