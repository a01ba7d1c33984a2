-- The next piece by the table's answer to the next 125 bytes.
use mathlib.Core.Path.{◌≡◌, refl, sym, ◌∙◌}
use mathlib.Core.Logic.{◌≢◌}
use mathlib.Core.Bool.{Bool, true, false, true≢false, ◌&&◌, ◌||◌}
use mathlib.Core.List.{List}
use Prim.Native.Nat.{ℕ, ◌≤◌, ◌<◌}
use native.Mathlib.Omega.{arith}
use borrow.Author.Tests.{eq-eqb, lt-ltb, le-ltb}
use lib.Dec.{eqb, ltb}
use lib.ListN.{length, take}
use lib.Seq.{length-take-le}
use Rattle.bits.specs.Pick.{pick}
use Rattle.bits.specs.Bits.{bit_at, field_at}
use Rattle.verdict.specs.Verdict.{number_in}
use Rattle.verdict.proofs.NumberLaws.{number_back}
use Rattle.parity.specs.Parity.{parity_ok}
use Rattle.frame.specs.Frame.{prn_of, foreign_to, shell_refusal, refusal_with}
use Rattle.frame.proofs.FrameLaws.{leading}
use Rattle.judge.specs.Judge.{refusal_at}
use Rattle.held_mask.specs.Mask.{mask_at}
use Rattle.in_force.specs.Bytes.{prn_at, take_refusal}
use Rattle.in_force.proofs.RefusalLaws.{frame_refusal, under_number}
use Rattle.pieces.specs.Pieces.{is_frame, stands_at, piece_length}
use Rattle.pieces.proofs.PieceLaws.{at_start, piece_rest}
use Rattle.table_form.specs.Table.{part, is_table, room_of, has_room}
use Rattle.table.specs.Calls.{taking_says, taking_bytes}
use Rattle.table.proofs.KeptLaws.{take_kept}

-- ---- 125 bytes that are no frame are answered 3 to 6
module _ (f : List ℕ) (long : length f ≡ 125) where
  no_sync : (foreign : Bool) → eqb (field_at f 0 16) 0xEB90 ≡ false → shell_refusal foreign f ≡ 3
  unfolding shell_refusal
  no_sync foreign e = rw (eq-eqb (length f) 125 long, e)

  no_parity : (foreign : Bool) → eqb (field_at f 0 16) 0xEB90 ≡ true → parity_ok f ≡ false →
      shell_refusal foreign f ≡ pick foreign 4 (pick (eqb (bit_at f 22) 1) 5 6)
  unfolding shell_refusal
  no_parity foreign e p = rw (eq-eqb (length f) 125 long, e, p)

  four_to_six : (a b : Bool) → (4 ≤ pick {A = ℕ} a 4 (pick b 5 6)) × (pick {A = ℕ} a 4 (pick b 5 6) ≤ 6)
  four_to_six true b = (omega arith, omega arith)
  four_to_six false true = (omega arith, omega arith)
  four_to_six false false = (omega arith, omega arith)

  -- so where the shell is not, they are a frame
  shell_frame : (foreign : Bool) → (3 ≤ shell_refusal foreign f → shell_refusal foreign f ≤ 6 → ⊥) → is_frame f ≡ true
  unfolding is_frame
  shell_frame foreign never = go (eqb (field_at f 0 16) 0xEB90) (parity_ok f) refl refl
    where
      go : (a b : Bool) → eqb (field_at f 0 16) 0xEB90 ≡ a → parity_ok f ≡ b → is_frame f ≡ true
      go false b e p = absurd (let z = no_sync foreign e in never (omega arith) (omega arith))
      go true false e p =
          absurd (let z = no_parity foreign e p in let w = four_to_six foreign (eqb (bit_at f 22) 1) in never (omega arith) (omega arith))
      go true true e p = rw (eq-eqb (length f) 125 long, e, p)

  -- by a ledger's answer: what is wrong with the shell is what it answers
  by_shell : (t : List ℕ) → shell_refusal (foreign_to (prn_at t) f) f ≢ 0 → take_refusal t f ≡ shell_refusal (foreign_to (prn_at t) f) f
  unfolding refusal_with
  by_shell t n =
      let same = leading (shell_refusal (foreign_to (prn_at t) f) f) (refusal_at f 28) n in
      frame_refusal t f (λ z. n (sym same ∙ z)) ∙ same

  ledger_frame : (t : List ℕ) → (3 ≤ take_refusal t f → take_refusal t f ≤ 6 → ⊥) → is_frame f ≡ true
  ledger_frame t never =
      shell_frame (foreign_to (prn_at t) f)
      (λ l u. never (omega (arith, by_shell t (λ z. omega arith))) (omega (arith, by_shell t (λ z. omega arith))))

-- ---- a table's answer
module _ (t f : List ℕ) where
  -- bytes that are no table
  says_39 : is_table t ≡ false → number_in (taking_says t f) ≡ 39
  unfolding taking_says
  says_39 n = rw n

  module _ (y : is_table t ≡ true) where
    says_own : has_room t (prn_of f) ≡ true → number_in (taking_says t f) ≡ take_refusal (part t (room_of t (prn_of f))) f
    unfolding taking_says
    says_own o = let u = part t (room_of t (prn_of f)) in rw (y, o) (under_number (mask_at u) f (take_refusal u f))

    says_stray : has_room t (prn_of f) ≡ false → number_in (taking_says t f) ≡ shell_refusal true f
    unfolding taking_says
    says_stray o = rw (y, o) (number_back (shell_refusal true f))

  -- an answer to 125 bytes that is neither 3 to 6 nor 39 says that they are a frame
  pub found : length f ≡ 125 → (n : ℕ) → n ≡ number_in (taking_says t f) → ltb n 3 || (ltb 6 n && ltb n 39) ≡ true → is_frame f ≡ true
  found long n e h = go (is_table t) (has_room t (prn_of f)) refl refl
    where
      near : 3 ≤ n → n ≤ 6 → ⊥
      near l u = true≢false (sym h ∙ rw (le-ltb n 3 l, le-ltb 6 n u))

      far : n ≡ 39 → ⊥
      far z = true≢false (sym h ∙ rw (le-ltb n 3 (omega arith), lt-ltb 6 n (omega arith), le-ltb n 39 (omega arith)))

      go : (a b : Bool) → is_table t ≡ a → has_room t (prn_of f) ≡ b → is_frame f ≡ true
      go false b y o = absurd (far (e ∙ says_39 y))
      go true true y o = ledger_frame f long (part t (room_of t (prn_of f))) (λ l u. near (omega (arith, e, says_own y o)) (omega (arith, e, says_own y o)))
      go true false y o = shell_frame f long true (λ l u. near (omega (arith, e, says_stray y o)) (omega (arith, e, says_stray y o)))

-- ---- a step
module _ (t s : List ℕ) where
  -- fewer than 125 bytes are one piece
  pub step_rest : length s < 125 → length s ≡ piece_length s
  step_rest h = sym (piece_rest s h)

  module _ (h : 125 ≤ length s) (n : ℕ) (e : n ≡ number_in (taking_says t (take 125 s))) where
    at_front : ltb n 3 || (ltb 6 n && ltb n 39) ≡ true → piece_length s ≡ 125
    unfolding stands_at
    at_front b = at_start s (found t (take 125 s) (length-take-le 125 s h) n e b)

    -- the length by the answer is the length of the piece
    pub length_right : pick (ltb n 3 || (ltb 6 n && ltb n 39)) 125 (piece_length s) ≡ piece_length s
    length_right = go (ltb n 3 || (ltb 6 n && ltb n 39)) refl
      where
        go : (b : Bool) → ltb n 3 || (ltb 6 n && ltb n 39) ≡ b → pick b 125 (piece_length s) ≡ piece_length s
        go true q = sym (at_front q)
        go false q = refl

    -- where the piece is another, the 125 bytes were refused
    pub step_other : piece_length s ≢ 125 → taking_bytes t (take 125 s) ≡ t
    step_other m = take_kept t (take 125 s) (λ z. m (at_front (rw (e ∙ z))))
