-- Laws of what is said of a frame: its number, and which numbers a frame has by itself.
use mathlib.Core.Path.{◌≡◌, sym, ap, ◌∙◌}
use mathlib.Core.Logic.{◌≢◌, dite}
use mathlib.Core.Bool.{Bool, not, ◌||◌}
use mathlib.Core.List.{List, [], ◌∷◌}
use Prim.Native.Nat.{ℕ, ◌≤◌}
use lib.Dec.{eqb}
use lib.ListN.{length}
use native.Mathlib.Decide.{ℕ_discrete}
use native.Mathlib.Omega.{arith}
use borrow.Author.Tests.{eq-eqb, ne_eqb}
use Rattle.bits.specs.Bits.{bit_at, field_at}
use Rattle.check24.specs.Check.{check_ok}
use Rattle.parity.specs.Parity.{parity_ok}
use Rattle.contents.specs.declared.parts.Contents.{Contents}
use Rattle.layout.proofs.LayoutLaws.{pick_all}
use Rattle.bits.specs.Some.{any_of, first}
use Rattle.contents.specs.Parts.{contents_at, end_at}
use Rattle.judge.specs.Judge.{is_kind, too_long, late, is_high, is_again, sat_slots, high_slot, twice, refusal_of, refusal_at}
use Rattle.verdict.specs.Verdict.{says, number_in, refused_by}
use Rattle.message.specs.Read.{reading_says, answer, read_at}
use Rattle.verdict.specs.declared.Refusal.{Refusal}
use Rattle.verdict.proofs.NumberLaws.{number_back, some_said}
use Rattle.std.specs.Prelude.{Result, Err}
use Rattle.frame.specs.Frame.{shell_refusal, refusal_with, frame_says, read_with}
use Rattle.frame.proofs.FrameLaws.{leading, second}

-- a number other than 6 is told alone
pub told_alone : (f : List ℕ) (n : ℕ) → n ≢ 6 → frame_says f n ≡ refused_by n
unfolding frame_says
told_alone f n e = rw (ne_eqb n 6 e)

-- the number in what is said of a number is that number
pub frame_number : (f : List ℕ) (n : ℕ) → number_in (frame_says f n) ≡ n
unfolding frame_says
frame_number f n = dite (ℕ_discrete n 6) (λ e. rw (eq-eqb n 6 e) (sym e)) (λ e. rw (ne_eqb n 6 e) (number_back n))

-- and where it is 0, nothing is said
pub frame_quiet : (f : List ℕ) (n : ℕ) → number_in (frame_says f n) ≡ 0 → frame_says f n ≡ []
unfolding frame_says
frame_quiet f n e = ap (frame_says f) (sym (frame_number f n) ∙ e)

-- a number of which nothing is said is 0
pub frame_none : (f : List ℕ) (n : ℕ) → [] ≡ frame_says f n → n ≡ 0
frame_none f n e = sym (frame_number f n) ∙ ap number_in (sym e)

-- and one of which a refusal is said is not
pub frame_some : (f : List ℕ) (n : ℕ) (r : Refusal) → says (Err r) ≡ frame_says f n → n ≢ 0
unfolding frame_says
frame_some f n r e z = some_said r (sym (e ∙ ap (frame_says f) z))

-- what holds of 0 and of each of five numbers holds of the first that is given
among : (P : ℕ → Type 0) (a b c d e : ℕ) → P 0 → P a → P b → P c → P d → P e → (p q r s t : Bool) → P (first ((a, p) ∷ (b, q) ∷ (c, r) ∷ (d, s) ∷ (e, t) ∷ []))
among P a b c d e z pa pb pc pd pe p q r s t =
    let g5 = pick_all P t e 0 pe z in
    let g4 = pick_all P s d _ pd g5 in
    let g3 = pick_all P r c _ pc g4 in
    pick_all P p a _ pa (pick_all P q b _ pb g3)

-- a number that is none of 0 and 8 to 12 is not given to contents
contents_none : (n : ℕ) → n ≢ 0 → ((k : ℕ) → 8 ≤ k → k ≤ 12 → k ≢ n) → (end : ℕ) (c : Contents) → refusal_of end c ≢ n
unfolding refusal_of
contents_none n z far end c =
    among (λ (x : ℕ). x ≢ n) 8 9 10 11 12 (λ e. z (sym e))
    (far 8 (omega arith) (omega arith))
    (far 9 (omega arith) (omega arith))
    (far 10 (omega arith) (omega arith))
    (far 11 (omega arith) (omega arith))
    (far 12 (omega arith) (omega arith))
    (not (is_kind c.kind))
    (too_long end)
    (late c)
    (high_slot c.kind c.clock c.orbit || any_of is_high (sat_slots c.bias.sats))
    (twice c.clock c.orbit || any_of is_again (sat_slots c.bias.sats))

-- a message is not refused 6
pub contents_not_6 : (s : List ℕ) (at : ℕ) → refusal_at s at ≢ 6
unfolding refusal_at
contents_not_6 s at = contents_none 6 (omega arith) (λ k l h. omega arith) (end_at s at) (contents_at s at)

contents_not_19 : (s : List ℕ) (at : ℕ) → refusal_at s at ≢ 19
unfolding refusal_at
contents_not_19 s at = contents_none 19 (omega arith) (λ k l h. omega arith) (end_at s at) (contents_at s at)

shell_not_19 : (foreign : Bool) (f : List ℕ) → shell_refusal foreign f ≢ 19
unfolding shell_refusal
shell_not_19 foreign f =
    pick_all (λ (n : ℕ). n ≢ 19) (not (eqb (length f) 125)) 1 _ (omega arith)
    (among (λ (x : ℕ). x ≢ 19) 3 4 5 6 7 (omega arith) (omega arith) (omega arith) (omega arith) (omega arith) (omega arith)
    (not (eqb (field_at f 0 16) 0xEB90))
    foreign
    (eqb (bit_at f 22) 1)
    (not (parity_ok f))
    (not (check_ok f 28 462)))

-- 19 is no number of a frame by itself
pub frame_not_19 : (foreign : Bool) (f : List ℕ) → refusal_with foreign f ≢ 19
unfolding refusal_with
frame_not_19 foreign f =
    let shell = shell_refusal foreign f in
    let inner = refusal_at f 28 in
    let rest = pick_all (λ (n : ℕ). n ≢ 19) (not (eqb inner 0)) inner 0 (contents_not_19 f 28) (omega arith) in
    pick_all (λ (n : ℕ). n ≢ 19) (not (eqb shell 0)) shell _ (shell_not_19 foreign f) rest

-- ---- the two ways that reading a frame goes
module _ (foreign : Bool) (f : List ℕ) where
  -- the frame around its message is refused
  pub way_shut : (r : Refusal) → says (Err r) ≡ frame_says f (shell_refusal foreign f) → reading_says (Err r) ≡ read_with foreign f
  unfolding read_with refusal_with
  way_shut r e =
      let q = shell_refusal foreign f in
      let some : q ≢ 0 = frame_some f q r e in
      rw (leading q (refusal_at f 28) some, ne_eqb q 0 some, e)

  -- it is not, and its contents are judged
  pub way_open : (r : Result Contents Refusal) → [] ≡ frame_says f (shell_refusal foreign f) → reading_says r ≡ read_at f 28 → reading_says r ≡ read_with foreign f
  unfolding read_with refusal_with answer
  way_open r e a =
      let q = refusal_at f 28 in
      a ∙ rw (second (shell_refusal foreign f) q (frame_none f _ e), told_alone f q (contents_not_6 f 28))
