-- A frame is taken whole or refused whole.
use mathlib.Core.Path.{◌≡◌, sym, ap, ◌∙◌}
use mathlib.Core.Logic.{◌≢◌, dite}
use Prim.Native.Nat.{ℕ}
use mathlib.Core.List.{List, [], ◌∷◌}
use native.Mathlib.Decide.{ℕ_discrete}
use native.Mathlib.Omega.{arith}
use borrow.Author.Tests.{eq-eqb, ne_eqb}
use Rattle.judge.specs.Judge.{refusal_at}
use Rattle.verdict.specs.Verdict.{number_in, refused_by}
use Rattle.verdict.proofs.NumberLaws.{number_back}
use Rattle.frame.specs.Frame.{contents_of, foreign_to, shell_refusal, refusal_with, frame_says, shell_for}
use Rattle.frame.proofs.FrameLaws.{leading, second}
use Rattle.frame.proofs.VerdictLaws.{told_alone, frame_number, contents_not_6, frame_not_19}
use Rattle.held_orbits.specs.Orbits.{held_orbits_at}
use Rattle.held_mask.specs.Mask.{HeldMask, mask_at}
use Rattle.places.specs.Keeps.{mask_refusal, place_says, refusal_under, says_under}
use Rattle.in_force.specs.Bytes.{prn_at, taken_bytes, take_refusal, take_says, take_bytes}
use Rattle.places.proofs.KeepLaws.{refusal_own}

module _ (s f : List ℕ) where
  -- a refusal leaves every byte as it was
  pub refused_same : take_refusal s f ≢ 0 → take_bytes s f ≡ s
  unfolding take_bytes
  refused_same n = rw (ne_eqb (take_refusal s f) 0 n)

  pub taken_whole : take_refusal s f ≡ 0 → take_bytes s f ≡ taken_bytes s (contents_of f)
  unfolding take_bytes
  taken_whole e = rw (eq-eqb (take_refusal s f) 0 e)

  -- what is wrong with the frame by itself is what the ledger answers
  pub frame_refusal : refusal_with (foreign_to (prn_at s) f) f ≢ 0 → take_refusal s f ≡ refusal_with (foreign_to (prn_at s) f) f
  unfolding refusal_under
  frame_refusal n = leading (refusal_with (foreign_to (prn_at s) f) f) (mask_refusal (mask_at s) (contents_of f)) n

  -- where nothing is, it answers 14, 15 or 19 of the clock part, or of a type 5
  pub clock_refusal : refusal_with (foreign_to (prn_at s) f) f ≡ 0 → take_refusal s f ≡ mask_refusal (mask_at s) (contents_of f)
  unfolding refusal_under
  clock_refusal e = second (refusal_with (foreign_to (prn_at s) f) f) (mask_refusal (mask_at s) (contents_of f)) e

  -- and then the orbit part of a type 6 is not taken either
  pub orbits_refused : refusal_with (foreign_to (prn_at s) f) f ≡ 0 → mask_refusal (mask_at s) (contents_of f) ≢ 0 → held_orbits_at (take_bytes s f) ≡ held_orbits_at s
  orbits_refused e n = ap held_orbits_at (refused_same (λ z. n (rw (clock_refusal e) at z)))

-- ---- what is said of a number, and the number in it
-- of what comes by place
pub place_number : (m : HeldMask) (n : ℕ) → number_in (place_says m n) ≡ n
unfolding place_says
place_number m n = dite (ℕ_discrete n 19) (λ e. rw (eq-eqb n 19 e) (sym e)) (λ e. rw (ne_eqb n 19 e) (number_back n))

-- a number that gives no more than itself
pub plain_says : (m : HeldMask) (n : ℕ) → n ≢ 0 → n ≢ 19 → n ∷ [] ≡ place_says m n
unfolding place_says
plain_says m n z e = rw (ne_eqb n 19 e, ne_eqb n 0 z)

-- what is said of a number that reading the frame gives, whatever the mask
pub under_frame : (m : HeldMask) (f : List ℕ) (n : ℕ) → n ≢ 19 → says_under m f n ≡ frame_says f n
unfolding says_under place_says
under_frame m f n e =
    dite (ℕ_discrete n 6)
    (λ six. rw (eq-eqb n 6 six))
    (λ other. rw (ne_eqb n 6 other, ne_eqb n 19 e) (sym (told_alone f n other)))

-- what is said of a number that the mask gives, whatever the frame
pub under_mask : (m : HeldMask) (f : List ℕ) (n : ℕ) → n ≢ 6 → says_under m f n ≡ place_says m n
unfolding says_under
under_mask m f n e = rw (ne_eqb n 6 e)

-- 01's number is the one in what is said
pub under_number : (m : HeldMask) (f : List ℕ) (n : ℕ) → number_in (says_under m f n) ≡ n
under_number m f n =
    dite (ℕ_discrete n 6)
    (λ six. ap number_in (under_frame m f n (λ e. let z : ◌≡◌ {A = ℕ} 6 19 = sym six ∙ e in omega arith)) ∙ frame_number f n)
    (λ other. ap number_in (under_mask m f n other) ∙ place_number m n)

-- ---- the ways that taking a frame goes
module _ (s f : List ℕ) where
  shell : ℕ
  shell = shell_refusal (foreign_to (prn_at s) f) f

  -- what is said of a frame that is wrong by itself is what the ledger says
  frame_said : refusal_with (foreign_to (prn_at s) f) f ≢ 0 → (frame_says f (refusal_with (foreign_to (prn_at s) f) f) ≡ take_says s f) × (s ≡ take_bytes s f)
  frame_said z =
      let q = refusal_with (foreign_to (prn_at s) f) f in
      let same = frame_refusal s f z in (
        sym (under_frame (mask_at s) f q (frame_not_19 (foreign_to (prn_at s) f) f)) ∙ ap (says_under (mask_at s) f) (sym same),
        sym (refused_same s f (λ y. z (sym same ∙ y))),
      )

  -- the frame around its message is refused
  pub way_shut : (v : List ℕ) → v ≡ shell_for (prn_at s) f → number_in v ≢ 0 → (v ≡ take_says s f) × (s ≡ take_bytes s f)
  unfolding refusal_with shell
  way_shut v e n =
      let some : shell ≢ 0 = λ a. n (ap number_in e ∙ frame_number f shell ∙ a) in
      let same = leading shell (refusal_at f 28) some in
      let w = frame_said (λ y. some (sym same ∙ y)) in
      (e ∙ ap (frame_says f) (sym same) ∙ w.0, w.1)

  -- it is not
  pub way_open : (v : List ℕ) → v ≡ shell_for (prn_at s) f → number_in v ≡ 0 → shell_refusal (foreign_to (prn_at s) f) f ≡ 0
  way_open v e n = sym (frame_number f (shell_refusal (foreign_to (prn_at s) f) f)) ∙ ap number_in (sym e) ∙ n

  module _ (sound : shell_refusal (foreign_to (prn_at s) f) f ≡ 0) (n : ℕ) (judged : n ≡ refusal_at f 28) where
    frame_judged : refusal_with (foreign_to (prn_at s) f) f ≡ n
    unfolding refusal_with
    frame_judged = second (shell_refusal (foreign_to (prn_at s) f) f) (refusal_at f 28) sound ∙ sym judged

    -- its contents are refused
    pub way_judged : n ≢ 0 → (n ∷ [] ≡ take_says s f) × (s ≡ take_bytes s f)
    way_judged z =
        let w = frame_said (λ y. z (sym frame_judged ∙ y)) in
        let alone : refused_by n ≡ n ∷ [] = rw (ne_eqb n 0 z) in
        (sym alone ∙ sym (told_alone f n (λ six. contents_not_6 f 28 (sym judged ∙ six))) ∙ ap (frame_says f) (sym frame_judged) ∙ w.0, w.1)

    -- they are not: what the mask says is what the ledger answers
    good : n ≡ 0 → take_refusal s f ≡ mask_refusal (mask_at s) (contents_of f)
    good z = clock_refusal s f (frame_judged ∙ z)

    -- contents that need no mask are taken
    pub way_free : n ≡ 0 → mask_refusal (mask_at s) (contents_of f) ≡ 0 → (t : List ℕ) → t ≡ taken_bytes s (contents_of f) → ([] ≡ take_says s f) × (t ≡ take_bytes s f)
    unfolding place_says says_under
    way_free z free t b =
        let none = good z ∙ free in
        (ap (says_under (mask_at s) f) (sym none), b ∙ sym (taken_whole s f none))

    module _ (z : n ≡ 0) (p : List ℕ) (q : p ≡ place_says (mask_at s) (mask_refusal (mask_at s) (contents_of f))) where
      number_placed : number_in p ≡ mask_refusal (mask_at s) (contents_of f)
      number_placed = ap number_in q ∙ place_number (mask_at s) (mask_refusal (mask_at s) (contents_of f))

      told : p ≡ take_says s f
      told =
          q
          ∙ sym (under_mask (mask_at s) f (mask_refusal (mask_at s) (contents_of f)) (refusal_own (mask_at s) (contents_of f)))
          ∙ ap (says_under (mask_at s) f) (sym (good z))

      -- what comes by place is refused
      pub way_refused : number_in p ≢ 0 → (p ≡ take_says s f) × (s ≡ take_bytes s f)
      way_refused y = (told, sym (refused_same s f (λ x. y (number_placed ∙ sym (good z) ∙ x))))

      -- it is not: the contents are taken
      pub way_taken : number_in p ≡ 0 → (t : List ℕ) → t ≡ taken_bytes s (contents_of f) → ([] ≡ take_says s f) × (t ≡ take_bytes s f)
      unfolding place_says
      way_taken y t b =
          let free : mask_refusal (mask_at s) (contents_of f) ≡ 0 = sym number_placed ∙ y in
          let taken : p ≡ [] = q ∙ ap (place_says (mask_at s)) free in
          (sym taken ∙ told, b ∙ sym (taken_whole s f (good z ∙ free)))
