-- The ways that taking a frame goes, by what its steps answered.
use mathlib.Core.Path.{◌≡◌, refl, sym, ap, ◌∙◌}
use mathlib.Core.Logic.{◌≢◌}
use mathlib.Core.Bool.{Bool, true, false}
use mathlib.Core.List.{List, [], ◌∷◌}
use Prim.Native.Nat.{ℕ}
use native.Mathlib.Omega.{arith}
use Rattle.std.specs.Prelude.{Err}
use Rattle.bits.specs.Pick.{pick}
use Rattle.judge.specs.Judge.{refusal_at}
use Rattle.verdict.specs.Verdict.{says, number_in, refused_by}
use Rattle.verdict.specs.declared.Refusal.{Refusal}
use Rattle.verdict.proofs.NumberLaws.{some_said, one_said, none_said}
use Rattle.frame.specs.Frame.{is_prn, contents_of, foreign_to, shell_refusal, shell_for}
use Rattle.frame.proofs.VerdictLaws.{frame_none, frame_some, frame_number}
use Rattle.held_mask.specs.Mask.{HeldMask, mask_at}
use Rattle.places.specs.Keeps.{mask_refusal, place_says}
use Rattle.in_force.specs.Bytes.{prn_at, taken_bytes, take_says, take_bytes}
use Rattle.in_force.proofs.RefusalLaws.{place_number, plain_says, way_shut, way_judged, way_refused, way_free, way_taken}
use Rattle.ledger.specs.Open.{open_refusal}

-- a refusal of what comes by place has a number above 0
place_some : (m : HeldMask) (n : ℕ) (r : Refusal) → says (Err r) ≡ place_says m n → number_in (says (Err r)) ≢ 0
unfolding place_says
place_some m n r e z = some_said r (sym (e ∙ ap (place_says m) (sym (place_number m n) ∙ ap number_in (sym e) ∙ z)))

-- a ledger is opened for a PRN of the ten
pub opened_ten : (prn : ℕ) → [] ≡ refused_by (open_refusal prn) → is_prn prn ≡ true
opened_ten prn e = go (is_prn prn) (none_said _ e)
  where
    go : (b : Bool) → pick {A = ℕ} b 0 4 ≡ 0 → b ≡ true
    go true z = refl
    go false z = absurd (omega arith)

-- and for no other
pub refused_other : (prn : ℕ) (r : Refusal) → says (Err r) ≡ refused_by (open_refusal prn) → is_prn prn ≡ false
refused_other prn r e = go (is_prn prn) (λ z. some_said r (sym (e ∙ ap refused_by z)))
  where
    go : (b : Bool) → pick {A = ℕ} b 0 4 ≢ 0 → b ≡ false
    go true n = absurd (n refl)
    go false n = refl

module _ (s f : List ℕ) where
  -- the frame around its message is refused
  pub shell_bad : (r : Refusal) → says (Err r) ≡ shell_for (prn_at s) f → (says (Err r) ≡ take_says s f) × (s ≡ take_bytes s f)
  shell_bad r e =
      let q = shell_refusal (foreign_to (prn_at s) f) f in
      way_shut s f _ e (λ z. frame_some f q r e (sym (frame_number f q) ∙ ap number_in (sym e) ∙ z))

  -- it is not
  pub shell_good : [] ≡ shell_for (prn_at s) f → shell_refusal (foreign_to (prn_at s) f) f ≡ 0
  shell_good e = frame_none f _ e

  module _ (sound : shell_refusal (foreign_to (prn_at s) f) f ≡ 0) (n : ℕ) (judged : n ≡ refusal_at f 28) where
    -- its contents are refused
    pub judged_bad : (k : ℕ) → k ∷ [] ≡ refused_by n → (k ∷ [] ≡ take_says s f) × (s ≡ take_bytes s f)
    judged_bad k e =
        let w = one_said k n e in
        let both = way_judged s f sound n judged w.1 in
        (ap (λ (x : ℕ). x ∷ []) w.0 ∙ both.0, both.1)

    module _ (good : [] ≡ refused_by n) where
      -- they are not, and need no mask
      pub judged_free : mask_refusal (mask_at s) (contents_of f) ≡ 0 → (t : List ℕ) → t ≡ taken_bytes s (contents_of f) → ([] ≡ take_says s f) × (t ≡ take_bytes s f)
      judged_free free t b = way_free s f sound n judged (none_said n good) free t b

      -- a number of the mask is all that is said
      pub code_bad : (p k : ℕ) → p ≡ mask_refusal (mask_at s) (contents_of f) → p ≢ 19 → k ∷ [] ≡ refused_by p → (k ∷ [] ≡ take_says s f) × (s ≡ take_bytes s f)
      code_bad p k e alone h =
          let w = one_said k p h in
          let said = ap (λ (x : ℕ). x ∷ []) w.0 ∙ plain_says (mask_at s) p w.1 alone ∙ ap (place_says (mask_at s)) e in
          way_refused s f sound n judged (none_said n good) _ said (λ z. w.1 (sym w.0 ∙ z))

      -- what comes by place is refused
      pub place_bad : (r : Refusal) → says (Err r) ≡ place_says (mask_at s) (mask_refusal (mask_at s) (contents_of f)) → (says (Err r) ≡ take_says s f) × (s ≡ take_bytes s f)
      place_bad r e = way_refused s f sound n judged (none_said n good) _ e (place_some (mask_at s) _ r e)

      -- it is not: the contents are taken
      pub place_good : [] ≡ place_says (mask_at s) (mask_refusal (mask_at s) (contents_of f)) → (t : List ℕ) → t ≡ taken_bytes s (contents_of f) → ([] ≡ take_says s f) × (t ≡ take_bytes s f)
      place_good e t b = way_taken s f sound n judged (none_said n good) [] e refl t b
