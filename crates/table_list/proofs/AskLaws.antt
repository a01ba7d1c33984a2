-- A question's refusal by its cases, and the answers that follow it.
use mathlib.Core.Path.{◌≡◌, refl}
use mathlib.Core.Logic.{◌≢◌, dite}
use Prim.Native.Nat.{ℕ, ◌≤◌, ◌<◌}
use mathlib.Core.Bool.{Bool, true, false, not, ◌||◌}
use mathlib.Core.List.{List, [], ◌∷◌}
use lib.Dec.{eqb, ltb}
use lib.ListN.{length}
use native.Mathlib.Decide.{ℕ_discrete}
use native.Mathlib.Omega.{arith}
use borrow.Author.Tests.{eq-eqb, ne_eqb, lt-ltb, le-ltb}
use Rattle.bits.specs.Pick.{pick}
use Rattle.bits.specs.Some.{any_of, first}
use Rattle.broadcast.specs.Issues.{is_ill, issues_refusal}
use Rattle.verdict.specs.Verdict.{refused_by}
use Rattle.verdict.proofs.NumberLaws.{none_said, one_said}
use Rattle.table_form.specs.Table.{is_table, room_of, has_room}
use Rattle.table_list.specs.Questions.{asking_refusal, asking_slot_refusal}

module _ (t : List ℕ) (prn : ℕ) (is : List ℕ) where
  pub ask_39 : is_table t ≡ false → 39 ≡ asking_refusal t prn is
  unfolding asking_refusal
  ask_39 n = rw n

  module _ (y : is_table t ≡ true) where
    pub ask_issues : (why : ℕ) → why ≡ issues_refusal is → why ≢ 0 → why ≡ asking_refusal t prn is
    unfolding asking_refusal
    ask_issues why e n = rw (y, ← e, ne_eqb why 0 n)

    module _ (good : issues_refusal is ≡ 0) where
      pub ask_30 : 4 ≤ room_of t prn → 30 ≡ asking_refusal t prn is
      unfolding asking_refusal
      ask_30 n = rw (y, good, le-ltb _ _ n)

      pub ask_0 : room_of t prn < 4 → 0 ≡ asking_refusal t prn is
      unfolding asking_refusal
      ask_0 n = rw (y, good, lt-ltb _ _ n)

  -- where nothing refuses the question, the issues are right
  pub asked_issues : asking_refusal t prn is ≡ 0 → issues_refusal is ≡ 0
  unfolding asking_refusal
  asked_issues e = dite (ℕ_discrete (issues_refusal is) 0) (λ z. z) (λ z. absurd (go (not (is_table t)) (issues_refusal is) (not (has_room t prn)) z e))
    where
      go : (a : Bool) (n : ℕ) (b : Bool) → n ≢ 0 → first ((39, a) ∷ (n, not (eqb n 0)) ∷ (30, b) ∷ []) ≡ 0 → ⊥
      go true n b z h = omega arith
      go false n b z h = z (rw (ne_eqb n 0 z) at h)

module _ (t : List ℕ) (prn : ℕ) (is : List ℕ) (slot : ℕ) where
  pub slot_39 : is_table t ≡ false → 39 ≡ asking_slot_refusal t prn is slot
  unfolding asking_slot_refusal
  slot_39 n = rw n

  module _ (y : is_table t ≡ true) where
    pub slot_1 : length is ≢ 255 → 1 ≡ asking_slot_refusal t prn is slot
    unfolding asking_slot_refusal
    slot_1 n = rw (y, ne_eqb _ _ n)

    module _ (long : length is ≡ 255) where
      pub slot_11 : eqb slot 0 || ltb 255 slot ≡ true → 11 ≡ asking_slot_refusal t prn is slot
      unfolding asking_slot_refusal
      slot_11 b = rw (y, eq-eqb _ _ long, b)

      -- what is left is that of a question for no slot
      pub slot_rest : eqb slot 0 || ltb 255 slot ≡ false → asking_refusal t prn is ≡ asking_slot_refusal t prn is slot
      unfolding asking_slot_refusal asking_refusal issues_refusal
      slot_rest b = rw (y, eq-eqb _ _ long, b) (go (any_of is_ill is) (not (has_room t prn)))
        where
          go : (ill shut : Bool) → first ((first ((17, ill) ∷ []), not (eqb (first ((17, ill) ∷ [])) 0)) ∷ (30, shut) ∷ []) ≡ first ((17, ill) ∷ (30, shut) ∷ [])
          go true shut = refl
          go false shut = refl

-- a refusal is given alone
pub alone : {A : Type 0} (f : ℕ → A) (x : A) (why n : ℕ) → why ∷ [] ≡ refused_by n → f why ≡ pick (eqb n 0) x (f n)
alone f x why n e = let k = one_said why n e in rw (k.0, ne_eqb n 0 k.1)

-- or what the PRN's ledger answers
pub answered : {A : Type 0} (y x : A) (n : ℕ) → [] ≡ refused_by n → (z : A) → z ≡ x → z ≡ pick (eqb n 0) x y
answered y x n e z q = rw (none_said n e) q
