-- The rows of a sheet without an offending row are ours, none twice: our list has them, and those that are left out.
use Prim.Native.Nat.{ℕ, zero, suc, ◌+◌, ◌≤◌, ◌<◌}
use mathlib.Core.Path.{◌≡◌, refl, sym, ap, ◌∙◌}
use mathlib.Core.Logic.{dite, ◌≢◌}
use mathlib.Core.Bool.{Bool, true, false, ◌||◌}
use mathlib.Core.List.{List, [], ◌∷◌}
use mathlib.Core.Option.{Option, none, some}
use native.Mathlib.Decide.{ℕ_discrete, dec_lt}
use native.Mathlib.Omega.{arith}
use borrow.Author.Tests.{eq-eqb, ne_eqb, lt-leb, le-leb}
use lib.Dec.{eqb}
use lib.ListN.{length, length-append}
use Rattle.bits.specs.Pick.{pick}
use Rattle.lookback.specs.Walk.{to_list, rows_from}
use Rattle.lookback.proofs.WalkLaws.{rows_ext, rows_same}
use Rattle.row.specs.Row.{row_of, qualifies, is_assigned}
use Rattle.row.specs.declared.Row.{Row}
use Rattle.list.specs.Rows.{row_in, list_in}
use Rattle.sheet_form.specs.Reading.{rows_said_from}
use Rattle.sheet_checking.specs.Same.{same_numbers}
use Rattle.sheet_checking.specs.Checking.{names, row_refusal, row_refusal_after, offence_from, offence, left_at, left_out}
use Rattle.sheet_checking.proofs.CheckLaws.{names_cons, names_none}

-- as many rows are said as were asked for
pub length_said : (t : List ℕ) (n at : ℕ) → length (rows_said_from t n at) ≡ n
unfolding rows_said_from
length_said t zero at = refl
length_said t (suc n) at = ap suc (length_said t n (at + 24))

-- one slot less has a row
module _ {A : Type 0} (f g : ℕ → Option A) (at : ℕ) (r : A) (there : f at ≡ some r) (gone : g at ≡ none) (same : (j : ℕ) → j ≢ at → g j ≡ f j) where
  -- the slots above it have the same rows
  rows_after : (n s : ℕ) → at < s → rows_from g n s ≡ rows_from f n s
  rows_after n s h = rows_ext g f n s (λ j p q. same j (λ e. omega arith))

  -- so there is one row less
  rows_less : (n s : ℕ) → s ≤ at → at < s + n → length (rows_from f n s) ≡ 1 + length (rows_from g n s)
  unfolding rows_from
  rows_less zero s p q = absurd (let z : ⊥ = omega arith in z)
  rows_less (suc n) s p q =
      dite (ℕ_discrete s at)
      (λ e. rw (ap f e ∙ there, ap g e ∙ gone, rows_after n (s + 1) (omega arith)) (omega arith))
      (λ e.
      omega (
        arith,
        length-append (to_list (f s)) (rows_from f n (s + 1)),
        length-append (to_list (g s)) (rows_from g n (s + 1)),
        ap (λ (o : Option A). length (to_list o)) (same s e),
        rows_less n (s + 1) (omega arith) (omega arith),
      ))

-- rows put onto the earlier ones, the last on top
abbrev onto : List Row → List Row → List Row
onto [] earlier = earlier
onto (r ∷ rs) earlier = onto rs (r ∷ earlier)

-- a row that is not refused: our row of its slot has its numbers, and no earlier row has its slot
pub record Passed (s is : List ℕ) (earlier : List Row) (r : Row) : Type 0 where
  pub ours : Row
  pub found : row_in s is r.slot.0 ≡ some ours
  pub equal : same_numbers r ours ≡ true
  pub fresh : names earlier r.slot.0 ≡ false

module _ (s is : List ℕ) where
  -- what a row that is not refused has
  pub passed : (earlier : List Row) (r : Row) → row_refusal_after s is earlier r ≡ 0 → Passed s is earlier r
  unfolding row_refusal
  passed earlier r e = go (row_in s is r.slot.0) (names earlier r.slot.0) refl refl e
    where
      again : (ours : Row) (a : Bool) → row_in s is r.slot.0 ≡ some ours → names earlier r.slot.0 ≡ a → (b : Bool) → same_numbers r ours ≡ b →
          row_refusal r (some ours) a ≡ 0 → Passed s is earlier r
      again ours true f n true q z = absurd (let y : ◌≡◌ {A = ℕ} 26 0 = rw q at z in omega arith)
      again ours false f n true q z = record { ours = ours; found = f; equal = q; fresh = n }
      again ours true f n false q z = absurd (let y : ◌≡◌ {A = ℕ} 25 0 = rw q at z in omega arith)
      again ours false f n false q z = absurd (let y : ◌≡◌ {A = ℕ} 25 0 = rw q at z in omega arith)

      go : (o : Option Row) (a : Bool) → row_in s is r.slot.0 ≡ o → names earlier r.slot.0 ≡ a → row_refusal r o a ≡ 0 → Passed s is earlier r
      go none a f n z = absurd (let y : ◌≡◌ {A = ℕ} 24 0 = z in omega arith)
      go (some ours) a f n z = again ours a f n (same_numbers r ours) refl z

  -- only slots 1 to 174 have a row
  low_none : (slot : ℕ) → slot < 1 → row_in s is slot ≡ none
  unfolding row_of qualifies is_assigned
  low_none slot h = rw (lt-leb 1 slot h)

  high_none : (slot : ℕ) → 1 ≤ slot → 174 < slot → row_in s is slot ≡ none
  unfolding row_of qualifies is_assigned
  high_none slot l h = rw (le-leb 1 slot l, lt-leb slot 174 h)

  clash : (r : Row) {o : Option Row} → o ≡ some r → o ≡ none → ⊥
  clash r e n = let z : ◌≡◌ {A = ℕ} 0 1 = cc in omega arith

  -- a slot that has a row is at least 1
  pub slot_low : (slot : ℕ) (r : Row) → row_in s is slot ≡ some r → 1 ≤ slot
  slot_low slot r e = dite (dec_lt slot 1) (λ h. absurd (clash r e (low_none slot h))) (λ h. omega arith)

  -- and at most 174
  pub slot_high : (slot : ℕ) (r : Row) → row_in s is slot ≡ some r → slot ≤ 174
  slot_high slot r e = dite (dec_lt 174 slot) (λ h. absurd (clash r e (high_none slot (slot_low slot r e) h))) (λ h. omega arith)

  -- one row more is one less left out
  left_turn : (earlier : List Row) (r : Row) → Passed s is earlier r → left_out s is earlier ≡ 1 + left_out s is (r ∷ earlier)
  unfolding left_out
  left_turn earlier r p =
      rows_less (left_at s is earlier) (left_at s is (r ∷ earlier)) r.slot.0 p.ours
      (rw p.fresh p.found)
      (rw (names_cons r earlier r.slot.0, eq-eqb r.slot.0 r.slot.0 refl))
      (λ j n. rw (names_cons r earlier j, ne_eqb r.slot.0 j (λ e. n (sym e))))
      255 1 (slot_low r.slot.0 p.ours p.found) (omega (arith, slot_high r.slot.0 p.ours p.found))

  or_turn : (a b c : Bool) → b || (a || c) ≡ (a || b) || c
  or_turn true true c = refl
  or_turn true false c = refl
  or_turn false true c = refl
  or_turn false false c = refl

  -- rows put onto others name what either name
  names_onto : (rs earlier : List Row) (slot : ℕ) → names (onto rs earlier) slot ≡ names rs slot || names earlier slot
  names_onto [] earlier slot = rw (← (names_none slot))
  names_onto (r ∷ rs) earlier slot =
      names_onto rs (r ∷ earlier) slot
      ∙ rw (names_cons r earlier slot, names_cons r rs slot) (or_turn (eqb r.slot.0 slot) (names rs slot) (names earlier slot))

  -- where no row offends, the first does not and none of the others
  pub offence_none : (earlier : List Row) (k : ℕ) (r : Row) (rs : List Row) → offence_from s is earlier k (r ∷ rs) ≡ none →
      (row_refusal_after s is earlier r ≡ 0) × (offence_from s is (r ∷ earlier) (k + 1) rs ≡ none)
  unfolding offence_from
  offence_none earlier k r rs e =
      dite (ℕ_discrete (row_refusal_after s is earlier r) 0)
      (λ z. (z, rw (eq-eqb (row_refusal_after s is earlier r) 0 z) at e))
      (λ n. absurd (some_none (rw (ne_eqb (row_refusal_after s is earlier r) 0 n) at e)))
    where
      some_none : {x : ℕ × ℕ} → ◌≡◌ {A = Option (ℕ × ℕ)} (some x) none → ⊥
      some_none q = let z : ◌≡◌ {A = ℕ} 0 1 = cc in omega arith

  -- each row that does not offend is one less left out
  count_from : (rs earlier : List Row) (k : ℕ) → offence_from s is earlier k rs ≡ none → left_out s is earlier ≡ length rs + left_out s is (onto rs earlier)
  count_from [] earlier k e = omega arith
  count_from (r ∷ rs) earlier k e =
      let p = offence_none earlier k r rs e in
      omega (arith, left_turn earlier r (passed earlier r p.0), count_from rs (r ∷ earlier) (k + 1) p.1)

  -- no rows leave all of ours out
  left_all : left_out s is [] ≡ length (list_in s is)
  unfolding left_out
  left_all = ap length (rows_same (left_at s is []) (row_in s is) (λ j p q. rw (← (names_none j))))

  -- the order of the rows does not count
  left_same : (rs : List Row) → left_out s is (onto rs []) ≡ left_out s is rs
  unfolding left_out
  left_same rs =
      ap length
      (rows_same (left_at s is (onto rs [])) (left_at s is rs) (λ j p q. rw (names_onto rs [] j, ← (names_none j)) (ap (λ (b : Bool). pick b none (row_in s is j)) (or_false (names rs j)))))
    where
      or_false : (b : Bool) → (b || false) ≡ b
      or_false true = refl
      or_false false = refl

  -- our rows are the sheet's and those that it left out
  pub accepted_count : (rs : List Row) → offence s is rs ≡ none → length (list_in s is) ≡ length rs + left_out s is rs
  accepted_count rs e = omega (arith, left_all, count_from rs [] 1 e, left_same rs)
