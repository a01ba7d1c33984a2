-- Laws of a check: why a row is refused, and the first offending row, a turn at a time.
use Prim.Native.Nat.{ℕ, zero, suc, ◌+◌, ◌-◌, ◌*◌, ◌≤◌, ◌<◌}
use mathlib.Core.Path.{◌≡◌, refl, sym, ap, ◌∙◌}
use mathlib.Core.Logic.{dite, ◌≢◌}
use mathlib.Core.Bool.{Bool, true, false, ◌||◌, not}
use mathlib.Core.List.{List, [], ◌∷◌}
use mathlib.Core.Option.{Option, none, some}
use native.Mathlib.Nat.{not-suc-le-zero}
use native.Mathlib.Decide.{ℕ_discrete}
use native.Mathlib.Omega.{arith}
use borrow.Author.Tests.{eq-eqb, ne_eqb}
use lib.Dec.{eqb}
use lib.ListN.{length, get_or, set, length-set, get_or-replicate, length-replicate, replicate}
use lib.Seq.{get_or-set_same, get_or-set_other}
use Rattle.bits.specs.Some.{any_of, first}
use Rattle.row.specs.declared.Row.{Row}
use Rattle.list.specs.Rows.{row_in}
use Rattle.sheet_form.specs.Reading.{row_said, rows_said_from}
use Rattle.sheet_checking.specs.Same.{same_numbers}
use Rattle.std.specs.Prelude.{Err}
use Rattle.sheet_checking.specs.declared.Fault.{Fault}
use Rattle.sheet_checking.specs.declared.Fault.TheVariants as fault
use Rattle.sheet_checking.specs.Checking.{checked_says, refused_row, names, row_refusal, row_refusal_after, offence_from}

-- ---- why a row is refused
module _ (r : Row) (o : Option Row) (again : Bool) where
  -- 24: we have no row of the slot
  pub unknown_slot : o ≡ none → 24 ≡ row_refusal r o again
  unfolding row_refusal
  unknown_slot e = rw e

  module _ (ours : Row) (found : o ≡ some ours) where
    -- 25: our row has other numbers
    pub other_numbers : same_numbers r ours ≡ false → 25 ≡ row_refusal r o again
    unfolding row_refusal
    other_numbers e = rw (found, e)

    -- 26: an earlier row has the slot
    pub repeated : same_numbers r ours ≡ true → again ≡ true → 26 ≡ row_refusal r o again
    unfolding row_refusal
    repeated e a = rw (found, e, a)

    -- else the row is ours
    pub not_refused : same_numbers r ours ≡ true → again ≡ false → 0 ≡ row_refusal r o again
    unfolding row_refusal
    not_refused e a = rw (found, e, a)

-- a row with nothing at fault is not refused
pub no_fault : (n k : ℕ) → [] ≡ refused_row n k → n ≡ 0
no_fault n k e =
    dite (ℕ_discrete n 0) (λ z. z) (λ m. absurd (let l : length {A = ℕ} [] ≡ length (n ∷ k ∷ []) = rw (ne_eqb n 0 m) at (ap length e) in omega arith))

-- and one with something at fault is
pub some_fault : (f : Fault) → [] ≡ checked_says (Err f) → ⊥
some_fault (fault.Number n) e = let l = ap length e in omega arith
some_fault (fault.Wrong n) e = let l = ap length e in omega arith
some_fault (fault.Unknown n) e = let l = ap length e in omega arith
some_fault (fault.Other n) e = let l = ap length e in omega arith
some_fault (fault.Repeated n) e = let l = ap length e in omega arith

pub fault_said : (f : Fault) (n k : ℕ) → checked_says (Err f) ≡ refused_row n k → (n ≢ 0) × (checked_says (Err f) ≡ n ∷ k ∷ [])
fault_said f n k e =
    dite (ℕ_discrete n 0) (λ z. absurd (some_fault f (sym (e ∙ ap (λ (m : ℕ). refused_row m k) z)))) (λ m. (m, e ∙ rw (ne_eqb n 0 m)))

-- ---- the slots seen
-- one row more names its own slot
pub names_cons : (r : Row) (rs : List Row) (slot : ℕ) → names (r ∷ rs) slot ≡ eqb r.slot.0 slot || names rs slot
unfolding names any_of
names_cons r rs slot = refl

-- no rows name no slot
pub names_none : (slot : ℕ) → false ≡ names [] slot
unfolding names any_of
names_none slot = refl

-- the flags of 256 slots, set for those of some rows
pub record Marked (seen : List Bool) (rs : List Row) : Type 0 where
  pub long : length seen ≡ 256
  pub flag : (slot : ℕ) → slot < 256 → get_or seen slot false ≡ names rs slot

-- no flag is set for no rows
pub none_marked : Marked (replicate 256 false) []
none_marked = record { long = length-replicate 256 false; flag = λ slot h. get_or-replicate 256 slot false false h ∙ names_none slot }

-- one flag more is set for one row more
pub one_marked : (seen : List Bool) (rs : List Row) (r : Row) → r.slot.0 < 256 → Marked seen rs → Marked (set seen r.slot.0 true) (r ∷ rs)
one_marked seen rs r l m = record {
  long = length-set seen r.slot.0 true ∙ m.long;
  flag = λ slot h. dite (ℕ_discrete slot r.slot.0) (own slot) (other slot h);
}
  where
    own : (slot : ℕ) → slot ≡ r.slot.0 → get_or (set seen r.slot.0 true) slot false ≡ names (r ∷ rs) slot
    own slot e =
        rw (names_cons r rs slot, eq-eqb r.slot.0 slot (sym e), e) (get_or-set_same seen r.slot.0 true false (omega (arith, m.long)))

    other : (slot : ℕ) → slot < 256 → slot ≢ r.slot.0 → get_or (set seen r.slot.0 true) slot false ≡ names (r ∷ rs) slot
    other slot h n =
        rw (names_cons r rs slot, ne_eqb r.slot.0 slot (λ e. n (sym e)))
        (get_or-set_other seen r.slot.0 slot true false n ∙ m.flag slot h)

-- ---- the first offending row: n rows from `at` on are left
module _ (s is t : List ℕ) (earlier : List Row) where
  -- the next row offends
  pub offence_hit : (k n at why : ℕ) → 0 < n → why ≡ row_refusal_after s is earlier (row_said t at) → why ≢ 0 →
      offence_from s is earlier k (rows_said_from t n at) ≡ some (why, k)
  unfolding offence_from rows_said_from
  offence_hit k zero at why h e q = absurd (not-suc-le-zero h)
  offence_hit k (suc n) at why h e q = rw (← e, ne_eqb why 0 q)

  -- the next row does not
  pub offence_pass : (k n at : ℕ) → 0 < n → row_refusal_after s is earlier (row_said t at) ≡ 0 →
      offence_from s is earlier k (rows_said_from t n at) ≡ offence_from s is (row_said t at ∷ earlier) (k + 1) (rows_said_from t (n - 1) (at + 24))
  unfolding offence_from rows_said_from
  offence_pass k zero at h e = absurd (not-suc-le-zero h)
  offence_pass k (suc n) at h e = let q : suc n - 1 ≡ n = omega arith in rw (e, q)

  -- no row is left
  pub offence_end : (k n at : ℕ) → n ≤ 0 → offence_from s is earlier k (rows_said_from t n at) ≡ none
  unfolding offence_from rows_said_from
  offence_end k zero at h = refl
  offence_end k (suc n) at h = absurd (not-suc-le-zero h)

-- ---- the walk over the rows: the first k are held against our list, the others are still to be
pub record Walked (s is t : List ℕ) (rows : ℕ) (seen : List Bool) (k : ℕ) : Type 0 where
  pub earlier : List Row
  pub marked : Marked seen earlier
  pub same : offence_from s is earlier (k + 1) (rows_said_from t (rows - k) (8 + 24 * k)) ≡ offence_from s is [] 1 (rows_said_from t rows 8)

module _ (s is t : List ℕ) (rows : ℕ) where
  -- before the first row
  pub walk_start : Walked s is t rows (replicate 256 false) 0
  walk_start = record { earlier = []; marked = none_marked; same = let e : rows - 0 ≡ rows = omega arith in rw e }

  module _ (seen : List Bool) (k : ℕ) (w : Walked s is t rows seen k) where
    -- the row's refusal, by the flag of its slot
    pub refusal_now : (r : Row) → r ≡ row_said t (8 + 24 * k) → r.slot.0 < 256 →
        row_refusal r (row_in s is r.slot.0) (get_or seen r.slot.0 false) ≡ row_refusal_after s is w.earlier (row_said t (8 + 24 * k))
    refusal_now r e h =
        ap (row_refusal r (row_in s is r.slot.0)) (w.marked.flag r.slot.0 h) ∙ ap (row_refusal_after s is w.earlier) e

    -- the row offends: it is the first of the sheet that does
    pub walk_hit : (why : ℕ) → k < rows → why ≡ row_refusal_after s is w.earlier (row_said t (8 + 24 * k)) → why ≢ 0 →
        offence_from s is [] 1 (rows_said_from t rows 8) ≡ some (why, k + 1)
    walk_hit why h e q = sym w.same ∙ offence_hit s is t w.earlier (k + 1) (rows - k) (8 + 24 * k) why (omega arith) e q

    -- the row does not: the walk goes on behind it
    pub walk_next : (r : Row) → k < rows → r ≡ row_said t (8 + 24 * k) → r.slot.0 < 256 →
        row_refusal_after s is w.earlier (row_said t (8 + 24 * k)) ≡ 0 → Walked s is t rows (set seen r.slot.0 true) (k + 1)
    walk_next r h e l q = record {
      earlier = r ∷ w.earlier;
      marked = one_marked seen w.earlier r l w.marked;
      same =
          let f : rows - k - 1 ≡ rows - (k + 1) = omega arith in
          let g : 8 + 24 * k + 24 ≡ 8 + 24 * (k + 1) = omega arith in
          rw (← f, ← g, e) (sym (offence_pass s is t w.earlier (k + 1) (rows - k) (8 + 24 * k) (omega arith) q) ∙ w.same);
    }

    -- no row is left: none of the sheet offends
    pub walk_end : rows ≤ k → offence_from s is [] 1 (rows_said_from t rows 8) ≡ none
    walk_end h = sym w.same ∙ offence_end s is t w.earlier (k + 1) (rows - k) (8 + 24 * k) (omega arith)
