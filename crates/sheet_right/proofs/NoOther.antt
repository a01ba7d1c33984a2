-- 02, CR 7: bytes that are read are the sheet of what they say, and the writer's rules can give it.
use Prim.Native.Nat.{ℕ, zero, suc, ◌+◌}
use mathlib.Core.Path.{◌≡◌, refl, sym, ap, ap₂, ◌∙◌}
use mathlib.Core.Bool.{Bool, true, false, not, ◌||◌}
use mathlib.Core.Logic.{⊎_elim}
use mathlib.Core.List.Memᴰ
use mathlib.Core.List.{List, [], ◌∷◌, ◌++◌, append_assoc, Memᴰ}
use mathlib.Core.Option.{none, some}
use native.Mathlib.Omega.{arith}
use lib.Dec.{eqb, ltb, leb, lit<}
use lib.ListN.{get_or, length, drop, drop_of_length-le}
use borrow.Author.Tests.{eqb-true, leb-true, ltb-true}
use Rattle.bits.specs.Pick.{pick}
use Rattle.bits.specs.Table.{table}
use Rattle.bits.specs.Bytes.{Bytes, row_at}
use Rattle.bits.proofs.TestLaws.{both_hold}
use Rattle.frame.specs.Frame.{is_prn}
use Rattle.lent.specs.Digits.{two_at}
use Rattle.row.specs.declared.Row.{Row}
use Rattle.sheet_form.specs.Layout.{header_field, row_field, row_fields, end_field, sheet_of}
use Rattle.sheet_form.specs.Reading.{reaches, opens, end_ok, wrong_end, header_ok, row_ok, wrong_from, wrong_at, header_said, row_said, rows_said_from, rows_said}
use Rattle.sheet_right.specs.Allowed.{RowAllowed}
use Rattle.sheet_right.specs.Sheets.{NoOther}
use Rattle.sheet_right.proofs.WindowLaws.{window_split}
use Rattle.sheet_right.proofs.TestLaws.{six_hold, none_wrong}
use Rattle.sheet_right.proofs.RiseLaws.{Ordered, rises_rising}
use Rattle.sheet_right.proofs.AllRead.{AnyOrder}
use Rattle.sheet_right.proofs.RowOnly.{two_same, opened, row_there, row_rises, row_allowed, row_same}

module _ (s : List ℕ) (B : Bytes s) where
  -- as many rows as the header says
  said_long : (n at : ℕ) → length (rows_said_from s n at) ≡ n
  unfolding rows_said_from
  said_long zero at = refl
  said_long (suc n) at = ap suc (said_long n (at + 24))

  -- ---- the end
  end_same : (at : ℕ) → wrong_end s at ≡ none → drop at s ≡ end_field
  unfolding row_at table
  end_same at e =
      let p = none_wrong (end_ok s at) (pick (eqb (length s) (at + 3)) none (some (at + 3))) at e in
      let q = none_wrong (eqb (length s) (at + 3)) none (at + 3) p.1 in
      let r = both_hold (reaches s at 3) (opens s at 255 0) p.0 in
      let o = opened s at B 255 0 (lit< tt) r.1 in
      let l : length s ≡ at + 3 = eqb-true _ _ q.0 in
      window_split s at 3 (omega arith) ∙ rw (o.0, o.1, o.2, drop_of_length-le s {i = at + 3} (omega arith))

  -- ---- the rows and the end
  -- what is shown of n rows from an offset on, and of the end
  record Rest (rising : Bool) (n before at : ℕ) : Type 0 where
    allowed : (r : Row) → Memᴰ r (rows_said_from s n at) → RowAllowed r
    ordered : Ordered rising before (rows_said_from s n at)
    same : drop at s ≡ row_fields (rows_said_from s n at) ++ end_field

  -- no rows are ordered
  none_ordered : (rising : Bool) (before : ℕ) → Ordered rising before []
  none_ordered true before = tt
  none_ordered false before = tt

  -- and one more row before ordered ones
  one_ordered : (rising : Bool) (before : ℕ) (r : Row) (rs : List Row) → not rising || ltb before r.slot.0 ≡ true → Ordered rising r.slot.0 rs → Ordered rising before (r ∷ rs)
  one_ordered true before r rs e o = (ltb-true before r.slot.0 e, o)
  one_ordered false before r rs e o = tt

  rest_is : (rising : Bool) (n before at : ℕ) → wrong_from rising s n before at ≡ none → Rest rising n before at
  unfolding wrong_from rows_said_from row_fields
  rest_is rising zero before at e = record { allowed = λ r m. absurd (Memᴰ.not-nil m); ordered = none_ordered rising before; same = end_same at e }
  rest_is rising (suc n) before at e =
      let p = none_wrong (row_ok rising before s at) (wrong_from rising s n (get_or s (at + 3) 0) (at + 24)) at e in
      let rest = rest_is rising n (get_or s (at + 3) 0) (at + 24) p.1 in
      record {
        allowed = λ r m. ⊎_elim (λ q. rw q (row_allowed s at B rising before p.0)) (λ m. rest.allowed r m) (Memᴰ.cases_cons m);
        ordered = one_ordered rising before (row_said s at) (rows_said_from s n (at + 24)) (row_rises s at B rising before p.0) rest.ordered;
        same =
            window_split s at 24 (row_there s at B rising before p.0)
            ∙ ap₂ ◌++◌ (row_same s at B rising before p.0) rest.same
            ∙ sym (append_assoc (row_field (row_said s at)) (row_fields (rows_said_from s n (at + 24))) end_field);
      }

  -- ---- the header
  module _ (limit : ℕ) (rising : Bool) (e : wrong_at limit rising s ≡ none) where
    parts : (header_ok limit s ≡ true) × (wrong_from rising s (two_at s 6) 0 8 ≡ none)
    unfolding wrong_at
    parts = none_wrong (header_ok limit s) (wrong_from rising s (two_at s 6) 0 8) 0 e

    tests : (reaches s 0 8 ≡ true) × (opens s 0 1 5 ≡ true) × (is_prn (get_or s 3 0) ≡ true) × (leb (get_or s 4 0) 3 ≡ true) × (leb (get_or s 5 0) 15 ≡ true) × (leb (two_at s 6) limit ≡ true)
    unfolding header_ok
    tests = six_hold (reaches s 0 8) (opens s 0 1 5) (is_prn (get_or s 3 0)) (leb (get_or s 4 0) 3) (leb (get_or s 5 0) 15) (leb (two_at s 6) limit) parts.0

    rest : Rest rising (two_at s 6) 0 8
    rest = rest_is rising (two_at s 6) 0 8 parts.1

    header_same : row_at s 0 8 ≡ header_field (header_said s)
    unfolding row_at table header_field
    header_same = (let o = opened s 0 B 1 5 (lit< tt) tests.1 in rw (o.0, o.1, o.2) (ap (λ (t : List ℕ). 1 ∷ 0 ∷ 5 ∷ get_or s 3 0 ∷ get_or s 4 0 ∷ get_or s 5 0 ∷ t) (two_same s 0 B 6 refl)))

    -- ---- what is read is allowed, in the order that it must have
    pub any_allowed : AnyOrder limit (header_said s) (rows_said s)
    any_allowed = record {
      prn = tests.2;
      ssr = leb-true _ _ tests.3;
      iodp = leb-true _ _ tests.4;
      count = sym (said_long (two_at s 6) 8);
      few = rw (said_long (two_at s 6) 8) (leb-true _ _ tests.5);
      rows = rest.allowed;
    }

    said_ordered : Ordered rising 0 (rows_said s)
    said_ordered = rest.ordered

    -- and it is the sheet of what it says
    any_same : s ≡ sheet_of (header_said s) (rows_said s)
    unfolding sheet_of
    any_same = window_split s 0 8 (leb-true _ _ tests.0) ∙ ap₂ ◌++◌ header_same rest.same

-- NO OTHER IS READ
pub no_other : NoOther
no_other limit s B e =
    let a = any_allowed s B limit true e in
    record {
      allowed = record {
        prn = a.prn;
        ssr = a.ssr;
        iodp = a.iodp;
        count = a.count;
        few = a.few;
        rows = a.rows;
        rising = rises_rising 0 (rows_said s) (said_ordered s B limit true e);
      };
      same = any_same s B limit true e;
    }
