-- 02, CR 7: every sheet that the writer's rules can give is read, and read back.
use Prim.Native.Nat.{ℕ, ◌+◌, ◌*◌, ◌≤◌, ◌<◌}
use mathlib.Core.Path.{◌≡◌, refl, sym, ap, ap₂, ◌∙◌}
use mathlib.Core.Bool.{Bool, true, false, not, ◌||◌}
use mathlib.Core.List.{List, [], ◌∷◌, ◌++◌, append_assoc, Memᴰ}
use mathlib.Core.Option.{none}
use native.Mathlib.Nat.{add-zero}
use native.Mathlib.Omega.{arith}
use lib.Dec.{ltb, lit<}
use lib.ListN.{get_or, length, drop, length-append, length-drop}
use borrow.Author.Tests.{eq-eqb, le-leb, lt-ltb}
use Rattle.bits.specs.Bytes.{row_at}
use Rattle.bits.proofs.ByteLaws.{get_or_row}
use Rattle.lookback.proofs.WalkLaws.{get_or_in}
use Rattle.lent.specs.Digits.{two_at}
use Rattle.lent.proofs.DigitLaws.{pair_back}
use Rattle.frame.specs.Frame.{is_prn}
use Rattle.row.specs.declared.Row.{Row}
use Rattle.sheet_form.specs.Layout.{header_field, row_field, row_fields, end_field, sheet_of, sheet_length}
use Rattle.sheet_form.specs.Reading.{wrong_end, header_ok, wrong_from, wrong_at, header_said, rows_said_from, rows_said}
use Rattle.sheet_form.specs.declared.Header.{Header}
use Rattle.sheet_right.specs.Allowed.{RowAllowed, Allowed}
use Rattle.sheet_right.specs.Sheets.{AllRead}
use Rattle.sheet_right.proofs.WindowLaws.{window_of, rest_of, reach_of}
use Rattle.sheet_right.proofs.RowBack.{two_by, slot_is, said_back, row_right}
use Rattle.sheet_right.proofs.SheetBytes.{sheet_bytes}
use Rattle.sheet_right.proofs.RiseLaws.{Rises, Ordered, rises_by}

-- how long a row is
pub row_long : (r : Row) → length (row_field r) ≡ 24
unfolding row_field
row_long r = refl

-- and rows
rows_long : (rs : List Row) → length (row_fields rs) ≡ 24 * length rs
unfolding row_fields
rows_long [] = refl
rows_long (r ∷ rs) = length-append (row_field r) (row_fields rs) ∙ omega (arith, row_long r, rows_long rs)

-- how long a sheet is
pub sheet_long : (h : Header) (rs : List Row) → length (sheet_of h rs) ≡ sheet_length (length rs)
unfolding sheet_of header_field
sheet_long h rs = omega (arith, length-append (row_fields rs) end_field, rows_long rs)

-- what a sheet can hold with its rows in any order: all that is allowed, but that slots rise
pub record AnyOrder (limit : ℕ) (h : Header) (rs : List Row) : Type 0 where
  pub prn : is_prn h.prn ≡ true
  pub ssr : h.ssr ≤ 3
  pub iodp : h.iodp ≤ 15
  pub count : h.rows ≡ length rs
  pub few : length rs ≤ limit
  pub rows : (r : Row) → Memᴰ r rs → RowAllowed r

-- what is allowed is so in any order
pub any_order : (limit : ℕ) (h : Header) (rs : List Row) → Allowed limit h rs → AnyOrder limit h rs
any_order limit h rs A = record { prn = A.prn; ssr = A.ssr; iodp = A.iodp; count = A.count; few = A.few; rows = A.rows }

-- of ordered rows the first may stand there, and the others after it
first_ordered : (rising : Bool) (before : ℕ) (r : Row) (rs : List Row) → Ordered rising before (r ∷ rs) →
    (not rising || ltb before r.slot.0 ≡ true) × Ordered rising r.slot.0 rs
first_ordered true before r rs o = (lt-ltb before r.slot.0 o.0, o.1)
first_ordered false before r rs o = (refl, tt)

-- each of some rows is allowed
abbrev AllAllowed : List Row → Type 0
AllAllowed rs = (r : Row) → Memᴰ r rs → RowAllowed r

-- ---- the end
module _ (s : List ℕ) (at : ℕ) (e : drop at s ≡ end_field) where
  -- byte i of the end
  byte : (i : ℕ) → i < 3 → get_or s (at + i) 0 ≡ get_or end_field i 0
  byte i h = sym (get_or_row s at 3 i h) ∙ ap (λ (u : List ℕ). get_or u i 0) (window_of s at 3 end_field [] refl e)

  tag_is : get_or s at 0 ≡ 255
  tag_is = sym (ap (λ (i : ℕ). get_or s i 0) (add-zero at)) ∙ byte 0 (lit< tt)

  long_is : length s ≡ at + 3
  long_is = omega (arith, length-drop at s, ap length e)

  end_right : wrong_end s at ≡ none
  end_right =
      rw (
        le-leb (at + 3) (length s) (omega (arith, long_is)),
        tag_is,
        two_by s at 1 0 (byte 1 (lit< tt)) (byte 2 (lit< tt)),
        eq-eqb (length s) (at + 3) long_is,
      )

-- ---- the rows and the end
module _ (s : List ℕ) where
  -- nothing is wrong with them
  rows_right : (rising : Bool) (at before : ℕ) (rs : List Row) → drop at s ≡ row_fields rs ++ end_field → AllAllowed rs → Ordered rising before rs → wrong_from rising s (length rs) before at ≡ none
  unfolding wrong_from row_fields
  rows_right rising at before [] e A o = end_right s at e
  rows_right rising at before (r ∷ rs) e A o =
      let f : drop at s ≡ row_field r ++ (row_fields rs ++ end_field) = e ∙ append_assoc (row_field r) (row_fields rs) end_field in
      let w : row_at s at 24 ≡ row_field r = window_of s at 24 (row_field r) _ (row_long r) f in
      let a : RowAllowed r = A r (Memᴰ.head refl) in
      let q = first_ordered rising before r rs o in
      rw (
        row_right s at r w a rising before (reach_of s at 24 (row_field r) _ (row_long r) f (lit< tt)) q.0,
        slot_is s at r w a,
      )
      (rows_right rising (at + 24) r.slot.0 rs (rest_of s at 24 (row_field r) _ (row_long r) f) (λ x m. A x (Memᴰ.tail m)) q.1)

  -- and they are read back
  rows_back : (at : ℕ) (rs : List Row) → drop at s ≡ row_fields rs ++ end_field → AllAllowed rs → rows_said_from s (length rs) at ≡ rs
  unfolding rows_said_from row_fields
  rows_back at [] e A = refl
  rows_back at (r ∷ rs) e A =
      let f : drop at s ≡ row_field r ++ (row_fields rs ++ end_field) = e ∙ append_assoc (row_field r) (row_fields rs) end_field in
      let w : row_at s at 24 ≡ row_field r = window_of s at 24 (row_field r) _ (row_long r) f in
      ap₂ ◌∷◌ (said_back s at r w (A r (Memᴰ.head refl)))
      (rows_back (at + 24) rs (rest_of s at 24 (row_field r) _ (row_long r) f) (λ x m. A x (Memᴰ.tail m)))

-- ---- the sheet
module _ (limit : ℕ) (h : Header) (rs : List Row) (A : AnyOrder limit h rs) where
  -- the header says how many rows there are
  pub count_is : two_at (sheet_of h rs) 6 ≡ length rs
  unfolding sheet_of header_field
  count_is = pair_back h.rows ∙ A.count

  -- after it come the rows and the end
  rest_is : drop 8 (sheet_of h rs) ≡ row_fields rs ++ end_field
  unfolding sheet_of header_field
  rest_is = refl

  -- its header is right
  header_right : header_ok limit (sheet_of h rs) ≡ true
  unfolding header_ok sheet_of header_field
  header_right =
      rw (
        le-leb 8 (length (sheet_of h rs)) (omega (arith, sheet_long h rs)),
        A.prn,
        le-leb h.ssr 3 A.ssr,
        le-leb h.iodp 15 A.iodp,
        count_is,
      )
      (le-leb (length rs) limit A.few)

  -- nothing is wrong with it
  sheet_right : (rising : Bool) → Ordered rising 0 rs → wrong_at limit rising (sheet_of h rs) ≡ none
  unfolding wrong_at
  sheet_right rising o = rw (header_right, count_is) (rows_right (sheet_of h rs) rising 8 0 rs rest_is A.rows o)

  -- 02, CR 10: it is read where rows may stand in any order
  pub any_right : wrong_at limit false (sheet_of h rs) ≡ none
  any_right = sheet_right false tt

  -- and it says its header
  pub header_back : header_said (sheet_of h rs) ≡ h
  unfolding sheet_of header_field
  header_back = rw (pair_back h.rows)

  -- and its rows
  pub said_rows : rows_said (sheet_of h rs) ≡ rs
  said_rows = rw count_is (rows_back (sheet_of h rs) 8 rs rest_is A.rows)

-- rows that are allowed rise
allowed_rises : (limit : ℕ) (h : Header) (rs : List Row) → Allowed limit h rs → Rises 0 rs
allowed_rises limit h rs A = rises_by 0 rs (λ i d l. (let a = A.rows (get_or rs i d) (get_or_in rs i d l) in a.low)) A.rising

-- EVERY SHEET IS READ
pub all_read : AllRead
all_read limit h rs l A =
    let B = any_order limit h rs A in
    record {
      bytes = sheet_bytes limit h rs l A;
      right = sheet_right limit h rs B true (allowed_rises limit h rs A);
      header = header_back limit h rs B;
      rows = said_rows limit h rs B;
    }
