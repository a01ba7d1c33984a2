-- A row's 24 bytes are read, and read back.
use Prim.Native.Nat.{ℕ, ◌+◌, ◌/◌, ◌%◌, ◌≤◌, ◌<◌}
use mathlib.Core.Path.{◌≡◌, sym, ap, ◌∙◌}
use mathlib.Core.Bool.{Bool, true, not, ◌||◌}
use mathlib.Core.List.{List}
use native.Mathlib.Nat.{add-zero}
use native.Mathlib.Omega.{arith}
use lib.Dec.{ltb, lit<}
use lib.IntN.{ℤ}
use lib.Signed.{mag}
use lib.ListN.{get_or, length}
use borrow.Author.Tests.{le-leb}
use Rattle.bits.specs.Bytes.{row_at}
use Rattle.bits.proofs.ByteLaws.{get_or_row}
use Rattle.lent.specs.Digits.{two_at, four_at}
use Rattle.lent.proofs.DigitLaws.{pair_back, quad_back}
use Rattle.records.specs.Signed.{raw_half}
use Rattle.records.proofs.SignedLaws.{signed_raw}
use Rattle.slots.specs.Slots.{satellite_of}
use Rattle.slots.specs.declared.Slot.{Slot}
use Rattle.slots.specs.declared.System.{System}
use Rattle.ura.specs.Ura.{ura_of, code_of}
use Rattle.ura.specs.declared.Ura.{Ura}
use Rattle.ura.proofs.UraLaws.{ura_back}
use Rattle.row.specs.declared.Row.{Row}
use Rattle.sheet_form.specs.Layout.{row_field}
use Rattle.sheet_form.specs.Reading.{opens, slot_ok, value_at, values_ok, row_ok, row_said}
use Rattle.sheet_right.specs.Allowed.{RowAllowed}
use Rattle.sheet_right.proofs.ValueLaws.{given_test, given_small}

-- ---- numbers by their bytes
module _ (s : List ℕ) (at : ℕ) where
  -- two bytes
  pub two_by : (k v : ℕ) → get_or s (at + k) 0 ≡ v / 256 → get_or s (at + (k + 1)) 0 ≡ v % 256 → two_at s (at + k) ≡ v
  two_by k v a b =
      let e : at + k + 1 ≡ at + (k + 1) = omega arith in
      rw (e, a, b) (pair_back v)

  -- four bytes
  four_by : (k v : ℕ) → get_or s (at + k) 0 ≡ v / 65536 / 256 → get_or s (at + (k + 1)) 0 ≡ v / 65536 % 256 → get_or s (at + (k + 2)) 0 ≡ v % 65536 / 256 → get_or s (at + (k + 3)) 0 ≡ v % 65536 % 256 → four_at s (at + k) ≡ v
  four_by k v a b c d =
      let e : at + k + 1 ≡ at + (k + 1) = omega arith in
      let f : at + k + 2 ≡ at + (k + 2) = omega arith in
      let g : at + k + 3 ≡ at + (k + 3) = omega arith in
      rw (e, f, g, a, b, c, d) (quad_back v)

  -- four bytes with a sign
  value_by : (k : ℕ) (z : ℤ) → mag z < 2147483648 → four_at s (at + k) ≡ raw_half 2147483648 z → value_at s (at + k) ≡ z
  value_by k z l e = rw e (signed_raw 2147483648 z l)

-- ---- a row by its fields
pub row_by_lem : {slot : Slot} {system : System} {number iodn corr : ℕ} {radial along cross clock : ℤ} {ura : Ura} (r : Row) →
    slot ≡ r.slot → system ≡ r.system → number ≡ r.number → iodn ≡ r.iodn → corr ≡ r.corr →
    radial ≡ r.radial → along ≡ r.along → cross ≡ r.cross → clock ≡ r.clock → ura ≡ r.ura →
    record { slot = slot; system = system; number = number; iodn = iodn; corr = corr; radial = radial; along = along; cross = cross; clock = clock; ura = ura } ≡ r
row_by_lem r a b c d e f g h i j = rw (a, b, c, d, e, f, g, h, i, j)

-- ---- the row at an offset
module _ (s : List ℕ) (at : ℕ) (r : Row) (e : row_at s at 24 ≡ row_field r) (A : RowAllowed r) where
  -- byte i of the row
  byte : (i : ℕ) → i < 24 → get_or s (at + i) 0 ≡ get_or (row_field r) i 0
  byte i h = sym (get_or_row s at 24 i h) ∙ ap (λ (u : List ℕ). get_or u i 0) e

  -- what each field says
  tag_is : get_or s at 0 ≡ 2
  unfolding row_field
  tag_is = sym (ap (λ (i : ℕ). get_or s i 0) (add-zero at)) ∙ byte 0 (lit< tt)

  size_is : two_at s (at + 1) ≡ 21
  unfolding row_field
  size_is = two_by s at 1 21 (byte 1 (lit< tt)) (byte 2 (lit< tt))

  pub slot_is : get_or s (at + 3) 0 ≡ r.slot.0
  unfolding row_field
  slot_is = byte 3 (lit< tt)

  iodn_is : two_at s (at + 4) ≡ r.iodn
  unfolding row_field
  iodn_is = two_by s at 4 r.iodn (byte 4 (lit< tt)) (byte 5 (lit< tt))

  corr_is : get_or s (at + 6) 0 ≡ r.corr
  unfolding row_field
  corr_is = byte 6 (lit< tt)

  radial_is : value_at s (at + 7) ≡ r.radial
  unfolding row_field
  radial_is =
      value_by s at 7 r.radial (omega (arith, given_small 16 16383 r.radial A.radial))
      (four_by s at 7 (raw_half 2147483648 r.radial) (byte 7 (lit< tt)) (byte 8 (lit< tt)) (byte 9 (lit< tt)) (byte 10 (lit< tt)))

  along_is : value_at s (at + 11) ≡ r.along
  unfolding row_field
  along_is =
      value_by s at 11 r.along (omega (arith, given_small 64 4095 r.along A.along))
      (four_by s at 11 (raw_half 2147483648 r.along) (byte 11 (lit< tt)) (byte 12 (lit< tt)) (byte 13 (lit< tt)) (byte 14 (lit< tt)))

  cross_is : value_at s (at + 15) ≡ r.cross
  unfolding row_field
  cross_is =
      value_by s at 15 r.cross (omega (arith, given_small 64 4095 r.cross A.cross))
      (four_by s at 15 (raw_half 2147483648 r.cross) (byte 15 (lit< tt)) (byte 16 (lit< tt)) (byte 17 (lit< tt)) (byte 18 (lit< tt)))

  clock_is : value_at s (at + 19) ≡ r.clock
  unfolding row_field
  clock_is =
      value_by s at 19 r.clock (omega (arith, given_small 16 16383 r.clock A.clock))
      (four_by s at 19 (raw_half 2147483648 r.clock) (byte 19 (lit< tt)) (byte 20 (lit< tt)) (byte 21 (lit< tt)) (byte 22 (lit< tt)))

  code_is : get_or s (at + 23) 0 ≡ code_of r.ura
  unfolding row_field
  code_is = byte 23 (lit< tt)

  -- what the row says
  pub said_back : row_said s at ≡ r
  said_back =
      row_by_lem r
      (ap (λ (n : ℕ). record { 0 = n }) slot_is)
      (ap (λ (n : ℕ). (satellite_of n).system) slot_is ∙ sym A.system)
      (ap (λ (n : ℕ). (satellite_of n).number) slot_is ∙ sym A.number)
      iodn_is
      corr_is
      radial_is
      along_is
      cross_is
      clock_is
      (ap ura_of code_is ∙ ura_back r.ura (omega (arith, A.coded)))

  -- its tests
  open_right : opens s at 2 21 ≡ true
  open_right = rw (tag_is, size_is)

  slot_right : (rising : Bool) (before : ℕ) → not rising || ltb before r.slot.0 ≡ true → slot_ok rising before (get_or s (at + 3) 0) ≡ true
  slot_right rising before o = rw (slot_is, le-leb 1 r.slot.0 A.low, le-leb r.slot.0 174 A.high, o)

  values_right : values_ok s at ≡ true
  values_right =
      rw (
        radial_is,
        along_is,
        cross_is,
        clock_is,
        given_test 16 16383 (lit< tt) r.radial A.radial,
        given_test 64 4095 (lit< tt) r.along A.along,
        given_test 64 4095 (lit< tt) r.cross A.cross,
        given_test 16 16383 (lit< tt) r.clock A.clock,
      )

  -- and that it is right
  pub row_right : (rising : Bool) (before : ℕ) → at + 24 ≤ length s → not rising || ltb before r.slot.0 ≡ true → row_ok rising before s at ≡ true
  unfolding row_ok
  row_right rising before l o =
      rw (
        le-leb (at + 24) (length s) l,
        open_right,
        slot_right rising before o,
        iodn_is,
        le-leb r.iodn 1023 A.iodn,
        corr_is,
        le-leb r.corr 7 A.corr,
        values_right,
        code_is,
        le-leb 1 (code_of r.ura) A.known,
        le-leb (code_of r.ura) 63 A.coded,
      )
