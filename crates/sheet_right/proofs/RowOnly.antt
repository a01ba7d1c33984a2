-- A row that is right is the 24 bytes of what it says, and what it says is allowed.
use Prim.Native.Nat.{ℕ, ◌+◌, ◌*◌, ◌≤◌, ◌<◌}
use mathlib.Core.Path.{◌≡◌, refl, sym, ap, ap₂, ◌∙◌}
use mathlib.Core.Bool.{Bool, true, not, ◌||◌}
use mathlib.Core.List.{List, [], ◌∷◌, ◌++◌}
use native.Mathlib.Nat.{add-zero}
use native.Mathlib.Omega.{arith}
use lib.Dec.{eqb, ltb, leb, lit<}
use lib.ListN.{get_or, length}
use borrow.Author.Tests.{eqb-true, leb-true}
use Rattle.bits.specs.Bytes.{Bytes, row_at}
use Rattle.bits.specs.Table.{table}
use Rattle.bits.proofs.TestLaws.{both_hold}
use Rattle.lent.specs.Digits.{two_at, four_at}
use Rattle.records.proofs.SignedLaws.{raw_signed}
use Rattle.ura.specs.Ura.{ura_of, code_of}
use Rattle.ura.proofs.UraLaws.{code_back}
use Rattle.sheet_form.specs.Layout.{bytes_of_two, bytes_of_four, row_field}
use Rattle.sheet_form.specs.Reading.{reaches, opens, slot_ok, value_at, values_ok, is_given, row_ok, row_said}
use Rattle.sheet_right.specs.Allowed.{RowAllowed}
use Rattle.sheet_right.proofs.ValueLaws.{test_given}
use Rattle.sheet_right.proofs.TestLaws.{three_hold, four_hold, six_hold}

-- two elements and a rest
two_cons : {a b c d : ℕ} {t u : List ℕ} → a ≡ c → b ≡ d → t ≡ u → a ∷ b ∷ t ≡ c ∷ d ∷ u
two_cons x y z = cc

-- ---- bytes are those of the numbers that they say
module _ (s : List ℕ) (at : ℕ) (B : Bytes s) where
  -- two bytes
  pub two_same : (k : ℕ) {t u : List ℕ} → t ≡ u → get_or s (at + k) 0 ∷ get_or s (at + (k + 1)) 0 ∷ t ≡ bytes_of_two (two_at s (at + k)) ++ u
  two_same k q =
      let e : at + k + 1 ≡ at + (k + 1) = omega arith in
      rw e (two_cons (omega (arith, B (at + (k + 1)))) (omega (arith, B (at + (k + 1)))) q)

  four_lt : (i : ℕ) → four_at s i < 4294967296
  four_lt i = omega (arith, B i, B (i + 1), B (i + 2), B (i + 3))

  -- four bytes with a sign
  four_same : (k : ℕ) {t u : List ℕ} → t ≡ u →
      get_or s (at + k) 0 ∷ get_or s (at + (k + 1)) 0 ∷ get_or s (at + (k + 2)) 0 ∷ get_or s (at + (k + 3)) 0 ∷ t ≡ bytes_of_four (value_at s (at + k)) ++ u
  four_same k q =
      let e : at + k + 1 ≡ at + (k + 1) = omega arith in
      let f : at + k + 2 ≡ at + (k + 2) = omega arith in
      let g : at + k + 3 ≡ at + (k + 3) = omega arith in
      let b = B (at + (k + 1)) in
      let c = B (at + (k + 2)) in
      let d = B (at + (k + 3)) in
      rw (raw_signed 2147483648 (four_at s (at + k)) (four_lt (at + k)), e, f, g)
      (two_cons (omega arith) (omega arith) (two_cons (omega arith) (omega arith) q))

  -- a tag and a length
  pub opened : (tag size : ℕ) → size < 256 → opens s at tag size ≡ true → (get_or s (at + 0) 0 ≡ tag) × (get_or s (at + 1) 0 ≡ 0) × (get_or s (at + 2) 0 ≡ size)
  opened tag size l e =
      let p = both_hold (eqb (get_or s at 0) tag) (eqb (two_at s (at + 1)) size) e in
      let q : at + 1 + 1 ≡ at + 2 = omega arith in
      let n : 256 * get_or s (at + 1) 0 + get_or s (at + 2) 0 ≡ size = rw q at (eqb-true (two_at s (at + 1)) size p.1) in
      (ap (λ (i : ℕ). get_or s i 0) (add-zero at) ∙ eqb-true _ _ p.0, omega (arith, B (at + 2)), omega (arith, B (at + 2)))

-- ---- the row at an offset
module _ (s : List ℕ) (at : ℕ) (B : Bytes s) (rising : Bool) (before : ℕ) (e : row_ok rising before s at ≡ true) where
  -- its tests, one by one
  record Tests : Type 0 where
    there : reaches s at 24 ≡ true
    begun : opens s at 2 21 ≡ true
    slot : slot_ok rising before (get_or s (at + 3) 0) ≡ true
    iodn : leb (two_at s (at + 4)) 1023 ≡ true
    corr : leb (get_or s (at + 6) 0) 7 ≡ true
    values : values_ok s at ≡ true
    known : leb 1 (get_or s (at + 23) 0) ≡ true
    coded : leb (get_or s (at + 23) 0) 63 ≡ true

  tests : Tests
  unfolding row_ok
  tests =
      let p = three_hold _ (leb 1 (get_or s (at + 23) 0)) (leb (get_or s (at + 23) 0) 63) e in
      let q =
      six_hold (reaches s at 24) (opens s at 2 21) (slot_ok rising before (get_or s (at + 3) 0)) (leb (two_at s (at + 4)) 1023) (leb (get_or s (at + 6) 0) 7) (values_ok s at)
      p.0 in
      record { there = q.0; begun = q.1; slot = q.2; iodn = q.3; corr = q.4; values = q.5; known = p.1; coded = p.2 }

  code_lt : get_or s (at + 23) 0 < 64
  code_lt = omega (arith, leb-true (get_or s (at + 23) 0) 63 tests.coded)

  code_said : code_of (ura_of (get_or s (at + 23) 0)) ≡ get_or s (at + 23) 0
  code_said = code_back (get_or s (at + 23) 0) code_lt

  pub row_there : at + 24 ≤ length s
  row_there = leb-true (at + 24) (length s) tests.there

  slots : (leb 1 (get_or s (at + 3) 0) ≡ true) × (leb (get_or s (at + 3) 0) 174 ≡ true) × (not rising || ltb before (get_or s (at + 3) 0) ≡ true)
  slots = three_hold (leb 1 (get_or s (at + 3) 0)) (leb (get_or s (at + 3) 0) 174) (not rising || ltb before (get_or s (at + 3) 0)) tests.slot

  pub row_rises : not rising || ltb before (get_or s (at + 3) 0) ≡ true
  row_rises = slots.2

  -- what it says is allowed
  pub row_allowed : RowAllowed (row_said s at)
  row_allowed =
      let v =
      four_hold (is_given 16 16383 (value_at s (at + 7))) (is_given 64 4095 (value_at s (at + 11))) (is_given 64 4095 (value_at s (at + 15))) (is_given 16 16383 (value_at s (at + 19)))
      tests.values in
      record {
        low = leb-true _ _ slots.0;
        high = leb-true _ _ slots.1;
        system = refl;
        number = refl;
        iodn = leb-true _ _ tests.iodn;
        corr = leb-true _ _ tests.corr;
        radial = test_given 16 16383 (lit< tt) _ v.0;
        along = test_given 64 4095 (lit< tt) _ v.1;
        cross = test_given 64 4095 (lit< tt) _ v.2;
        clock = test_given 16 16383 (lit< tt) _ v.3;
        known = rw code_said (leb-true _ _ tests.known);
        coded = rw code_said (leb-true _ _ tests.coded);
      }

  -- and its bytes are those of what it says
  pub row_same : row_at s at 24 ≡ row_field (row_said s at)
  unfolding row_at table row_field
  row_same =
      let o = opened s at B 2 21 (lit< tt) tests.begun in
      two_cons o.0 o.1
      (two_cons o.2 refl
      (two_same s at B 4
      (ap₂ ◌∷◌ refl
      (four_same s at B 7 (four_same s at B 11 (four_same s at B 15 (four_same s at B 19 (ap (λ (c : ℕ). c ∷ []) (sym code_said)))))))))
