-- What is read at bit a of s and at bit b of t is the same where the bits agree.
use Prim.Native.Nat.{ℕ, zero, suc, ◌+◌, ◌*◌, ◌<◌, ◌≤◌}
use mathlib.Core.Path.{◌≡◌, refl, ap, ap₂}
use mathlib.Core.Logic.{dite}
use mathlib.Core.Bool.{Bool, true, false}
use mathlib.Core.List.{List, [], ◌∷◌}
use native.Mathlib.Decide.{dec_lt, ℕ_discrete}
use native.Mathlib.Omega.{arith}
use lib.Dec.{eqb}
use lib.ListN.{get_or}
use borrow.Author.Tests.{eq-eqb, ne_eqb, lt-ltb, le-ltb}
use Rattle.bits.specs.Pick.{pick}
use Rattle.bits.specs.Bits.{bit_at, bits_from, field_at, fields_at, total}
use Rattle.bits.proofs.TableLaws.{table_ext}
use Rattle.check24.specs.Check.{check_bits, check_of, check_ok}
use Rattle.records.specs.Orbit.{orbit_widths, orbit_of}
use Rattle.records.specs.Clock.{clock_widths, clock_of}
use Rattle.layout.specs.Layout.{part_widths, layout_of, orbit_bits, orbits_from, end_of}
use Rattle.layout.specs.declared.Layout.{Layout}
use Rattle.layout.proofs.LayoutLaws.{pick_all, from_some}
use Rattle.contents.specs.Parts.{clock_nth, clocks_at, orbit_nth, orbits_at, mask_bytes_at, no_mask, mask_in, clocks_in, orbits_in}
use Rattle.contents.specs.declared.parts.MaskPart.{MaskPart}
use Rattle.contents.specs.declared.parts.ClockPart.{ClockPart}
use Rattle.contents.specs.declared.parts.OrbitPart.{OrbitPart}
use Rattle.records.specs.declared.clock.Clock.{Clock}
use Rattle.records.specs.declared.orbit.Orbit.{Orbit}
use Rattle.made_read.specs.MadeRead.{Agree}

-- every type's head is short
pub short_head : (kind numc numo : ℕ) → (layout_of kind numc numo).head ≤ 14
unfolding layout_of
short_head kind numc numo =
    pick_all (λ (l : Layout). l.head ≤ 14) (eqb kind 1) _ _ (omega arith)
    (pick_all (λ (l : Layout). l.head ≤ 14) (eqb kind 2) _ _ (omega arith)
    (pick_all (λ (l : Layout). l.head ≤ 14) (eqb kind 4) _ _ (omega arith)
    (pick_all (λ (l : Layout). l.head ≤ 14) (eqb kind 6) _ _ (omega arith)
    (pick_all (λ (l : Layout). l.head ≤ 14) (eqb kind 7) _ _ (omega arith) (omega arith)))))

module _ (n : ℕ) (s : List ℕ) (a : ℕ) (t : List ℕ) (b : ℕ) (same : Agree n s a t b) where
  -- ---- bits and fields k bits on
  bit_at_lem : (x y k : ℕ) → x ≡ a + k → y ≡ b + k → k < n → bit_at s x ≡ bit_at t y
  bit_at_lem x y k e f h = rw (e, f) (same k h)

  pub field_at_lem : (x y k w : ℕ) → x ≡ a + k → y ≡ b + k → k + w ≤ n → field_at s x w ≡ field_at t y w
  unfolding field_at
  field_at_lem x y k zero e f h = refl
  field_at_lem x y k (suc w) e f h =
      ap₂ (λ (p q : ℕ). 2 * p + q) (field_at_lem x y k w e f (omega arith)) (bit_at_lem (x + w) (y + w) (k + w) (omega arith) (omega arith) (omega arith))

  pub fields_at_lem : (x y k : ℕ) (ws : List ℕ) → x ≡ a + k → y ≡ b + k → k + total ws ≤ n → fields_at s x ws ≡ fields_at t y ws
  fields_at_lem x y k [] e f h = refl
  fields_at_lem x y k (w ∷ ws) e f h =
      ap₂ (λ (v : ℕ) (vs : List ℕ). v ∷ vs) (field_at_lem x y k w e f (omega arith))
      (fields_at_lem (x + w) (y + w) (k + w) ws (omega arith) (omega arith) (omega arith))

  bits_at : (x y k m : ℕ) → x ≡ a + k → y ≡ b + k → k + m ≤ n → bits_from s x m ≡ bits_from t y m
  unfolding bits_from
  bits_at x y k zero e f h = refl
  bits_at x y k (suc m) e f h =
      ap₂ (λ (v : ℕ) (vs : List ℕ). v ∷ vs) (bit_at_lem x y k e f (omega arith))
      (bits_at (x + 1) (y + 1) (k + 1) m (omega arith) (omega arith) (omega arith))

  -- ---- the check
  pub check_same : (m : ℕ) → m + 24 ≤ n → check_ok s a m ≡ check_ok t b m
  unfolding check_of
  check_same m h =
      ap₂ eqb (ap (check_bits 0) (bits_at a b 0 m (omega arith) (omega arith) (omega arith)))
      (field_at_lem (a + m) (b + m) m 24 refl refl h)

  -- ---- the parts of a layout that ends within the bits
  pub mask_same : (l : Layout) → l.head ≤ 14 → 296 ≤ n → mask_in s a l ≡ mask_in t b l
  unfolding mask_in mask_bytes_at
  mask_same l h r =
      ap (λ (p : MaskPart). pick l.mask p no_mask)
      (ap₂ (λ (f bs : List ℕ). mask f bs)
      (fields_at_lem (a + l.head) (b + l.head) l.head (part_widths 4 0) refl refl (omega arith))
      (table_ext _ _ 32
      (λ j g.
      let x = a + l.head + 27 + 8 * j in
      let y = b + l.head + 27 + 8 * j in
      let k = l.head + 27 + 8 * j in
      dite (dec_lt j 31)
      (λ e. rw (lt-ltb j 31 e) (field_at_lem x y k 8 (omega arith) (omega arith) (omega arith)))
      (λ e. rw (le-ltb j 31 (omega arith)) (ap (λ (v : ℕ). 2 * v) (field_at_lem x y k 7 (omega arith) (omega arith) (omega arith)))))))
    where
      mask : List ℕ → List ℕ → MaskPart
      mask f bs = record { epoch = get_or f 0 0; ssr = get_or f 2 0; iodp = get_or f 3 0; bytes = bs }

  clock_row_lem : (slotted : Bool) (x y k count : ℕ) → x ≡ a + k → y ≡ b + k → k + pick slotted 27 18 * count ≤ n → (i : ℕ)
      → clock_nth slotted s x count i ≡ clock_nth slotted t y count i
  clock_row_lem true x y k count e f h i =
      dite (dec_lt i count)
      (λ l. rw (lt-ltb i count l) (ap (clock_of true) (fields_at_lem (x + 27 * i) (y + 27 * i) (k + 27 * i) (clock_widths true) (omega arith) (omega arith) (omega arith))))
      (λ l. rw (le-ltb i count (omega arith)))
  clock_row_lem false x y k count e f h i =
      dite (dec_lt i count)
      (λ l. rw (lt-ltb i count l) (ap (clock_of false) (fields_at_lem (x + 18 * i) (y + 18 * i) (k + 18 * i) (clock_widths false) (omega arith) (omega arith) (omega arith))))
      (λ l. rw (le-ltb i count (omega arith)))

  orbit_row_lem : (x y k count : ℕ) → x ≡ a + k → y ≡ b + k → k + 69 * count ≤ n → (i : ℕ) → orbit_nth s x count i ≡ orbit_nth t y count i
  orbit_row_lem x y k count e f h i =
      dite (dec_lt i count)
      (λ l. rw (lt-ltb i count l) (ap orbit_of (fields_at_lem (x + 69 * i) (y + 69 * i) (k + 69 * i) orbit_widths (omega arith) (omega arith) (omega arith))))
      (λ l. rw (le-ltb i count (omega arith)))

  pub clocks_same : (l : Layout) → end_of l ≤ n → clocks_in s a l ≡ clocks_in t b l
  unfolding clocks_in clocks_at
  clocks_same l h =
      dite (ℕ_discrete l.clocks 0)
      (λ e. rw (eq-eqb l.clocks 0 e))
      (λ ne.
      let z = 23 + l.iodp + l.start in
      let w = pick l.slotted 27 18 * l.clocks in
      let g : l.head + (z + w) ≤ n = omega (arith, from_some l ne) in
      rw (ne_eqb l.clocks 0 ne)
      (ap₂ (λ (f : List ℕ) (ks : List Clock). clock l f ks)
      (fields_at_lem (a + l.head) (b + l.head) l.head (part_widths l.iodp l.start) refl refl (omega arith))
      (table_ext _ _ 23
      (λ i q. clock_row_lem l.slotted (a + l.head + z) (b + l.head + z) (l.head + z) l.clocks (omega arith) (omega arith) (omega arith) i))))
    where
      clock : Layout → List ℕ → List Clock → ClockPart
      clock l f ks =
          record { epoch = get_or f 0 0; ssr = get_or f 2 0; iodp = get_or f 3 0; start = get_or f 4 0; count = l.clocks; clocks = ks }

  pub orbits_same : (l : Layout) → end_of l ≤ n → orbits_in s a l ≡ orbits_in t b l
  unfolding orbits_in orbits_at
  orbits_same l h =
      dite (ℕ_discrete l.orbits 0)
      (λ e. rw (eq-eqb l.orbits 0 e))
      (λ ne.
      let k = orbits_from l in
      let some : orbit_bits l ≡ 23 + 69 * l.orbits = rw (ne_eqb l.orbits 0 ne) in
      let g : k + (23 + 69 * l.orbits) ≤ n = omega (arith, some) in
      rw (ne_eqb l.orbits 0 ne)
      (ap₂ (λ (f : List ℕ) (os : List Orbit). orbit l f os)
      (fields_at_lem (a + k) (b + k) k (part_widths 0 0) refl refl (omega arith))
      (table_ext _ _ 6
      (λ i q. orbit_row_lem (a + k + 23) (b + k + 23) (k + 23) l.orbits (omega arith) (omega arith) (omega arith) i))))
    where
      orbit : Layout → List ℕ → List Orbit → OrbitPart
      orbit l f os = record { epoch = get_or f 0 0; ssr = get_or f 2 0; count = l.orbits; orbits = os }
