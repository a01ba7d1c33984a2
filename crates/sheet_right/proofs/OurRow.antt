-- A row with the numbers of our row of its slot is that row.
use Prim.Native.Nat.{ℕ}
use mathlib.Core.Path.{◌≡◌, refl, sym, ap, ap₂, ◌∙◌}
use mathlib.Core.Bool.{Bool, true, false, true≢false}
use mathlib.Core.List.{List, Memᴰ}
use mathlib.Core.Option.{none, some}
use native.Mathlib.Omega.{arith}
use lib.Dec.{eqb}
use lib.IntN.{ℤ, pos, negsuc}
use borrow.Author.Tests.{eqb-true, eq-eqb}
use Rattle.bits.specs.Pick.{pick}
use Rattle.bits.proofs.TestLaws.{both_hold}
use Rattle.lookback.proofs.WalkLaws.{rows_found, found_rows}
use Rattle.slots.specs.Slots.{satellite_of}
use Rattle.ura.specs.Ura.{kind_of, quarters_in, held_ura}
use Rattle.ura.specs.declared.Ura.{Ura}
use Rattle.ura.proofs.UraLaws.{kind_back}
use Rattle.held_clocks.specs.Clocks.{held_clock_at}
use Rattle.held_mask.specs.Mask.{mask_at}
use Rattle.broadcast.specs.Issues.{issue_of}
use Rattle.row.specs.Row.{coded_at, row_from, row_of, qualifies}
use Rattle.row.specs.declared.Row.{Row}
use Rattle.list.specs.Rows.{row_in, list_in}
use Rattle.sheet_checking.specs.Same.{same_number_of, same_ura, same_numbers}
use Rattle.sheet_checking.proofs.CountLaws.{Passed, slot_low, slot_high}
use Rattle.sheet_right.proofs.TestLaws.{six_hold}
use Rattle.sheet_right.proofs.RowBack.{row_by_lem}

-- ---- the same numbers
-- values that are the same are equal
same_number : (x y : ℤ) → same_number_of x y ≡ true → x ≡ y
same_number (pos x) (pos y) e = ap pos (eqb-true x y e)
same_number (pos x) (negsuc n) e = absurd (true≢false (sym e))
same_number (negsuc m) (pos y) e = absurd (true≢false (sym e))
same_number (negsuc m) (negsuc n) e = ap negsuc (eqb-true m n e)

-- a value is the same as itself
own_number : (x : ℤ) → same_number_of x x ≡ true
own_number (pos x) = eq-eqb x x refl
own_number (negsuc m) = eq-eqb m m refl

-- indices that are the same are equal
same_ura_lem : (u v : Ura) → same_ura u v ≡ true → u ≡ v
same_ura_lem u v e =
    let p = both_hold (eqb (kind_of u) (kind_of v)) (eqb (quarters_in u) (quarters_in v)) e in
    sym (kind_back u) ∙ ap₂ held_ura (eqb-true (kind_of u) (kind_of v) p.0) (eqb-true (quarters_in u) (quarters_in v) p.1) ∙ kind_back v

-- a row whose satellite is that of its slot
pub record OfSlot (r : Row) : Type 0 where
  pub system : r.system ≡ (satellite_of r.slot.0).system
  pub number : r.number ≡ (satellite_of r.slot.0).number

-- two such rows of one slot with the same numbers are equal
pub same_row : (a b : Row) → OfSlot a → OfSlot b → a.slot.0 ≡ b.slot.0 → same_numbers a b ≡ true → a ≡ b
unfolding same_numbers
same_row a b A B s e =
    let p = both_hold _ (same_ura a.ura b.ura) e in
    let q = six_hold (eqb a.iodn b.iodn) (eqb a.corr b.corr) (same_number_of a.radial b.radial) (same_number_of a.along b.along) (same_number_of a.cross b.cross) (same_number_of a.clock b.clock) p.0 in
    row_by_lem b
    (ap (λ (n : ℕ). record { 0 = n }) s)
    (A.system ∙ ap (λ (n : ℕ). (satellite_of n).system) s ∙ sym B.system)
    (A.number ∙ ap (λ (n : ℕ). (satellite_of n).number) s ∙ sym B.number)
    (eqb-true _ _ q.0)
    (eqb-true _ _ q.1)
    (same_number _ _ q.2)
    (same_number _ _ q.3)
    (same_number _ _ q.4)
    (same_number _ _ q.5)
    (same_ura_lem _ _ p.1)

-- a row has its own numbers
pub own_numbers : (r : Row) → same_numbers r r ≡ true
unfolding same_numbers
own_numbers r =
    rw (
      eq-eqb r.iodn r.iodn refl,
      eq-eqb r.corr r.corr refl,
      own_number r.radial,
      own_number r.along,
      own_number r.cross,
      own_number r.clock,
      eq-eqb (kind_of r.ura) (kind_of r.ura) refl,
      eq-eqb (quarters_in r.ura) (quarters_in r.ura) refl,
    )

-- ---- our rows
module _ (s is : List ℕ) where
  -- what was picked is what was there
  picked : (b : Bool) (x r : Row) → pick b (some x) none ≡ some r → r ≡ x
  picked true x r e = cc
  picked false x r e = absurd (let z : ◌≡◌ {A = ℕ} 0 1 = cc in omega arith)

  -- the row of a slot
  row_in_lem : (slot : ℕ) (r : Row) → row_in s is slot ≡ some r → r ≡ row_from slot (coded_at s slot) (held_clock_at s slot)
  unfolding row_of
  row_in_lem slot r e =
      picked (qualifies (mask_at s) (coded_at s slot) (held_clock_at s slot) (issue_of is slot) slot) (row_from slot (coded_at s slot) (held_clock_at s slot)) r e

  -- says its slot
  pub own_slot : (slot : ℕ) (r : Row) → row_in s is slot ≡ some r → r.slot.0 ≡ slot
  own_slot slot r e = ap (λ (x : Row). x.slot.0) (row_in_lem slot r e)

  -- and its satellite
  of_slot : (slot : ℕ) (r : Row) → row_in s is slot ≡ some r → OfSlot r
  of_slot slot r e = rw (row_in_lem slot r e) (record { system = refl; number = refl })

  -- a row of our list is the row of its slot
  pub our_slot : (r : Row) → Memᴰ r (list_in s is) → row_in s is r.slot.0 ≡ some r
  our_slot r m =
      let f = rows_found (row_in s is) 255 1 r m in
      ap (row_in s is) (own_slot f.slot r f.row) ∙ f.row

  -- and the row of its slot is in our list
  pub slot_our : (r : Row) → row_in s is r.slot.0 ≡ some r → Memᴰ r (list_in s is)
  slot_our r e =
      found_rows (row_in s is) 255 1 r
      (record { slot = r.slot.0; low = slot_low s is r.slot.0 r e; high = omega (arith, slot_high s is r.slot.0 r e); row = e })

  -- a row of a sheet that passes is a row of our list
  pub passed_our : (earlier : List Row) (r : Row) → OfSlot r → Passed s is earlier r → Memᴰ r (list_in s is)
  passed_our earlier r A p =
      let e : r ≡ p.ours = same_row r p.ours A (of_slot r.slot.0 p.ours p.found) (sym (own_slot r.slot.0 p.ours p.found)) p.equal in
      slot_our r (p.found ∙ ap some (sym e))
