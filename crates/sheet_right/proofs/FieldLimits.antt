-- 01, Message fields: what the widths of a message's fields allow, for the mask, the orbits and the clocks of any bytes.
use Prim.Native.Nat.{ℕ, ◌+◌, ◌*◌, ◌≤◌, ◌<◌}
use mathlib.Core.Bool.{Bool, ◌&&◌}
use mathlib.Core.List.{List}
use native.Mathlib.Omega.{arith}
use lib.Dec.{eqb, ltb, lit<}
use Rattle.bits.specs.Pick.{pick}
use Rattle.bits.specs.Bits.{field_at}
use Rattle.bits.proofs.FieldLaws.{field_lt}
use Rattle.layout.specs.Layout.{orbits_from}
use Rattle.layout.specs.declared.Layout.{Layout}
use Rattle.layout.proofs.LayoutLaws.{pick_all}
use Rattle.ura.specs.Ura.{code_of}
use Rattle.ura.proofs.UraLaws.{code_back}
use Rattle.records.specs.Orbit.{blank_orbit, orbit_at}
use Rattle.records.specs.Clock.{blank_clock, clock_at}
use Rattle.records.specs.declared.orbit.Orbit.{Orbit}
use Rattle.records.specs.declared.clock.Clock.{Clock}
use Rattle.records.proofs.SignedLaws.{InBits, signed_in_bits}
use Rattle.contents.specs.Parts.{clock_nth, clocks_at, orbit_nth, orbits_at, mask_part_at, clock_part_at, orbit_part_at, no_mask, no_clocks, no_orbits, mask_in, clocks_in, orbits_in, layout_at, contents_at}
use Rattle.contents.specs.declared.parts.MaskPart.{MaskPart}
use Rattle.contents.specs.declared.parts.ClockPart.{ClockPart}
use Rattle.contents.specs.declared.parts.OrbitPart.{OrbitPart}
use Rattle.sheet_right.proofs.EachLaws.{Each, each_table}

-- 01: IODN [10], IOD Corr [3], radial [15], along [13], cross [13], URA class and value [6]
pub record OrbitLimits (o : Orbit) : Type 0 where
  pub iodn : o.iodn ≤ 1023
  pub corr : o.corr ≤ 7
  pub radial : InBits 15 o.radial
  pub along : InBits 13 o.along
  pub cross : InBits 13 o.cross
  pub ura : code_of o.ura ≤ 63

-- 01: C0 [15]
abbrev pub ClockLimits : Clock → Type 0
ClockLimits k = InBits 15 k.c0

-- 01: IOD SSR [2], IODP [4]
pub record MaskLimits (m : MaskPart) : Type 0 where
  pub ssr : m.ssr ≤ 3
  pub iodp : m.iodp ≤ 15

blank_orbit_lem : OrbitLimits blank_orbit
blank_orbit_lem = record { iodn = omega arith; corr = omega arith; radial = lit< tt; along = lit< tt; cross = lit< tt; ura = omega arith }

orbit_read : (s : List ℕ) (at : ℕ) → OrbitLimits (orbit_at s at)
orbit_read s at =
    pick_all OrbitLimits (eqb (field_at s at 9) 0) _ _ blank_orbit_lem
    (record {
      iodn = omega (arith, field_lt s (at + 9) 10);
      corr = omega (arith, field_lt s (at + 9 + 10) 3);
      radial = signed_in_bits 15 (lit< tt) s (at + 9 + 10 + 3);
      along = signed_in_bits 13 (lit< tt) s (at + 9 + 10 + 3 + 15);
      cross = signed_in_bits 13 (lit< tt) s (at + 9 + 10 + 3 + 15 + 13);
      ura = (let c : 8 * field_at s (at + 9 + 10 + 3 + 15 + 13 + 13) 3 + field_at s (at + 9 + 10 + 3 + 15 + 13 + 13 + 3) 3 < 64 = omega (arith, field_lt s (at + 9 + 10 + 3 + 15 + 13 + 13) 3, field_lt s (at + 9 + 10 + 3 + 15 + 13 + 13 + 3) 3) in
          rw (code_back _ c) (omega arith));
    })

clock_read : (slotted : Bool) (s : List ℕ) (at : ℕ) → ClockLimits (clock_at slotted s at)
clock_read slotted s at =
    pick_all ClockLimits (slotted && eqb (field_at s at (pick slotted 9 0)) 0) _ _ (lit< tt) (signed_in_bits 15 (lit< tt) s (at + pick slotted 9 0 + 3))

orbit_nth_lem : (s : List ℕ) (at count i : ℕ) → OrbitLimits (orbit_nth s at count i)
orbit_nth_lem s at count i = pick_all OrbitLimits (ltb i count) (orbit_at s (at + 69 * i)) blank_orbit (orbit_read s (at + 69 * i)) blank_orbit_lem

clock_nth_lem : (slotted : Bool) (s : List ℕ) (at count i : ℕ) → ClockLimits (clock_nth slotted s at count i)
clock_nth_lem slotted s at count i =
    pick_all ClockLimits (ltb i count) (clock_at slotted s (at + pick slotted 27 18 * i)) blank_clock (clock_read slotted s (at + pick slotted 27 18 * i)) (lit< tt)

-- ---- of a message that begins at a bit
module _ (s : List ℕ) (at : ℕ) (l : Layout) where
  orbits_in_lem : Each OrbitLimits (orbits_in s at l).orbits
  unfolding orbits_in no_orbits orbits_at
  orbits_in_lem =
      pick_all (λ (p : OrbitPart). Each OrbitLimits p.orbits) (eqb l.orbits 0) no_orbits (orbit_part_at s (at + orbits_from l) l)
      (each_table OrbitLimits (λ (i : ℕ). blank_orbit) 6 (λ i. blank_orbit_lem))
      (each_table OrbitLimits (orbit_nth s (at + orbits_from l + 23) l.orbits) 6 (orbit_nth_lem s (at + orbits_from l + 23) l.orbits))

  clocks_in_lem : Each ClockLimits (clocks_in s at l).clocks
  unfolding clocks_in no_clocks clocks_at
  clocks_in_lem =
      let from = at + l.head + (23 + l.iodp + l.start) in
      pick_all (λ (p : ClockPart). Each ClockLimits p.clocks) (eqb l.clocks 0) no_clocks (clock_part_at s (at + l.head) l)
      (each_table ClockLimits (λ (i : ℕ). blank_clock) 23 (λ i. lit< tt))
      (each_table ClockLimits (clock_nth l.slotted s from l.clocks) 23 (clock_nth_lem l.slotted s from l.clocks))

  mask_in_lem : MaskLimits (mask_in s at l)
  unfolding mask_in no_mask
  mask_in_lem =
      pick_all MaskLimits l.mask (mask_part_at s (at + l.head)) no_mask
      (record { ssr = omega (arith, field_lt s (at + l.head + 17 + 4) 2); iodp = omega (arith, field_lt s (at + l.head + 17 + 4 + 2) 4) })
      (record { ssr = omega arith; iodp = omega arith })

module _ (s : List ℕ) (at : ℕ) where
  pub orbits_limits : Each OrbitLimits (contents_at s at).orbit.orbits
  unfolding contents_at
  orbits_limits = orbits_in_lem s at (layout_at s at)

  pub clocks_limits : Each ClockLimits (contents_at s at).clock.clocks
  unfolding contents_at
  clocks_limits = clocks_in_lem s at (layout_at s at)

  pub mask_limits : MaskLimits (contents_at s at).mask
  unfolding contents_at
  mask_limits = mask_in_lem s at (layout_at s at)
