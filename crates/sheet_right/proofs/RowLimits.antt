-- The rows of the list in force, after any frames, are rows that a sheet can hold.
use Prim.Native.Nat.{ℕ, ◌+◌, ◌≤◌, ◌<◌}
use mathlib.Core.Path.{◌≡◌, refl}
use mathlib.Core.Bool.{true, false, not}
use mathlib.Core.List.{List, [], Memᴰ}
use native.Mathlib.Omega.{arith}
use lib.Dec.{leb}
use lib.IntN.{ℤ, pos, negsuc}
use lib.Signed.{mag}
use borrow.Author.Tests.{leb-true, eqb-false, not-true}
use Rattle.bits.proofs.TestLaws.{both_hold}
use Rattle.ura.specs.Ura.{code_of}
use Rattle.ura.specs.declared.Ura.{Ura}
use Rattle.ura.specs.declared.Ura.TheVariants.{Unknown, Quarters, Above}
use Rattle.ura.proofs.UraLaws.{code_right}
use Rattle.mask_bits.specs.Bits.{bit_at_slot}
use Rattle.held_mask.specs.Mask.{HeldMask}
use Rattle.held_clocks.specs.declared.HeldClock.{HeldClock}
use Rattle.held_orbits.specs.declared.HeldOrbit.{HeldOrbit}
use Rattle.in_force.specs.Back.{mask_in_force, orbit_in_force, clock_in_force, code_in_force}
use Rattle.broadcast.specs.Issues.{issue_of}
use Rattle.row.specs.Row.{is_known, lowest, usable, agrees, is_assigned, qualifies, row_from}
use Rattle.row.specs.declared.Row.{Row}
use Rattle.list_right.specs.InForce.{coded_after, qualifies_after, row_after, list_in_force}
use Rattle.list_right.proofs.ListRight.{list_is_right}
use Rattle.sheet_right.specs.Allowed.{RowAllowed}
use Rattle.sheet_right.proofs.TestLaws.{five_hold}
use Rattle.sheet_right.proofs.ForceLimits.{HeldLimits, C0Limit, coded_limits, orbit_force, clock_force}
use Rattle.sheet_form.specs.Reading.{absolute}

-- a number of 15 or 13 bits that is not the lowest gives a value
near_usable : (most : ℕ) (z : ℤ) → mag z < most + 1 → lowest most z ≡ false → absolute z ≤ most
near_usable most (pos x) l e = omega arith
near_usable most (negsuc m) l e = (let n = eqb-false m most e in omega arith)

-- a code that is known is not 0
known_code : (u : Ura) → is_known u ≡ true → code_of u ≤ 63 → 1 ≤ code_of u
known_code Unknown k l = absurd (let z : ◌≡◌ {A = ℕ} 0 1 = cc in omega arith)
known_code (Quarters q) k l = (let r = code_right q 1 62 (omega arith) in r.1)
known_code Above k l = omega arith

-- ---- a slot that qualifies
module _ (m : HeldMask) (o : HeldOrbit) (k : HeldClock) (issue slot : ℕ) (e : qualifies m o k issue slot ≡ true) (O : HeldLimits o) (K : C0Limit k) where
  tests : (is_assigned slot ≡ true) × (m.has ≡ true) × (bit_at_slot m.bits slot ≡ true) × (agrees m.ssr o k issue ≡ true) × (usable o k ≡ true)
  unfolding qualifies
  tests = five_hold (is_assigned slot) m.has (bit_at_slot m.bits slot) (agrees m.ssr o k issue) (usable o k) e

  assigned : (leb 1 slot ≡ true) × (leb slot 174 ≡ true)
  unfolding is_assigned
  assigned = both_hold (leb 1 slot) (leb slot 174) tests.0

  record Usable : Type 0 where
    known : is_known o.ura ≡ true
    radial : lowest 16383 o.radial ≡ false
    along : lowest 4095 o.along ≡ false
    cross : lowest 4095 o.cross ≡ false
    clock : lowest 16383 k.c0 ≡ false

  used : Usable
  unfolding usable
  used =
      let p = five_hold (is_known o.ura) (not (lowest 16383 o.radial)) (not (lowest 4095 o.along)) (not (lowest 4095 o.cross)) (not (lowest 16383 k.c0)) tests.4 in
      record { known = p.0; radial = not-true _ p.1; along = not-true _ p.2; cross = not-true _ p.3; clock = not-true _ p.4 }

  row_fits : RowAllowed (row_from slot o k)
  row_fits = record {
    low = leb-true 1 slot assigned.0;
    high = leb-true slot 174 assigned.1;
    system = refl;
    number = refl;
    iodn = O.iodn;
    corr = O.corr;
    radial = record { raw = o.radial; near = near_usable 16383 o.radial O.radial used.radial; scaled = refl };
    along = record { raw = o.along; near = near_usable 4095 o.along O.along used.along; scaled = refl };
    cross = record { raw = o.cross; near = near_usable 4095 o.cross O.cross used.cross; scaled = refl };
    clock = record { raw = k.c0; near = near_usable 16383 k.c0 K used.clock; scaled = refl };
    known = known_code o.ura used.known O.ura;
    coded = O.ura;
  }

-- ---- the list
module _ (prn : ℕ) (h : List (List ℕ)) (is : List ℕ) where
  slot_fits : (slot : ℕ) → qualifies_after prn h is slot ≡ true → RowAllowed (row_after prn h slot)
  unfolding qualifies_after row_after
  slot_fits slot e =
      row_fits (mask_in_force prn h) (coded_after prn h slot) (clock_in_force prn h slot) (issue_of is slot) slot e
      (coded_limits (orbit_in_force prn h slot) (code_in_force prn h slot) (orbit_force prn h slot)) (clock_force prn [] h slot)

  pub list_fits : (r : Row) → Memᴰ r (list_in_force prn h is) → RowAllowed r
  list_fits r m = (let s = (list_is_right prn h is).only r m in rw s.row (slot_fits s.slot s.qualified))
