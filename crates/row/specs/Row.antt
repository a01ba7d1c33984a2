-- 01, What the ledger keeps: when a slot qualifies, and its row.
use Rattle.std.specs.Prelude.{ℕ, Bool, true, false, not, ◌&&◌, List, eqb, leb, ℤ, pos, negsuc, ◌*ℤ◌, Result, Ok, Err}
use Rattle.std.proofs.Math.Option.{Option, none, some}
use Rattle.bits.specs.Pick.{pick}
use Rattle.slots.specs.Slots.{satellite_of}
use Rattle.ura.specs.Ura.{ura_of}
use Rattle.ura.specs.declared.Ura.{Ura}
use Rattle.ura.specs.declared.Ura.TheVariants.{Unknown, Quarters, Above}
use Rattle.held_clocks.specs.Clocks.{held_clock_at}
use Rattle.held_orbits.specs.Orbits.{held_orbit_at}
use Rattle.held_codes.specs.Codes.{held_code_at}
use Rattle.held_clocks.specs.declared.HeldClock.{HeldClock}
use Rattle.held_orbits.specs.declared.HeldOrbit.{HeldOrbit}
use Rattle.held_codes.specs.declared.HeldCode.{HeldCode}
use Rattle.mask_bits.specs.Bits.{bit_at_slot}
use Rattle.held_mask.specs.Mask.{HeldMask, mask_at}
use Rattle.row.specs.declared.Row.{Row}
use Rattle.verdict.specs.declared.Refused.{Refused}

-- 01: the URA code is not 0
abbrev pub is_known : Ura → Bool
is_known Unknown = false
is_known (Quarters q) = true
is_known Above = true

-- 01: raw −(n + 1), the lowest of a width, means "unusable"
abbrev pub lowest : ℕ → ℤ → Bool
lowest n (pos v) = false
lowest n (negsuc v) = eqb v n

-- 01: the URA code is not 0, no raw value is unusable: −16384 (15 bits), −4096 (13 bits)
unfoldable pub usable : HeldOrbit → HeldClock → Bool
usable o k =
    is_known o.ura && not (lowest 16383 o.radial) && not (lowest 4095 o.along) && not (lowest 4095 o.cross) && not (lowest 16383 k.c0)

-- 01: orbit and clock in force, both carry the mask's IOD SSR, their IOD Corr are equal, the broadcast issue equals IODN
unfoldable pub agrees : ℕ → HeldOrbit → HeldClock → ℕ → Bool
agrees ssr o k issue = o.has && k.has && eqb o.ssr ssr && eqb k.ssr ssr && eqb o.corr k.corr && eqb o.iodn issue

-- 01, Slots and places: slots 1 to 174 are those of BeiDou, GPS, Galileo and GLONASS; 175 to 255 are reserved and have no satellite
unfoldable pub is_assigned : ℕ → Bool
is_assigned slot = leb 1 slot && leb slot 174

-- 01: a slot of a satellite qualifies when the mask in force has its bit, and its orbit, clock and issue agree and are usable
unfoldable pub qualifies : HeldMask → HeldOrbit → HeldClock → ℕ → ℕ → Bool
qualifies m o k issue slot = is_assigned slot && m.has && bit_at_slot m.bits slot && agrees m.ssr o k issue && usable o k

-- 01: slot, system and its number, IODN, IOD Corr, the three orbit values, the clock value and the URA; radial and C0 × 16, along and cross × 64
abbrev pub row_from : ℕ → HeldOrbit → HeldClock → Row
row_from slot o k =
    record {
      slot = record { 0 = slot };
      system = (satellite_of slot).system;
      number = (satellite_of slot).number;
      iodn = o.iodn;
      corr = o.corr;
      radial = o.radial *ℤ pos 16;
      along = o.along *ℤ pos 64;
      cross = o.cross *ℤ pos 64;
      clock = k.c0 *ℤ pos 16;
      ura = o.ura;
    }

-- the row of a slot that qualifies, none of another
unfoldable pub row_of : HeldMask → HeldOrbit → HeldClock → ℕ → ℕ → Option Row
row_of m o k issue slot = pick (qualifies m o k issue slot) (some (row_from slot o k)) none

-- 02, CR 2: an orbit with the URA of the code that replaces its own, where there is one
unfoldable pub coded : HeldOrbit → HeldCode → HeldOrbit
coded o k =
    record {
      has = o.has;
      epoch = o.epoch;
      ssr = o.ssr;
      iodn = o.iodn;
      corr = o.corr;
      radial = o.radial;
      along = o.along;
      cross = o.cross;
      ura = pick k.has (ura_of k.code) o.ura;
    }

-- the orbit of a slot by what a ledger's bytes hold, with the replaced code
abbrev pub coded_at : List ℕ → ℕ → HeldOrbit
coded_at s slot = coded (held_orbit_at s slot) (held_code_at s slot)

-- the row of a slot by what a ledger's bytes hold
abbrev pub row_held : List ℕ → ℕ → ℕ → Option Row
row_held s issue slot = row_of (mask_at s) (coded_at s slot) (held_clock_at s slot) issue slot

-- 01, Refusal numbers: the number and the value of each answer; a row is 0 and the row, a refusal its number alone
abbrev pub row_says : Result Row Refused → ℕ × Option Row
row_says (Ok r) = (0, some r)
row_says (Err n) = (n.0, none)

-- refused with n; else the row, or 18 where there is none
abbrev pub answer_of : ℕ → Option Row → ℕ × Option Row
answer_of n (some r) = pick (eqb n 0) (0, some r) (n, none)
answer_of n none = pick (eqb n 0) (18, none) (n, none)
