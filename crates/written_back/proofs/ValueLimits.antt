-- Limits of values, records and heads are those of their widths.
use mathlib.Core.Path.{◌≡◌}
use mathlib.Core.Logic.{dite, ◌≢◌}
use mathlib.Core.Bool.{Bool, true, false}
use Prim.Native.Nat.{ℕ, zero, suc, ◌+◌, ◌-◌, ◌/◌, ◌^◌, ◌≤◌, ◌<◌}
use lib.IntN.{ℤ, pos, negsuc}
use lib.Signed.{mag}
use native.Mathlib.Decide.{ℕ_discrete}
use native.Mathlib.Omega.{arith}
use borrow.Author.Tests.{eq-eqb, ne_eqb}
use Rattle.bits.specs.Pick.{pick}
use Rattle.bits.specs.Bits.{Within}
use Rattle.ura.specs.Ura.{quarters_of, code_from, code_of}
use Rattle.records.specs.Orbit.{orbit_widths}
use Rattle.records.specs.Clock.{clock_widths}
use Rattle.ura.specs.declared.Ura.{Ura}
use Rattle.ura.specs.declared.Ura.TheVariants.{Unknown, Quarters, Above}
use Rattle.records.specs.declared.orbit.Orbit.{Orbit}
use Rattle.records.specs.declared.clock.Clock.{Clock}
use Rattle.ura.proofs.UraLaws.{code_right}
use Rattle.layout.specs.Layout.{part_widths}
use Rattle.fitting.specs.Fits.{head_vals}
use Rattle.writing.specs.Fits.{clock_vals, orbit_vals}
use Rattle.biases.specs.Biases.{sat_widths, bias_widths}
use Rattle.biases.specs.declared.BiasSat.{BiasSat}
use Rattle.biases.specs.declared.Bias.{Bias}
use Rattle.bias_writing.specs.Put.{sat_vals, bias_vals}
use Rattle.written_back.specs.Limits.{Ranged, Coded, HeadLimits, ClockLimits, OrbitLimits, SatLimits, BiasLimits}
use Rattle.fitting.proofs.RawBack.{raw_or_lt, raw_or_mag}

-- ---- a signed number
ranged_mag : (n : ℕ) (z : ℤ) → Ranged n z → mag z < 2 ^ (n - 1)
ranged_mag n (pos x) h = h
ranged_mag n (negsuc m) h = h

mag_ranged : (n : ℕ) (z : ℤ) → mag z < 2 ^ (n - 1) → Ranged n z
mag_ranged n (pos x) h = h
mag_ranged n (negsuc m) h = h

-- ---- the accuracy index
-- a code that gives the quarters is found
code_found : (q c n k : ℕ) → c + n ≤ 64 → c ≤ k → k < c + n → quarters_of k ≡ q → code_from q c n < 64
unfolding code_from
code_found q c zero k l a b e = absurd (let z : ⊥ = omega arith in z)
code_found q c (suc n) k l a b e =
    dite (ℕ_discrete (quarters_of c) q)
    (λ y. rw (eq-eqb (quarters_of c) q y) (omega arith))
    (λ ne.
    let m : c ≢ k = (λ w. ne (rw w e)) in
    rw (ne_eqb (quarters_of c) q ne) (code_found q (c + 1) n k (omega arith) (omega arith) (omega arith) e))

coded_lt : (u : Ura) → Coded u → code_of u < 64
coded_lt Unknown h = omega arith
coded_lt (Quarters q) h = code_found q 1 62 h.0 (omega arith) h.1 (omega (arith, h.2)) h.3
coded_lt Above h = omega arith

lt_coded : (u : Ura) → code_of u < 64 → Coded u
lt_coded Unknown h = tt
lt_coded (Quarters q) h =
    let r = code_right q 1 62 h in
    (code_from q 1 62, r.1, omega (arith, r.2), r.0)
lt_coded Above h = tt

-- ---- a clock record
slot_within : (slotted : Bool) (v : ℕ) → v ≤ pick slotted 255 0 → v < 2 ^ pick slotted 9 0
slot_within true v h = omega arith
slot_within false v h = omega arith

pub slot_low : (slotted : Bool) (v : ℕ) → v ≤ pick slotted 255 0 → v ≤ 255
slot_low true v h = h
slot_low false v h = omega arith

pub clock_within : (slotted : Bool) (k : Clock) → ClockLimits slotted k → Within (clock_widths slotted) (clock_vals k)
clock_within slotted k h =
    (slot_within slotted k.slot h.slot, (h.corr, (raw_or_lt 16384 k.c0 (ranged_mag 15 k.c0 h.c0), tt)))

pub within_clock : (slotted : Bool) (k : Clock) → k.slot ≤ 255 → Within (clock_widths slotted) (clock_vals k) → ClockLimits slotted k
within_clock true k l w = record { slot = l; corr = w.1.0; c0 = mag_ranged 15 k.c0 (raw_or_mag 16384 k.c0 w.1.1.0) }
within_clock false k l w =
    let q : k.slot < 2 ^ 0 = w.0 in
    record { slot = omega arith; corr = w.1.0; c0 = mag_ranged 15 k.c0 (raw_or_mag 16384 k.c0 w.1.1.0) }

-- ---- an orbit record
pub orbit_within : (o : Orbit) → OrbitLimits o → Within orbit_widths (orbit_vals o)
orbit_within o h =
    let u : code_of o.ura < 64 = coded_lt o.ura h.ura in (
      omega (arith, h.slot),
      (
        h.iodn,
        (
          h.corr,
          (
            raw_or_lt 16384 o.radial (ranged_mag 15 o.radial h.radial),
            (
              raw_or_lt 4096 o.along (ranged_mag 13 o.along h.along),
              (raw_or_lt 4096 o.cross (ranged_mag 13 o.cross h.cross), (omega arith, (omega arith, tt))),
            ),
          ),
        ),
      ),
    )

pub within_orbit : (o : Orbit) → o.slot ≤ 255 → Within orbit_widths (orbit_vals o) → OrbitLimits o
within_orbit o l w =
    let r = w.1.1.1 in
    let d : code_of o.ura / 8 < 8 = r.1.1.1.0 in
    record {
      slot = l;
      iodn = w.1.0;
      corr = w.1.1.0;
      radial = mag_ranged 15 o.radial (raw_or_mag 16384 o.radial r.0);
      along = mag_ranged 13 o.along (raw_or_mag 4096 o.along r.1.0);
      cross = mag_ranged 13 o.cross (raw_or_mag 4096 o.cross r.1.1.0);
      ura = lt_coded o.ura (omega (arith, d));
    }

-- ---- a satellite of a type 3, and a bias
pub sat_within : (r : BiasSat) → SatLimits r → Within sat_widths (sat_vals r)
sat_within r h = (omega (arith, h.slot), (h.count, tt))

pub within_sat : (r : BiasSat) → r.slot ≤ 255 → Within sat_widths (sat_vals r) → SatLimits r
within_sat r l w = record { slot = l; count = w.1.0 }

pub bias_within : (b : Bias) → BiasLimits b → Within bias_widths (bias_vals b)
bias_within b h = (h.mode, (raw_or_lt 2048 b.value (ranged_mag 12 b.value h.value), tt))

pub within_bias : (b : Bias) → Within bias_widths (bias_vals b) → BiasLimits b
within_bias b w = record { mode = w.0; value = mag_ranged 12 b.value (raw_or_mag 2048 b.value w.1.0) }

-- ---- the head of a part
pub head_within : (iodp start epoch ssr p v : ℕ) → HeadLimits iodp start epoch ssr p v → Within (part_widths iodp start) (head_vals epoch ssr p v)
head_within iodp start epoch ssr p v h = (omega (arith, h.epoch), (omega arith, (h.ssr, (h.iodp, (h.start, tt)))))

pub within_head : (p w e s i v : ℕ) → e ≤ 86399 → Within (part_widths p w) (head_vals e s i v) → HeadLimits p w e s i v
within_head p w e s i v l h = record { epoch = omega arith; ssr = h.1.1.0; iodp = h.1.1.1.0; start = h.1.1.1.1.0 }
