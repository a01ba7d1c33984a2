-- A record whose fields are within their widths is read back from the values that are written, blank where its slot is 0.
use mathlib.Core.Path.{◌≡◌}
use mathlib.Core.Logic.{dite}
use mathlib.Core.Bool.{Bool, true, false}
use Prim.Native.Nat.{ℕ, ◌+◌, ◌*◌, ◌/◌, ◌%◌, ◌^◌, ◌<◌}
use native.Mathlib.Decide.{ℕ_discrete}
use native.Mathlib.Omega.{arith}
use lib.Dec.{eqb}
use borrow.Author.Tests.{eq-eqb, ne_eqb}
use Rattle.bits.specs.Pick.{pick}
use Rattle.bits.specs.Bits.{Within}
use Rattle.records.specs.Signed.{signed_half}
use Rattle.ura.specs.Ura.{code_of}
use Rattle.records.specs.Orbit.{orbit_widths, orbit_of}
use Rattle.records.specs.Clock.{clock_widths, clock_of}
use Rattle.records.specs.declared.orbit.Orbit.{Orbit}
use Rattle.records.specs.declared.clock.Clock.{Clock}
use Rattle.ura.proofs.UraLaws.{ura_back}
use Rattle.canonical.specs.Canon.{canon_clock, canon_orbit}
use Rattle.fitting.specs.Fits.{raw_or}
use Rattle.writing.specs.Fits.{clock_vals, orbit_vals}
use Rattle.fitting.proofs.RawBack.{raw_back}

pub clock_back : (slotted : Bool) (k : Clock) → Within (clock_widths slotted) (clock_vals k) → clock_of slotted (clock_vals k) ≡ canon_clock slotted k
clock_back true k w =
    let z : signed_half 16384 (raw_or 16384 k.c0) ≡ k.c0 = raw_back 16384 k.c0 w.1.1.0 in
    rw z
clock_back false k w =
    let z : signed_half 16384 (raw_or 16384 k.c0) ≡ k.c0 = raw_back 16384 k.c0 w.1.1.0 in
    let q : k.slot < 2 ^ 0 = w.0 in
    let y : k.slot ≡ 0 = omega arith in
    rw (z, y)

-- class and value side by side
join : (code : ℕ) → 8 * (code / 8) + code % 8 ≡ code
join code = omega arith

pub orbit_back : (o : Orbit) → Within orbit_widths (orbit_vals o) → orbit_of (orbit_vals o) ≡ canon_orbit o
orbit_back o w =
    let r = w.1.1.1 in
    let a : signed_half 16384 (raw_or 16384 o.radial) ≡ o.radial = raw_back 16384 o.radial r.0 in
    let b : signed_half 4096 (raw_or 4096 o.along) ≡ o.along = raw_back 4096 o.along r.1.0 in
    let d : signed_half 4096 (raw_or 4096 o.cross) ≡ o.cross = raw_back 4096 o.cross r.1.1.0 in
    let h : code_of o.ura / 8 < 8 = r.1.1.1.0 in
    let u : code_of o.ura < 64 = omega (arith, h) in
    rw (join (code_of o.ura), ura_back o.ura u, a, b, d)

-- a field of no width holds 0
pub none_back : (w v : ℕ) → v < 2 ^ w → v ≡ pick (eqb w 0) 0 v
none_back w v h =
    dite (ℕ_discrete w 0)
    (λ e. let q : v < 2 ^ 0 = rw e at h in rw (eq-eqb w 0 e) (omega arith))
    (λ n. rw (ne_eqb w 0 n))
