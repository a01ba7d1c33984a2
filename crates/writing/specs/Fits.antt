-- 01, Refusal numbers, 16: each field's value, and whether it is within its width. A value that cannot be coded is one bit too wide.
use Rattle.std.specs.Prelude.{ℕ, ◌/◌, ◌%◌, Bool, true, ◌&&◌, List, [], ◌∷◌, eqb, get_or}
use Rattle.bits.specs.Pick.{pick}
use Rattle.bits.specs.Bits.{bit_at}
use Rattle.ura.specs.Ura.{code_of}
use Rattle.records.specs.Orbit.{blank_orbit, orbit_widths}
use Rattle.records.specs.Clock.{blank_clock, clock_widths}
use Rattle.records.specs.declared.orbit.Orbit.{Orbit}
use Rattle.records.specs.declared.clock.Clock.{Clock}
use Rattle.layout.specs.Layout.{part_widths}
use Rattle.biases.specs.declared.BiasPart.{BiasPart}
use Rattle.ura_codes.specs.declared.CodePart.{CodePart}
use Rattle.contents.specs.declared.parts.Contents.{Contents}
use Rattle.canonical.specs.Canon.{layout_for}
use Rattle.bias_writing.specs.Put.{biases_fit}
use Rattle.code_writing.specs.Codes.{codes_fit}
use Rattle.fitting.specs.Fits.{raw_or, head_vals, fits, all_fit}

-- 01: IOD Corr, C0, after the slot
abbrev pub clock_vals : Clock → List ℕ
clock_vals k = k.slot ∷ k.corr ∷ raw_or 16384 k.c0 ∷ []

-- 01: Sat Slot, IODN, IOD Corr, radial, along, cross, URA class, URA value
abbrev pub orbit_vals : Orbit → List ℕ
orbit_vals o =
    o.slot
    ∷ o.iodn
    ∷ o.corr
    ∷ raw_or 16384 o.radial
    ∷ raw_or 4096 o.along
    ∷ raw_or 4096 o.cross
    ∷ code_of o.ura / 8
    ∷ code_of o.ura % 8
    ∷ []

-- the values of clock record i
abbrev pub clock_row : List Clock → ℕ → List ℕ
clock_row ks i = clock_vals (get_or ks i blank_clock)

-- the values of orbit record i
abbrev pub orbit_row : List Orbit → ℕ → List ℕ
orbit_row os i = orbit_vals (get_or os i blank_orbit)

-- 01, 16: every field of a mask, a clock part and an orbit part is within its width; 02, CR 13: the last bit of the mask's 32 bytes is 0
unfoldable pub parts_fit : Contents → Bool
parts_fit c =
    fits (part_widths 4 0) (head_vals c.mask.epoch c.mask.ssr c.mask.iodp 0)
    && fits (part_widths (layout_for c).iodp (layout_for c).start) (head_vals c.clock.epoch c.clock.ssr c.clock.iodp c.clock.start)
    && fits (part_widths 0 0) (head_vals c.orbit.epoch c.orbit.ssr 0 0)
    && all_fit (clock_widths (layout_for c).slotted) (clock_row c.clock.clocks) 23
    && all_fit orbit_widths (orbit_row c.orbit.orbits) 6
    && eqb (bit_at c.mask.bytes 255) 0

-- 02, CR 2: biases where the type is 3, URA codes where it is 5; of another type they are absent
abbrev pub last_fit : ℕ → BiasPart → CodePart → Bool
last_fit kind b u = pick (eqb kind 3) (biases_fit b) true && pick (eqb kind 5) (codes_fit u) true

-- 01, 16: every field of canonical contents is within its width
unfoldable pub fits_all : Contents → Bool
fits_all c = parts_fit c && last_fit c.kind c.bias c.code
