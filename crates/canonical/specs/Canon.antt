-- 01, Message fields: a blank record is written as all zero; records past a count and all fields of an absent part likewise. Their fields are not looked at.
use Rattle.std.specs.Prelude.{ℕ, Bool, List, eqb, ltb, get_or}
use Rattle.bits.specs.Pick.{pick}
use Rattle.bits.specs.Table.{table}
use Rattle.records.specs.Orbit.{blank_orbit}
use Rattle.records.specs.Clock.{blank_clock}
use Rattle.records.specs.declared.orbit.Orbit.{Orbit}
use Rattle.records.specs.declared.clock.Clock.{Clock}
use Rattle.biases.specs.Biases.{no_biases}
use Rattle.ura_codes.specs.Codes.{no_codes}
use Rattle.ura_codes.specs.declared.CodePart.{CodePart}
use Rattle.canonical_biases.specs.Canon.{canon_biases}
use Rattle.layout.specs.Layout.{layout_of}
use Rattle.contents.specs.Parts.{no_mask, no_clocks, no_orbits}
use Rattle.layout.specs.declared.Layout.{Layout}
use Rattle.contents.specs.declared.parts.ClockPart.{ClockPart}
use Rattle.contents.specs.declared.parts.OrbitPart.{OrbitPart}
use Rattle.contents.specs.declared.parts.Contents.{Contents}

-- 01: a clock record has a slot in type 7 alone, and is blank there where that is 0
abbrev pub canon_clock : Bool → Clock → Clock
canon_clock slotted k = pick slotted (pick (eqb k.slot 0) blank_clock k) (record { slot = 0; corr = k.corr; c0 = k.c0 })

-- 01: clock record i, from 0; past the count all zero
abbrev pub canon_clock_nth : Bool → ℕ → List Clock → ℕ → Clock
canon_clock_nth slotted n ks i = pick (ltb i n) (canon_clock slotted (get_or ks i blank_clock)) blank_clock

-- the clock records of a part
unfoldable pub canon_clock_rows : Bool → ℕ → List Clock → List Clock
canon_clock_rows slotted n ks = table (canon_clock_nth slotted n ks) 23

-- 01: the clock part as its type carries it; a field that the type does not have is 0
unfoldable pub canon_clocks : Layout → ClockPart → ClockPart
canon_clocks l k =
    pick (eqb l.clocks 0) no_clocks
    (record {
      epoch = k.epoch;
      ssr = k.ssr;
      iodp = pick (eqb l.iodp 0) 0 k.iodp;
      start = pick (eqb l.start 0) 0 k.start;
      count = l.clocks;
      clocks = canon_clock_rows l.slotted l.clocks k.clocks;
    })

-- 01: an orbit record of slot 0 is blank
abbrev pub canon_orbit : Orbit → Orbit
canon_orbit o = pick (eqb o.slot 0) blank_orbit o

-- 01: orbit record i, from 0; past the count all zero
abbrev pub canon_orbit_nth : ℕ → List Orbit → ℕ → Orbit
canon_orbit_nth n os i = pick (ltb i n) (canon_orbit (get_or os i blank_orbit)) blank_orbit

-- the orbit records of a part
unfoldable pub canon_orbit_rows : ℕ → List Orbit → List Orbit
canon_orbit_rows n os = table (canon_orbit_nth n os) 6

-- 01: the orbit part as its type carries it
unfoldable pub canon_orbits : Layout → OrbitPart → OrbitPart
canon_orbits l o =
    pick (eqb l.orbits 0) no_orbits
    (record { epoch = o.epoch; ssr = o.ssr; count = l.orbits; orbits = canon_orbit_rows l.orbits o.orbits })

-- 02, CR 2: the URA codes of a type 5, all 70
unfoldable pub canon_codes : CodePart → CodePart
canon_codes u =
    record { epoch = u.epoch; ssr = u.ssr; iodp = u.iodp; sub = u.sub; codes = table (λ (i : ℕ). get_or u.codes i 0) 70 }

-- the layout of contents; the counts count in types 6 and 7 alone
abbrev pub layout_for : Contents → Layout
layout_for c = layout_of c.kind c.clock.count c.orbit.count

-- the contents with blank records, records past a count and absent parts as zeros
unfoldable pub canon : Contents → Contents
canon c =
    record {
      kind = c.kind;
      mask = pick (layout_for c).mask c.mask no_mask;
      clock = canon_clocks (layout_for c) c.clock;
      orbit = canon_orbits (layout_for c) c.orbit;
      bias = pick (eqb c.kind 3) (canon_biases c.bias) no_biases;
      code = pick (eqb c.kind 5) (canon_codes c.code) no_codes;
    }
