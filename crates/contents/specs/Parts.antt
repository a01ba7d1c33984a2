-- 01, Message fields, in order: the parts of a message and how they are read. Blank records are all zero, records past a count and absent parts too.
use Rattle.std.specs.Prelude.{ℕ, ◌+◌, ◌-◌, ◌*◌, Bool, List, eqb, ltb, get_or}
use Rattle.bits.specs.Pick.{pick}
use Rattle.bits.specs.Bits.{bit_at, field_at, fields_at}
use Rattle.bits.specs.Table.{table}
use Rattle.records.specs.Orbit.{blank_orbit, orbit_at}
use Rattle.records.specs.Clock.{blank_clock, clock_at}
use Rattle.records.specs.declared.orbit.Orbit.{Orbit}
use Rattle.records.specs.declared.clock.Clock.{Clock}
use Rattle.biases.specs.Biases.{bias_part_at, bias_end, no_biases}
use Rattle.biases.specs.declared.BiasPart.{BiasPart}
use Rattle.ura_codes.specs.Codes.{code_part_at, no_codes}
use Rattle.ura_codes.specs.declared.CodePart.{CodePart}
use Rattle.layout.specs.Layout.{part_widths, layout_of, orbits_from, end_of}
use Rattle.layout.specs.declared.Layout.{Layout}
use Rattle.contents.specs.declared.parts.MaskPart.{MaskPart}
use Rattle.contents.specs.declared.parts.ClockPart.{ClockPart}
use Rattle.contents.specs.declared.parts.OrbitPart.{OrbitPart}
use Rattle.contents.specs.declared.parts.Contents.{Contents}

-- 01: clock record i, from 0, of a row from bit `at` on; past the count all zero
abbrev pub clock_nth : Bool → List ℕ → ℕ → ℕ → ℕ → Clock
clock_nth slotted s at count i = pick (ltb i count) (clock_at slotted s (at + pick slotted 27 18 * i)) blank_clock

-- 01: the clock records of a part
unfoldable pub clocks_at : Bool → List ℕ → ℕ → ℕ → List Clock
clocks_at slotted s at count = table (clock_nth slotted s at count) 23

-- 01: orbit record i, from 0, of a row from bit `at` on; past the count all zero
abbrev pub orbit_nth : List ℕ → ℕ → ℕ → ℕ → Orbit
orbit_nth s at count i = pick (ltb i count) (orbit_at s (at + 69 * i)) blank_orbit

-- 01: the orbit records of a part
unfoldable pub orbits_at : List ℕ → ℕ → ℕ → List Orbit
orbits_at s at count = table (orbit_nth s at count) 6

-- 01: entry i of the mask from bit `at` on is the bit of slot i + 1
abbrev pub mask_bit_at : List ℕ → ℕ → ℕ → Bool
mask_bit_at s at i = eqb (bit_at s (at + i)) 1

-- 01: mask [255]
unfoldable pub mask_bits_at : List ℕ → ℕ → List Bool
mask_bits_at s at = table (mask_bit_at s at) 255

-- 02, CR 13: byte j of the 32 that hold the mask from bit `at` on: eight bits, slot 1 the high bit of the first; the last has seven, and a 0
abbrev pub mask_byte_at : List ℕ → ℕ → ℕ → ℕ
mask_byte_at s at j = pick (ltb j 31) (field_at s (at + 8 * j) 8) (2 * field_at s (at + 8 * j) 7)

-- 02, CR 13: mask [255] in 32 bytes
unfoldable pub mask_bytes_at : List ℕ → ℕ → List ℕ
mask_bytes_at s at = table (mask_byte_at s at) 32

-- 02, CR 13: the bits of slots 1 to 255 that 32 bytes hold
abbrev pub bits_of : List ℕ → List Bool
bits_of bytes = mask_bits_at bytes 0

-- 01, type 1: epoch [17], reserved [4], IOD SSR [2], IODP [4], mask [255]
abbrev pub mask_part_at : List ℕ → ℕ → MaskPart
mask_part_at s at =
    let h = fields_at s at (part_widths 4 0) in
    record { epoch = get_or h 0 0; ssr = get_or h 2 0; iodp = get_or h 3 0; bytes = mask_bytes_at s (at + 27) }

-- 01, types 4, 6 and 7: epoch [17], reserved [4], IOD SSR [2], IODP [4], sub-type [5] or Slot_S [9], clock records
abbrev pub clock_part_at : List ℕ → ℕ → Layout → ClockPart
clock_part_at s at l =
    let h = fields_at s at (part_widths l.iodp l.start) in
    record {
      epoch = get_or h 0 0;
      ssr = get_or h 2 0;
      iodp = get_or h 3 0;
      start = get_or h 4 0;
      count = l.clocks;
      clocks = clocks_at l.slotted s (at + (23 + l.iodp + l.start)) l.clocks;
    }

-- 01, types 2, 6 and 7: epoch [17], reserved [4], IOD SSR [2], orbit records
abbrev pub orbit_part_at : List ℕ → ℕ → Layout → OrbitPart
orbit_part_at s at l =
    let h = fields_at s at (part_widths 0 0) in
    record { epoch = get_or h 0 0; ssr = get_or h 2 0; count = l.orbits; orbits = orbits_at s (at + 23) l.orbits }

-- an absent mask part is all zero
unfoldable pub no_mask : MaskPart
no_mask = record { epoch = 0; ssr = 0; iodp = 0; bytes = table (λ (j : ℕ). 0) 32 }

-- an absent clock part is all zero
unfoldable pub no_clocks : ClockPart
no_clocks = record { epoch = 0; ssr = 0; iodp = 0; start = 0; count = 0; clocks = table (λ (i : ℕ). blank_clock) 23 }

-- an absent orbit part is all zero
unfoldable pub no_orbits : OrbitPart
no_orbits = record { epoch = 0; ssr = 0; count = 0; orbits = table (λ (i : ℕ). blank_orbit) 6 }

-- 01, type 1: the mask part, after the type, of a message that begins at bit `at`
unfoldable pub mask_in : List ℕ → ℕ → Layout → MaskPart
mask_in s at l = pick l.mask (mask_part_at s (at + l.head)) no_mask

-- 01: the clock part, after the type and the counts
unfoldable pub clocks_in : List ℕ → ℕ → Layout → ClockPart
clocks_in s at l = pick (eqb l.clocks 0) no_clocks (clock_part_at s (at + l.head) l)

-- 01: the orbit part, after the clock part
unfoldable pub orbits_in : List ℕ → ℕ → Layout → OrbitPart
orbits_in s at l = pick (eqb l.orbits 0) no_orbits (orbit_part_at s (at + orbits_from l) l)

-- 02, CR 2: type 3 alone has biases, after the type
unfoldable pub biases_in : List ℕ → ℕ → ℕ → BiasPart
biases_in s at kind = pick (eqb kind 3) (bias_part_at s (at + 6)) no_biases

-- 02, CR 2: type 5 alone has URA codes by place, after the type
unfoldable pub codes_in : List ℕ → ℕ → ℕ → CodePart
codes_in s at kind = pick (eqb kind 5) (code_part_at s (at + 6)) no_codes

-- 01: type [6]; in types 6 and 7 NumC [5] and NumO [3] follow
abbrev pub layout_at : List ℕ → ℕ → Layout
layout_at s at = layout_of (field_at s at 6) (field_at s (at + 6) 5) (field_at s (at + 6 + 5) 3)

-- what the message says that begins at bit `at`
unfoldable pub contents_at : List ℕ → ℕ → Contents
contents_at s at =
    record {
      kind = field_at s at 6;
      mask = mask_in s at (layout_at s at);
      clock = clocks_in s at (layout_at s at);
      orbit = orbits_in s at (layout_at s at);
      bias = biases_in s at (field_at s at 6);
      code = codes_in s at (field_at s at 6);
    }

-- 01, 9: where its parts end as the bits stand, counted from its first bit; 02, CR 2: the biases of a blank are stepped over, and count
unfoldable pub end_at : List ℕ → ℕ → ℕ
end_at s at = pick (eqb (field_at s at 6) 3) (bias_end s (at + 6) - at) (end_of (layout_at s at))

-- 01, Refusal numbers: a refusal answers only its number
unfoldable pub no_contents : Contents
no_contents = record { kind = 0; mask = no_mask; clock = no_clocks; orbit = no_orbits; bias = no_biases; code = no_codes }
