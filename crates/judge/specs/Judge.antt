-- 01, Refusal numbers 8 to 12 (13 has retired: 02, CR 12): what is wrong with contents. Reading and writing judge by this alone; 02, CR 2: 9 goes by
-- where the parts end, as the bits stand in reading and as they would be written in writing.
use Rattle.std.specs.Prelude.{ℕ, Bool, not, ◌&&◌, ◌||◌, List, [], ◌∷◌, eqb, ltb, leb, get_or}
use Rattle.bits.specs.Table.{table}
use Rattle.bits.specs.Some.{any_of, first}
use Rattle.records.specs.Orbit.{blank_orbit}
use Rattle.records.specs.Clock.{blank_clock}
use Rattle.records.specs.declared.orbit.Orbit.{Orbit}
use Rattle.records.specs.declared.clock.Clock.{Clock}
use Rattle.biases.specs.Biases.{blank_sat, no_biases}
use Rattle.biases.specs.declared.BiasSat.{BiasSat}
use Rattle.biases.specs.declared.BiasPart.{BiasPart}
use Rattle.ura_codes.specs.Codes.{no_codes}
use Rattle.ura_codes.specs.declared.CodePart.{CodePart}
use Rattle.layout.specs.Layout.{layout_of, end_of}
use Rattle.contents.specs.Parts.{no_mask, no_clocks, no_orbits, contents_at, end_at}
use Rattle.contents.specs.declared.parts.MaskPart.{MaskPart}
use Rattle.contents.specs.declared.parts.ClockPart.{ClockPart}
use Rattle.contents.specs.declared.parts.OrbitPart.{OrbitPart}
use Rattle.contents.specs.declared.parts.Contents.{Contents}

-- the slots of the clock records
unfoldable pub clock_slots : List Clock → List ℕ
clock_slots ks = table (λ (i : ℕ). (get_or ks i blank_clock).slot) 23

-- the slots of the orbit records
unfoldable pub orbit_slots : List Orbit → List ℕ
orbit_slots os = table (λ (i : ℕ). (get_or os i blank_orbit).slot) 6

-- the slots of the satellites of a type 3
unfoldable pub sat_slots : List BiasSat → List ℕ
sat_slots bs = table (λ (i : ℕ). (get_or bs i blank_sat).slot) 31

-- a slot that is not 0
abbrev pub is_named : ℕ → List ℕ → Bool
is_named x rest = not (eqb x 0)

-- 01, 8, and 02, CR 2: types 1 to 7 and 63 are read and written
abbrev pub is_kind : ℕ → Bool
is_kind k = leb 1 k && leb k 7 || eqb k 63

-- 01, 9: the parts end after bit 462
abbrev pub too_long : ℕ → Bool
too_long end = ltb 462 end

-- 01, 10: an epoch above 86399
abbrev pub is_late : ℕ → Bool
is_late e = ltb 86399 e

-- 01, 10: in any part
abbrev pub late : Contents → Bool
late c = is_late c.mask.epoch || is_late c.clock.epoch || is_late c.orbit.epoch || is_late c.bias.epoch || is_late c.code.epoch

-- 01, 11: a slot above 255
abbrev pub is_high : ℕ → List ℕ → Bool
is_high x rest = ltb 255 x

-- 01, 11: Slot_S 0 or above 255 with NumC > 0
abbrev pub bad_start : ℕ → ℕ → ℕ → Bool
bad_start kind count start = eqb kind 6 && ltb 0 count && (eqb start 0 || ltb 255 start)

-- 01, 11: in a clock part or an orbit part
abbrev pub high_slot : ℕ → ClockPart → OrbitPart → Bool
high_slot kind k o = any_of is_high (clock_slots k.clocks) || any_of is_high (orbit_slots o.orbits) || bad_start kind k.count k.start

-- an element is x
abbrev pub is_same : ℕ → ℕ → List ℕ → Bool
is_same x y rest = eqb y x

-- 01, 12: a slot that is not blank and stands again in what follows
abbrev pub is_again : ℕ → List ℕ → Bool
is_again x rest = not (eqb x 0) && any_of (is_same x) rest

-- 01, 12: twice among the clock records, or twice among the orbit records
abbrev pub twice : ClockPart → OrbitPart → Bool
twice k o = any_of is_again (clock_slots k.clocks) || any_of is_again (orbit_slots o.orbits)

-- 01: the lowest of 8 to 12 that applies, by the type, where the parts end, and whether an epoch is late, a slot too high, a slot there twice; 0 if none does
abbrev pub refusal_by : ℕ → ℕ → Bool → Bool → Bool → ℕ
refusal_by kind end late high twice =
    first ((8, not (is_kind kind)) ∷ (9, too_long end) ∷ (10, late) ∷ (11, high) ∷ (12, twice) ∷ [])

-- 01: of contents whose parts end at `end`; 02, CR 2: the satellites of a type 3 as the others
unfoldable pub refusal_of : ℕ → Contents → ℕ
refusal_of end c =
    refusal_by c.kind end (late c)
    (high_slot c.kind c.clock c.orbit || any_of is_high (sat_slots c.bias.sats))
    (twice c.clock c.orbit || any_of is_again (sat_slots c.bias.sats))

-- 01: of the message that begins at bit `at`, as its bits stand
unfoldable pub refusal_at : List ℕ → ℕ → ℕ
refusal_at s at = refusal_of (end_at s at) (contents_at s at)

-- 01: of a type 1, which has a mask and no other part
unfoldable pub mask_refusal_of : MaskPart → ℕ
mask_refusal_of m =
    refusal_of (end_of (layout_of 1 0 0)) (record { kind = 1; mask = m; clock = no_clocks; orbit = no_orbits; bias = no_biases; code = no_codes })

-- 01: of a type that has clocks and orbits alone, or no part
unfoldable pub parts_refusal_of : ℕ → ClockPart → OrbitPart → ℕ
parts_refusal_of kind k o =
    refusal_of (end_of (layout_of kind k.count o.count)) (record { kind = kind; mask = no_mask; clock = k; orbit = o; bias = no_biases; code = no_codes })

-- 02, CR 2: of a type 3, which has biases and no other part; where they end is said
unfoldable pub biases_refusal_of : ℕ → BiasPart → ℕ
biases_refusal_of end b = refusal_of end (record { kind = 3; mask = no_mask; clock = no_clocks; orbit = no_orbits; bias = b; code = no_codes })

-- 02, CR 2: of a type 5, which has URA codes and no other part
unfoldable pub codes_refusal_of : CodePart → ℕ
codes_refusal_of u =
    refusal_of (end_of (layout_of 5 0 0)) (record { kind = 5; mask = no_mask; clock = no_clocks; orbit = no_orbits; bias = no_biases; code = u })
