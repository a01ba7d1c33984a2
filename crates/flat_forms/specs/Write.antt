-- The C boundary: the 516 bytes of contents and the 27 of a row. Numbers are high byte first, those with a sign in two's complement.
use Rattle.std.specs.Prelude.{ℕ, ◌/◌, ◌%◌, List, [], ◌∷◌, ◌++◌, ℤ, get_or}
use Rattle.bits.specs.Bytes.{row_at}
use Rattle.records.specs.Signed.{raw_half}
use Rattle.flat_numbers.specs.Rows.{word, rows_to}
use Rattle.flat_biases.specs.Biases.{biases_bytes}
use Rattle.flat_biases.specs.Codes.{codes_bytes}
use Rattle.records.specs.Orbit.{blank_orbit}
use Rattle.records.specs.Clock.{blank_clock}
use Rattle.ura.specs.Ura.{kind_of, quarters_in}
use Rattle.records.specs.declared.orbit.Orbit.{Orbit}
use Rattle.records.specs.declared.clock.Clock.{Clock}
use Rattle.slots.specs.declared.System.{System}
use Rattle.slots.specs.declared.System.TheVariants.{Reserved, BeiDou, Gps, Galileo, Glonass}
use Rattle.contents.specs.declared.parts.MaskPart.{MaskPart}
use Rattle.contents.specs.declared.parts.ClockPart.{ClockPart}
use Rattle.contents.specs.declared.parts.OrbitPart.{OrbitPart}
use Rattle.contents.specs.declared.parts.Contents.{Contents}
use Rattle.row.specs.declared.Row.{Row}

-- the four bytes' number of a number with its sign
abbrev pub long : ℤ → ℕ
long z = raw_half 2147483648 z

-- clock record: slot (2), IOD Corr (1), C0 (2)
abbrev pub flat_clock_bytes : Clock → List ℕ
flat_clock_bytes k = k.slot / 256 ∷ k.slot % 256 ∷ k.corr ∷ word k.c0 / 256 ∷ word k.c0 % 256 ∷ []

-- clock record i of a part
abbrev pub flat_clock_row : List Clock → ℕ → List ℕ
flat_clock_row ks i = flat_clock_bytes (get_or ks i blank_clock)

-- orbit record: slot (2), IODN (2), IOD Corr (1), radial, along, cross (2 each), URA's kind (1) and quarters (4)
abbrev pub flat_orbit_bytes : Orbit → List ℕ
flat_orbit_bytes o =
    o.slot / 256
    ∷ o.slot % 256
    ∷ o.iodn / 256
    ∷ o.iodn % 256
    ∷ o.corr
    ∷ word o.radial / 256
    ∷ word o.radial % 256
    ∷ word o.along / 256
    ∷ word o.along % 256
    ∷ word o.cross / 256
    ∷ word o.cross % 256
    ∷ kind_of o.ura
    ∷ quarters_in o.ura / 65536 / 256
    ∷ quarters_in o.ura / 65536 % 256
    ∷ quarters_in o.ura % 65536 / 256
    ∷ quarters_in o.ura % 65536 % 256
    ∷ []

-- orbit record i of a part
abbrev pub flat_orbit_row : List Orbit → ℕ → List ℕ
flat_orbit_row os i = flat_orbit_bytes (get_or os i blank_orbit)

-- type (1), mask's epoch (4), IOD SSR (1), IODP (1)
abbrev pub mask_head : ℕ → ℕ → ℕ → ℕ → List ℕ
mask_head kind epoch ssr iodp =
    kind ∷ epoch / 65536 / 256 ∷ epoch / 65536 % 256 ∷ epoch % 65536 / 256 ∷ epoch % 65536 % 256 ∷ ssr ∷ iodp ∷ []

-- clock part's epoch (4), IOD SSR (1), IODP (1), sub-type or Slot_S (2), count (1)
abbrev pub clock_head : ℕ → ℕ → ℕ → ℕ → ℕ → List ℕ
clock_head epoch ssr iodp start count =
    epoch / 65536 / 256
    ∷ epoch / 65536 % 256
    ∷ epoch % 65536 / 256
    ∷ epoch % 65536 % 256
    ∷ ssr
    ∷ iodp
    ∷ start / 256
    ∷ start % 256
    ∷ count
    ∷ []

-- orbit part's epoch (4), IOD SSR (1), count (1)
abbrev pub orbit_head : ℕ → ℕ → ℕ → List ℕ
orbit_head epoch ssr count =
    epoch / 65536 / 256 ∷ epoch / 65536 % 256 ∷ epoch % 65536 / 256 ∷ epoch % 65536 % 256 ∷ ssr ∷ count ∷ []

-- the type and the mask part, with the mask in 32 bytes: 39 bytes
unfoldable pub flat_mask_bytes : ℕ → MaskPart → List ℕ
flat_mask_bytes kind m = mask_head kind m.epoch m.ssr m.iodp ++ row_at m.bytes 0 32

-- the clock part: 124 bytes
unfoldable pub clocks_bytes : ClockPart → List ℕ
clocks_bytes p = clock_head p.epoch p.ssr p.iodp p.start p.count ++ rows_to (flat_clock_row p.clocks) 23

-- the orbit part: 102 bytes
unfoldable pub orbits_bytes : OrbitPart → List ℕ
orbits_bytes p = orbit_head p.epoch p.ssr p.count ++ rows_to (flat_orbit_row p.orbits) 6

-- contents: 516 bytes; 02, CR 2: the parts of types 3 and 5 stand last
unfoldable pub contents_bytes : Contents → List ℕ
contents_bytes c =
    flat_mask_bytes c.kind c.mask ++ (clocks_bytes c.clock ++ (orbits_bytes c.orbit ++ (biases_bytes c.bias ++ codes_bytes c.code)))

-- the byte of a system: 1 BeiDou, 2 GPS, 3 Galileo, 4 GLONASS
abbrev pub system_of : System → ℕ
system_of Reserved = 0
system_of BeiDou = 1
system_of Gps = 2
system_of Galileo = 3
system_of Glonass = 4

-- row: slot, system, number (1 each), IODN (2), IOD Corr (1), radial, along, cross, clock (4 each), URA's kind (1) and quarters (4)
abbrev pub row_list : ℕ → ℕ → ℕ → ℕ → ℕ → ℕ → ℕ → ℕ → ℕ → ℕ → ℕ → List ℕ
row_list slot system number iodn corr radial along cross clock kind quarters =
    slot
    ∷ system
    ∷ number
    ∷ iodn / 256
    ∷ iodn % 256
    ∷ corr
    ∷ radial / 65536 / 256
    ∷ radial / 65536 % 256
    ∷ radial % 65536 / 256
    ∷ radial % 65536 % 256
    ∷ along / 65536 / 256
    ∷ along / 65536 % 256
    ∷ along % 65536 / 256
    ∷ along % 65536 % 256
    ∷ cross / 65536 / 256
    ∷ cross / 65536 % 256
    ∷ cross % 65536 / 256
    ∷ cross % 65536 % 256
    ∷ clock / 65536 / 256
    ∷ clock / 65536 % 256
    ∷ clock % 65536 / 256
    ∷ clock % 65536 % 256
    ∷ kind
    ∷ quarters / 65536 / 256
    ∷ quarters / 65536 % 256
    ∷ quarters % 65536 / 256
    ∷ quarters % 65536 % 256
    ∷ []

-- a row: 27 bytes
abbrev pub row_bytes : Row → List ℕ
row_bytes r =
    row_list r.slot.0 (system_of r.system) r.number r.iodn r.corr (long r.radial) (long r.along) (long r.cross) (long r.clock) (kind_of r.ura)
    (quarters_in r.ura)
