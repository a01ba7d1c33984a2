-- 01, Message fields, in order: what writing leaves in the room. Reserved bits, blank records, absent parts and the last two bits are zero.
use Rattle.std.specs.Prelude.{ℕ, ◌+◌, not, List, [], ◌∷◌, eqb, length, replicate}
use Rattle.bits.specs.Pick.{pick}
use Rattle.bits.specs.Bits.{bit_at, put_at, puts_at, put_rows}
use Rattle.bits.specs.Some.{first}
use Rattle.check24.specs.Check.{check_of}
use Rattle.records.specs.Orbit.{orbit_widths}
use Rattle.records.specs.Clock.{clock_widths}
use Rattle.layout.specs.Layout.{part_widths, orbits_from, end_of}
use Rattle.judge.specs.Judge.{refusal_of}
use Rattle.layout.specs.declared.Layout.{Layout}
use Rattle.contents.specs.declared.parts.MaskPart.{MaskPart}
use Rattle.contents.specs.declared.parts.ClockPart.{ClockPart}
use Rattle.contents.specs.declared.parts.OrbitPart.{OrbitPart}
use Rattle.contents.specs.declared.parts.Contents.{Contents}
use Rattle.canonical.specs.Canon.{layout_for, canon}
use Rattle.biases.specs.declared.BiasPart.{BiasPart}
use Rattle.ura_codes.specs.declared.CodePart.{CodePart}
use Rattle.canonical_biases.specs.Canon.{bias_bits}
use Rattle.bias_writing.specs.Put.{biases_put}
use Rattle.code_writing.specs.Codes.{codes_put}
use Rattle.fitting.specs.Fits.{head_vals}
use Rattle.writing.specs.Fits.{clock_row, orbit_row, fits_all}

-- 01: type [6]; in types 6 and 7 NumC [5], NumO [3]
abbrev pub head_widths : Layout → List ℕ
head_widths l = pick (eqb l.head 14) (6 ∷ 5 ∷ 3 ∷ []) (6 ∷ 0 ∷ 0 ∷ [])

-- 01: the type and the counts put at the message's beginning
unfoldable pub head_put : List ℕ → ℕ → Layout → List ℕ
head_put s kind l = puts_at s 0 (head_widths l) (kind ∷ l.clocks ∷ l.orbits ∷ [])

-- 01: mask [255], a bit for each slot
abbrev pub mask_widths : List ℕ
mask_widths = 1 ∷ []

-- 02, CR 13: the bit of slot i + 1 in the mask's 32 bytes
abbrev pub mask_row : List ℕ → ℕ → List ℕ
mask_row bytes i = bit_at bytes i ∷ []

-- 01, type 1: the mask part put after the type
unfoldable pub mask_put : List ℕ → Layout → MaskPart → List ℕ
mask_put s l m =
    pick l.mask
    (put_rows (puts_at s l.head (part_widths 4 0) (head_vals m.epoch m.ssr m.iodp 0)) (l.head + 27) mask_widths (mask_row m.bytes) 255)
    s

-- 01, types 4, 6 and 7: the clock part put after the type and the counts
unfoldable pub clocks_put : List ℕ → Layout → ClockPart → List ℕ
clocks_put s l k =
    pick (eqb l.clocks 0) s
    (put_rows
    (puts_at s l.head (part_widths l.iodp l.start) (head_vals k.epoch k.ssr k.iodp k.start))
    (l.head + (23 + l.iodp + l.start))
    (clock_widths l.slotted)
    (clock_row k.clocks)
    l.clocks)

-- 01, types 2, 6 and 7: the orbit part put after the clock part
unfoldable pub orbits_put : List ℕ → Layout → OrbitPart → List ℕ
orbits_put s l o =
    pick (eqb l.orbits 0) s
    (put_rows (puts_at s (orbits_from l) (part_widths 0 0) (head_vals o.epoch o.ssr 0 0)) (orbits_from l + 23) orbit_widths (orbit_row o.orbits) l.orbits)

-- 02, CR 2, type 3: the biases put after the type
unfoldable pub bias_put : List ℕ → ℕ → BiasPart → List ℕ
bias_put s kind b = pick (eqb kind 3) (biases_put s 6 b) s

-- 02, CR 2, type 5: the URA codes put after the type
unfoldable pub code_put : List ℕ → ℕ → CodePart → List ℕ
code_put s kind u = pick (eqb kind 5) (codes_put s 6 u) s

-- 01: the fields of contents, of the layout l, put in order
unfoldable pub parts_put : List ℕ → Contents → Layout → List ℕ
parts_put s c l =
    code_put (bias_put (orbits_put (clocks_put (mask_put (head_put s c.kind l) l c.mask) l c.clock) l c.orbit) c.kind c.bias) c.kind c.code

-- 01, Parity and check bits: the check of the first 462 bits put after them
unfoldable pub check_put : List ℕ → List ℕ
check_put s = put_at s 462 24 (check_of s 0 462)

-- the 61 bytes of a message: all zero but for the fields of the contents and the check
unfoldable pub message_of : Contents → List ℕ
message_of c = check_put (parts_put (replicate 61 0) c (layout_for c))

-- 01, 9: where the parts of canonical contents would end, as written; 02, CR 2: a type 3 by its biases, after the type
abbrev pub end_for : Contents → ℕ
end_for c = pick (eqb c.kind 3) (6 + bias_bits c.bias) (end_of (layout_for c))

-- 01, Refusal numbers: 8 to 12 as in reading, then 16, of canonical contents; 0 if none applies
unfoldable pub content_refusal : Contents → ℕ
content_refusal c = first ((refusal_of (end_for c) c, not (eqb (refusal_of (end_for c) c) 0)) ∷ (16, not (fits_all c)) ∷ [])

-- 01, Refusal numbers: 1 for a room that is not 61 bytes, then those of the contents
unfoldable pub write_refusal : List ℕ → Contents → ℕ
write_refusal room c = first ((1, not (eqb (length room) 61)) ∷ (content_refusal (canon c), not (eqb (content_refusal (canon c)) 0)) ∷ [])

-- on a refusal the room is as it was; else every byte of it is given by the contents alone
unfoldable pub written : List ℕ → Contents → List ℕ
written room c = pick (eqb (write_refusal room c) 0) (message_of (canon c)) room
