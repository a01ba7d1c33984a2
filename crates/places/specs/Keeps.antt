-- 01, What the ledger keeps: what one frame does, under the mask in force when it comes.
use Rattle.std.specs.Prelude.{ℕ, ◌+◌, ◌-◌, ◌*◌, Bool, true, false, not, ◌&&◌, ◌||◌, List, [], ◌∷◌, eqb, ltb, take}
use Rattle.std.proofs.Math.Option.{Option, none, some}
use Rattle.bits.specs.Pick.{pick}
use Rattle.bits.specs.Some.{first}
use Rattle.slots.specs.Slots.{set_count, nth_set}
use Rattle.records.specs.declared.orbit.Orbit.{Orbit}
use Rattle.records.specs.declared.clock.Clock.{Clock}
use Rattle.ura_codes.specs.declared.CodePart.{CodePart}
use Rattle.contents.specs.declared.parts.ClockPart.{ClockPart}
use Rattle.contents.specs.declared.parts.OrbitPart.{OrbitPart}
use Rattle.contents.specs.declared.parts.Contents.{Contents}
use Rattle.verdict.specs.Verdict.{refused_by}
use Rattle.frame.specs.Frame.{contents_of, foreign_to, refusal_with, frame_says}
use Rattle.lookback.specs.Store.{Named}
use Rattle.held_clocks.specs.declared.HeldClock.{HeldClock}
use Rattle.held_orbits.specs.declared.HeldOrbit.{HeldOrbit}
use Rattle.held_codes.specs.declared.HeldCode.{HeldCode}
use Rattle.held_mask.specs.Mask.{HeldMask, held_mask}

-- an orbit record as it is kept, with the epoch and IOD SSR of its part
abbrev pub held_orbit : ℕ → ℕ → Orbit → HeldOrbit
held_orbit epoch ssr o =
    record {
      has = true;
      epoch = epoch;
      ssr = ssr;
      iodn = o.iodn;
      corr = o.corr;
      radial = o.radial;
      along = o.along;
      cross = o.cross;
      ura = o.ura;
    }

-- a clock record as it is kept, with whether it came by place, and the epoch and IOD SSR of its part
abbrev pub held_clock : Bool → ℕ → ℕ → Clock → HeldClock
held_clock placed epoch ssr k = record { has = true; placed = placed; epoch = epoch; ssr = ssr; corr = k.corr; c0 = k.c0 }

-- records that name their slots
unfoldable pub by_slot : {R A : Type 0} → (R → ℕ) → (R → A) → List R → List (Named A)
by_slot slot f [] = []
by_slot slot f (r ∷ rs) = record { at = slot r; held = f r } ∷ by_slot slot f rs

-- records from place n on; 01: those past the last set bit are filler and name nothing
unfoldable pub by_place : {R A : Type 0} → (R → A) → List Bool → List R → ℕ → List (Named A)
by_place f bits [] n = []
by_place f bits (r ∷ rs) n = record { at = nth_set bits n; held = f r } ∷ by_place f bits rs (n + 1)

-- the mask of a type 1
unfoldable pub mask_of : Contents → Option HeldMask
mask_of c = pick (eqb c.kind 1) (some (held_mask c.mask)) none

-- 01: orbit records come in types 2, 6 and 7
abbrev pub has_orbits : ℕ → Bool
has_orbits kind = eqb kind 2 || eqb kind 6 || eqb kind 7

-- the orbit records with the slots that they name
unfoldable pub orbits_of : ℕ → OrbitPart → List (Named HeldOrbit)
orbits_of kind p = pick (has_orbits kind) (by_slot (λ (o : Orbit). o.slot) (held_orbit p.epoch p.ssr) p.orbits) []

-- 01, 14 and 15: type 4, or type 6 with NumC > 0, has clock records by place
abbrev pub needs_mask : ℕ → ClockPart → Bool
needs_mask kind p = eqb kind 4 || (eqb kind 6 && ltb 0 p.count)

-- a number as a place of 16 bits; above them it is 65535, and no satellite has the one or the other
abbrev pub as_place : ℕ → ℕ
as_place n = pick (ltb n 65536) n 65535

-- 01: in type 4, record j (1 to 23) has place 23 × sub-type + j; in type 6, record j has place Slot_S + j − 1. This is record 1's
abbrev pub first_place : ℕ → ClockPart → ℕ
first_place kind p = pick (eqb kind 4) (23 * p.start + 1) p.start

-- the clock records with the slots that they name: in type 7 by themselves, in types 4 and 6 by their places in the mask m
unfoldable pub clocks_of : HeldMask → ℕ → ClockPart → List (Named HeldClock)
clocks_of m kind p =
    pick (eqb kind 7) (by_slot (λ (k : Clock). k.slot) (held_clock false p.epoch p.ssr) p.clocks)
    (pick (needs_mask kind p)
    (by_place (held_clock true p.epoch p.ssr) m.bits (take p.count p.clocks) (first_place kind p))
    [])

-- 01, 14: no mask in force, or IOD SSR or IODP differ from it
abbrev pub other_mask : HeldMask → ℕ → ℕ → Bool
other_mask m ssr iodp = not (m.has && eqb m.ssr ssr && eqb m.iodp iodp)

-- 01, 15, and 02, CR 1, 19: type 4's first place, or type 6's last place
abbrev pub place_to_check : ℕ → ClockPart → ℕ
place_to_check kind p = pick (eqb kind 4) (23 * p.start + 1) (p.start + p.count - 1)

-- 01, 15, and 02, CR 1: no satellite has the place: 15 in type 4, 19 in type 6
abbrev pub place_number : ℕ → ℕ
place_number kind = pick (eqb kind 4) 15 19

-- 01, 14 and 15, and 02, CR 1, 19: the lowest that applies under the mask m, 0 if none does
unfoldable pub place_refusal : HeldMask → ℕ → ClockPart → ℕ
place_refusal m kind p =
    first
    ((14, needs_mask kind p && other_mask m p.ssr p.iodp)
    ∷ (place_number kind, needs_mask kind p && ltb (set_count m.bits) (place_to_check kind p))
    ∷ [])

-- 02, CR 1: what is said of that number; 19 also gives the number of set bits
unfoldable pub place_says : HeldMask → ℕ → List ℕ
place_says m n = pick (eqb n 19) (19 ∷ set_count m.bits ∷ []) (refused_by n)

-- 02, CR 2: a URA code of a type 5 as it is kept
abbrev pub held_code : ℕ → HeldCode
held_code code = record { has = true; code = code }

-- 02, CR 2: in type 5, record j (1 to 70) has place 70 × sub-type + j. This is record 1's
abbrev pub first_code : CodePart → ℕ
first_code u = 70 * u.sub + 1

-- 02, CR 2: the codes of a type 5 with the slots that they name by their places in the mask m
unfoldable pub codes_of : HeldMask → ℕ → CodePart → List (Named HeldCode)
codes_of m kind u = pick (eqb kind 5) (by_place held_code m.bits u.codes (first_code u)) []

-- 02, CR 2: type 5 obeys 14, and 15 by the first place of its sub-type
unfoldable pub code_refusal : HeldMask → CodePart → ℕ
code_refusal m u = first ((14, other_mask m u.ssr u.iodp) ∷ (15, ltb (set_count m.bits) (first_code u)) ∷ [])

-- 14, 15 and 19 of contents
abbrev pub mask_refusal : HeldMask → Contents → ℕ
mask_refusal m c = pick (eqb c.kind 5) (code_refusal m c.code) (place_refusal m c.kind c.clock)

-- 01, Refusal numbers: 1, 3 to 13 of the frame for the ledger's PRN, then 14, 15 and 19 under the mask m
unfoldable pub refusal_under : ℕ → HeldMask → List ℕ → ℕ
refusal_under prn m f =
    first
    ((refusal_with (foreign_to prn f) f, not (eqb (refusal_with (foreign_to prn f) f) 0))
    ∷ (mask_refusal m (contents_of f), not (eqb (mask_refusal m (contents_of f)) 0))
    ∷ [])

-- 02, CR 1: what is said of the number n given to f under the mask m; 6 and 19 give more than their number
unfoldable pub says_under : HeldMask → List ℕ → ℕ → List ℕ
says_under m f n = pick (eqb n 6) (frame_says f n) (place_says m n)
