-- 01, Message fields, in order: what each type carries and how wide. A width of 0 is a field that the type does not have.
use Rattle.std.specs.Prelude.{ℕ, ◌+◌, ◌*◌, true, false, List, [], ◌∷◌, eqb}
use Rattle.bits.specs.Pick.{pick}
use Rattle.layout.specs.declared.Layout.{Layout}

-- 01: epoch [17], reserved [4], IOD SSR [2], then IODP [4] and sub-type [5] or Slot_S [9] where the type has them
abbrev pub part_widths : ℕ → ℕ → List ℕ
part_widths iodp start = 17 ∷ 4 ∷ 2 ∷ iodp ∷ start ∷ []

-- 01: type 1 has a mask; 2 six orbits; 4 a sub-type and 23 clocks; 6 Slot_S, NumC clocks and NumO orbits; 7 as 6, without IODP and Slot_S, a slot in each clock
unfoldable pub layout_of : ℕ → ℕ → ℕ → Layout
layout_of kind num_c numO =
    pick (eqb kind 1) (record { mask = true; head = 6; clocks = 0; orbits = 0; iodp = 0; start = 0; slotted = false })
    (pick (eqb kind 2) (record { mask = false; head = 6; clocks = 0; orbits = 6; iodp = 0; start = 0; slotted = false })
    (pick (eqb kind 4) (record { mask = false; head = 6; clocks = 23; orbits = 0; iodp = 4; start = 5; slotted = false })
    (pick (eqb kind 6) (record { mask = false; head = 14; clocks = num_c; orbits = numO; iodp = 4; start = 9; slotted = false })
    (pick (eqb kind 7) (record { mask = false; head = 14; clocks = num_c; orbits = numO; iodp = 0; start = 0; slotted = true })
    (record { mask = false; head = 6; clocks = 0; orbits = 0; iodp = 0; start = 0; slotted = false })))))

-- the bits of the clock part: none where there is no record
abbrev pub clock_bits : Layout → ℕ
clock_bits l = pick (eqb l.clocks 0) 0 (23 + l.iodp + l.start + pick l.slotted 27 18 * l.clocks)

-- the bits of the orbit part: none where there is no record
abbrev pub orbit_bits : Layout → ℕ
orbit_bits l = pick (eqb l.orbits 0) 0 (23 + 69 * l.orbits)

-- where the orbit part begins: after the clock part
abbrev pub orbits_from : Layout → ℕ
orbits_from l = l.head + clock_bits l

-- where the parts end
abbrev pub end_of : Layout → ℕ
end_of l = orbits_from l + orbit_bits l
