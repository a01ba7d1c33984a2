-- 01, Message fields: the clock record.
use Rattle.std.specs.Prelude.{ℕ, Bool, ◌&&◌, List, [], ◌∷◌, pos, eqb, get_or}
use Rattle.bits.specs.Pick.{pick}
use Rattle.bits.specs.Bits.{fields_at}
use Rattle.records.specs.Signed.{signed_of}
use Rattle.records.specs.declared.clock.Clock.{Clock}

-- 01: IOD Corr [3], C0 [15]; in type 7 each begins with Sat Slot [9] (slotted)
abbrev pub clock_widths : Bool → List ℕ
clock_widths slotted = pick slotted 9 0 ∷ 3 ∷ 15 ∷ []

-- 01: a Sat Slot of 0 is a blank record, read as all zero
abbrev pub blank_clock : Clock
blank_clock = record { slot = 0; corr = 0; c0 = pos 0 }

-- the record that the field values say; only one with a slot can be blank
abbrev pub clock_of : Bool → List ℕ → Clock
clock_of slotted vs =
    pick (slotted && eqb (get_or vs 0 0) 0) blank_clock
    (record { slot = get_or vs 0 0; corr = get_or vs 1 0; c0 = signed_of 15 (get_or vs 2 0) })

-- the record from bit `at` on
abbrev pub clock_at : Bool → List ℕ → ℕ → Clock
clock_at slotted s at = clock_of slotted (fields_at s at (clock_widths slotted))
