-- The C boundary: the contents that 516 bytes say. Numbers are high byte first, those with a sign in two's complement; bytes past the end are 0.
use Rattle.std.specs.Prelude.{ℕ, ◌+◌, ◌*◌, List, get_or}
use Rattle.bits.specs.Bytes.{row_at}
use Rattle.bits.specs.Table.{table}
use Rattle.flat_biases.specs.Biases.{flat_biases_in}
use Rattle.flat_biases.specs.Codes.{flat_codes_in}
use Rattle.lent.specs.Digits.{two_at, four_at}
use Rattle.records.specs.Signed.{signed_half}
use Rattle.ura.specs.Ura.{held_ura}
use Rattle.records.specs.declared.orbit.Orbit.{Orbit}
use Rattle.records.specs.declared.clock.Clock.{Clock}
use Rattle.contents.specs.declared.parts.MaskPart.{MaskPart}
use Rattle.contents.specs.declared.parts.ClockPart.{ClockPart}
use Rattle.contents.specs.declared.parts.OrbitPart.{OrbitPart}
use Rattle.contents.specs.declared.parts.Contents.{Contents}

-- clock record: slot (2), IOD Corr (1), C0 (2)
abbrev pub flat_clock_at : List ℕ → ℕ → Clock
flat_clock_at s at = record { slot = two_at s at; corr = get_or s (at + 2) 0; c0 = signed_half 32768 (two_at s (at + 3)) }

-- clock record i of 23, from byte 48 on
abbrev pub flat_clock_nth : List ℕ → ℕ → Clock
flat_clock_nth s i = flat_clock_at s (48 + 5 * i)

-- the clock records
unfoldable pub flat_clocks_at : List ℕ → List Clock
flat_clocks_at s = table (flat_clock_nth s) 23

-- orbit record: slot (2), IODN (2), IOD Corr (1), radial, along, cross (2 each), URA's kind (1) and quarters (4)
abbrev pub flat_orbit_at : List ℕ → ℕ → Orbit
flat_orbit_at s at =
    record {
      slot = two_at s at;
      iodn = two_at s (at + 2);
      corr = get_or s (at + 4) 0;
      radial = signed_half 32768 (two_at s (at + 5));
      along = signed_half 32768 (two_at s (at + 7));
      cross = signed_half 32768 (two_at s (at + 9));
      ura = held_ura (get_or s (at + 11) 0) (four_at s (at + 12));
    }

-- orbit record i of 6, from byte 169 on
abbrev pub flat_orbit_nth : List ℕ → ℕ → Orbit
flat_orbit_nth s i = flat_orbit_at s (169 + 16 * i)

-- the orbit records
unfoldable pub flat_orbits_at : List ℕ → List Orbit
flat_orbits_at s = table (flat_orbit_nth s) 6

-- mask part: epoch (4), IOD SSR (1), IODP (1), mask (32)
unfoldable pub flat_mask_in : List ℕ → MaskPart
flat_mask_in s = record { epoch = four_at s 1; ssr = get_or s 5 0; iodp = get_or s 6 0; bytes = row_at s 7 32 }

-- clock part: epoch (4), IOD SSR (1), IODP (1), sub-type or Slot_S (2), count (1), 23 records
unfoldable pub flat_clocks_in : List ℕ → ClockPart
flat_clocks_in s =
    record {
      epoch = four_at s 39;
      ssr = get_or s 43 0;
      iodp = get_or s 44 0;
      start = two_at s 45;
      count = get_or s 47 0;
      clocks = flat_clocks_at s;
    }

-- orbit part: epoch (4), IOD SSR (1), count (1), 6 records
unfoldable pub flat_orbits_in : List ℕ → OrbitPart
flat_orbits_in s = record { epoch = four_at s 163; ssr = get_or s 167 0; count = get_or s 168 0; orbits = flat_orbits_at s }

-- contents: type (1), mask part, clock part, orbit part; 02, CR 2: bias part, code part
unfoldable pub flat_contents_of : List ℕ → Contents
flat_contents_of s =
    record { kind = get_or s 0 0; mask = flat_mask_in s; clock = flat_clocks_in s; orbit = flat_orbits_in s; bias = flat_biases_in s; code = flat_codes_in s }
