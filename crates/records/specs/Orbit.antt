-- 01, Message fields: the orbit record.
use Rattle.std.specs.Prelude.{ℕ, ◌+◌, ◌*◌, List, [], ◌∷◌, pos, eqb, get_or}
use Rattle.bits.specs.Pick.{pick}
use Rattle.bits.specs.Bits.{fields_at}
use Rattle.records.specs.Signed.{signed_of}
use Rattle.ura.specs.Ura.{ura_of}
use Rattle.ura.specs.declared.Ura.TheVariants.{Unknown}
use Rattle.records.specs.declared.orbit.Orbit.{Orbit}

-- 01: Sat Slot [9], IODN [10], IOD Corr [3], radial [15], along [13], cross [13], URA class [3], URA value [3]
abbrev pub orbit_widths : List ℕ
orbit_widths = 9 ∷ 10 ∷ 3 ∷ 15 ∷ 13 ∷ 13 ∷ 3 ∷ 3 ∷ []

-- 01: a Sat Slot of 0 is a blank record, read as all zero
abbrev pub blank_orbit : Orbit
blank_orbit = record { slot = 0; iodn = 0; corr = 0; radial = pos 0; along = pos 0; cross = pos 0; ura = Unknown }

-- the record that the field values say
abbrev pub orbit_of : List ℕ → Orbit
orbit_of vs =
    pick (eqb (get_or vs 0 0) 0) blank_orbit
    (record {
      slot = get_or vs 0 0;
      iodn = get_or vs 1 0;
      corr = get_or vs 2 0;
      radial = signed_of 15 (get_or vs 3 0);
      along = signed_of 13 (get_or vs 4 0);
      cross = signed_of 13 (get_or vs 5 0);
      ura = ura_of (8 * get_or vs 6 0 + get_or vs 7 0);
    })

-- the record from bit `at` on
abbrev pub orbit_at : List ℕ → ℕ → Orbit
orbit_at s at = orbit_of (fields_at s at orbit_widths)
