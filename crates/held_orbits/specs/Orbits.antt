-- docs/FORM.md: the orbits that a ledger keeps, as lent bytes: 255 of 24 bytes from byte 3096 on. First byte 1 means held; anything else is the
-- absent record.
use Rattle.std.specs.Prelude.{ℕ, ◌/◌, ◌%◌, Bool, true, false, not, ◌&&◌, List, [], ◌∷◌, eqb, pos, get_or}
use Rattle.bits.specs.Pick.{pick}
use Rattle.lent.specs.Digits.{flag_of, zig_of, zag_of, pair_of, quad_of}
use Rattle.lent.specs.Held.{offset, held_at, helds_at, put_held, comes_in, replace_held, target_of}
use Rattle.ura.specs.Ura.{kind_of, quarters_in, held_ura}
use Rattle.ura.specs.declared.Ura.TheVariants.{Unknown}
use Rattle.newest.specs.Newest.{replaces}
use Rattle.newest.specs.declared.Stamp.{Stamp}
use Rattle.held_orbits.specs.declared.HeldOrbit.{HeldOrbit}

-- 01, What the ledger keeps: the slot has no orbit
abbrev pub no_orbit : HeldOrbit
no_orbit = record { has = false; epoch = 0; ssr = 0; iodn = 0; corr = 0; radial = pos 0; along = pos 0; cross = pos 0; ura = Unknown }

-- what decides which orbit counts
abbrev pub orbit_stamp : HeldOrbit → Stamp
orbit_stamp h = record { ssr = h.ssr; corr = h.corr; epoch = h.epoch }

-- 02, CR 3: an orbit replaces the one held
unfoldable pub orbit_replaces : HeldOrbit → HeldOrbit → Bool
orbit_replaces held new = replaces held.has (orbit_stamp held) (orbit_stamp new)

-- FORM: held (1), epoch (4), IOD SSR (1), IODN (2), IOD Corr (1), radial, along, cross (2 each), URA's kind (1) and quarters (4), 4 spare
abbrev pub held_orbit_bytes : HeldOrbit → List ℕ
held_orbit_bytes h =
    flag_of h.has
    ∷ h.epoch / 65536 / 256
    ∷ h.epoch / 65536 % 256
    ∷ h.epoch % 65536 / 256
    ∷ h.epoch % 65536 % 256
    ∷ h.ssr
    ∷ h.iodn / 256
    ∷ h.iodn % 256
    ∷ h.corr
    ∷ zig_of h.radial / 256
    ∷ zig_of h.radial % 256
    ∷ zig_of h.along / 256
    ∷ zig_of h.along % 256
    ∷ zig_of h.cross / 256
    ∷ zig_of h.cross % 256
    ∷ kind_of h.ura
    ∷ quarters_in h.ura / 65536 / 256
    ∷ quarters_in h.ura / 65536 % 256
    ∷ quarters_in h.ura % 65536 / 256
    ∷ quarters_in h.ura % 65536 % 256
    ∷ 0
    ∷ 0
    ∷ 0
    ∷ 0
    ∷ []

-- FORM: the orbit that the bytes of a held one say
abbrev pub held_orbit_in : List ℕ → HeldOrbit
held_orbit_in r =
    record {
      has = true;
      epoch = quad_of (pair_of (get_or r 1 0) (get_or r 2 0)) (pair_of (get_or r 3 0) (get_or r 4 0));
      ssr = get_or r 5 0;
      iodn = pair_of (get_or r 6 0) (get_or r 7 0);
      corr = get_or r 8 0;
      radial = zag_of (pair_of (get_or r 9 0) (get_or r 10 0));
      along = zag_of (pair_of (get_or r 11 0) (get_or r 12 0));
      cross = zag_of (pair_of (get_or r 13 0) (get_or r 14 0));
      ura = held_ura (get_or r 15 0) (quad_of (pair_of (get_or r 16 0) (get_or r 17 0)) (pair_of (get_or r 18 0) (get_or r 19 0)));
    }

-- FORM: the orbit that its bytes say; first byte 1 means held
abbrev pub held_orbit_of : List ℕ → HeldOrbit
held_orbit_of r = pick (eqb (get_or r 0 0) 1) (held_orbit_in r) no_orbit

-- FORM: where the orbit of a slot begins
abbrev pub orbit_offset : ℕ → ℕ
orbit_offset slot = offset 24 3096 slot

-- the orbit kept for a slot
abbrev pub held_orbit_at : List ℕ → ℕ → HeldOrbit
held_orbit_at s slot = held_at held_orbit_of 24 s 3096 slot

-- the orbits kept for slots 1 to 255
abbrev pub held_orbits_at : List ℕ → List HeldOrbit
held_orbits_at s = helds_at held_orbit_of 24 s 3096

-- the bytes with an orbit kept for a slot
abbrev pub put_orbit : List ℕ → ℕ → HeldOrbit → List ℕ
put_orbit s slot h = put_held held_orbit_bytes 24 s 3096 slot h

-- 02, CR 3: an orbit comes into force for a slot: it replaces the one held there now; slot 0 is none
abbrev pub orbit_comes : List ℕ → ℕ → HeldOrbit → Bool
orbit_comes s slot h = not (eqb slot 0) && comes_in orbit_replaces held_orbit_of 24 s 3096 slot h

-- the bytes with an orbit kept for a slot where it replaces the one held
abbrev pub replace_orbit : List ℕ → ℕ → HeldOrbit → List ℕ
replace_orbit s slot h = replace_held orbit_replaces held_orbit_of held_orbit_bytes 24 s 3096 slot h

-- where such an orbit is stored
abbrev pub orbit_target : List ℕ → ℕ → HeldOrbit → ℕ
orbit_target s slot h = target_of orbit_replaces held_orbit_of 24 s 3096 slot h
