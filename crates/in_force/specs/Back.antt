-- 01, What the ledger keeps: "accepted" and "in force", by looking back over the frames handed in, newest first. Nothing here runs the ledger.
use Rattle.std.specs.Prelude.{ℕ, Bool, List, [], ◌∷◌, eqb}
use Rattle.std.proofs.Math.Option.{Option, none}
use Rattle.bits.specs.Pick.{pick}
use Rattle.frame.specs.Frame.{contents_of, foreign_to, refusal_with}
use Rattle.lookback.specs.Store.{naming, or_given, or_else, replacing, ending, standing_or, since}
use Rattle.held_clocks.specs.Clocks.{no_clock, clocks_kept, clock_replaces}
use Rattle.held_orbits.specs.Orbits.{no_orbit, orbit_replaces}
use Rattle.held_codes.specs.Codes.{no_code, codes_kept}
use Rattle.held_clocks.specs.declared.HeldClock.{HeldClock}
use Rattle.held_orbits.specs.declared.HeldOrbit.{HeldOrbit}
use Rattle.held_codes.specs.declared.HeldCode.{HeldCode}
use Rattle.held_mask.specs.Mask.{HeldMask, no_held_mask, same_mask}
use Rattle.places.specs.Keeps.{mask_of, orbits_of, clocks_of, codes_of, refusal_under, says_under}

-- 01, What the ledger keeps: the mask that f brings, where it is an accepted type 1; that depends on no other frame
unfoldable pub mask_by : ℕ → List ℕ → Option HeldMask
mask_by prn f = pick (eqb (refusal_with (foreign_to prn f) f) 0) (mask_of (contents_of f)) none

-- 01, Mask in force: that of the last accepted type 1, for a ledger of the PRN after the frames h
unfoldable pub mask_in_force : ℕ → List (List ℕ) → HeldMask
mask_in_force prn [] = no_held_mask
mask_in_force prn (f ∷ h) = or_given (mask_by prn f) (mask_in_force prn h)

-- 01, Refusal numbers: the one given to f, handed in after h; 0 if it is taken
abbrev pub refusal_after : ℕ → List (List ℕ) → List ℕ → ℕ
refusal_after prn h f = refusal_under prn (mask_in_force prn h) f

-- what is said of it
abbrev pub says_after : ℕ → List (List ℕ) → List ℕ → List ℕ
says_after prn h f = says_under (mask_in_force prn h) f (refusal_after prn h f)

-- f, handed in after h, is accepted
abbrev pub accepted : ℕ → List (List ℕ) → List ℕ → Bool
accepted prn h f = eqb (refusal_after prn h f) 0

-- the orbit record of f that names the slot, where f is accepted
unfoldable pub orbit_by : ℕ → List (List ℕ) → List ℕ → ℕ → Option HeldOrbit
orbit_by prn h f s = pick (accepted prn h f) (naming s (orbits_of (contents_of f).kind (contents_of f).orbit)) none

-- the clock record of f that names the slot, by itself or by its place in the mask in force, where f is accepted
unfoldable pub clock_by : ℕ → List (List ℕ) → List ℕ → ℕ → Option HeldClock
clock_by prn h f s = pick (accepted prn h f) (naming s (clocks_of (mask_in_force prn h) (contents_of f).kind (contents_of f).clock)) none

-- 01, Orbit in force for a slot, and 02, CR 3: the latest accepted orbit record naming it that replaces the one in force before it
unfoldable pub orbit_in_force : ℕ → List (List ℕ) → ℕ → HeldOrbit
orbit_in_force prn [] s = no_orbit
orbit_in_force prn (f ∷ h) s = or_given (replacing orbit_replaces (orbit_in_force prn h s) (orbit_by prn h f s)) (orbit_in_force prn h s)

-- 01, Clock in force, and 02, CR 3: the latest accepted clock record naming the slot that replaces the one in force before it, so that a clock
-- dropped by a mask holds nothing off; none if it came by place and any mask accepted after it differs from the mask it was placed by.
-- ms are the masks accepted after the frames looked at, oldest first
unfoldable pub clock_back : ℕ → List HeldMask → List (List ℕ) → ℕ → HeldClock
clock_back prn ms [] s = no_clock
clock_back prn ms (f ∷ h) s =
    standing_or clocks_kept same_mask (replacing clock_replaces (clock_back prn [] h s) (clock_by prn h f s)) (mask_in_force prn h) ms (clock_back prn (since (mask_by prn f) ms) h s)

-- 01, Clock in force for a slot, after the frames h
abbrev pub clock_in_force : ℕ → List (List ℕ) → ℕ → HeldClock
clock_in_force prn h s = clock_back prn [] h s

-- 02, CR 2: the URA code of f that names the slot by its place in the mask in force, where f is accepted
unfoldable pub code_by : ℕ → List (List ℕ) → List ℕ → ℕ → Option HeldCode
code_by prn h f s = pick (accepted prn h f) (naming s (codes_of (mask_in_force prn h) (contents_of f).kind (contents_of f).code)) none

-- 02, CR 2: what f makes of the slot's code: none where another orbit record comes into force, which one that 02, CR 3, holds off does not; else
-- the code that f has for the slot, if an orbit is in force
unfoldable pub code_made : ℕ → List (List ℕ) → List ℕ → ℕ → Option HeldCode
code_made prn h f s =
    or_else (ending no_code (replacing orbit_replaces (orbit_in_force prn h s) (orbit_by prn h f s)))
    (pick (orbit_in_force prn h s).has (code_by prn h f s) none)

-- 02, CR 2: the code that replaces that of the orbit in force, the latest to arrive; none if any mask accepted after it differs from the mask it was
-- placed by, as for clocks. ms are the masks accepted after the frames looked at, oldest first
unfoldable pub code_back : ℕ → List HeldMask → List (List ℕ) → ℕ → HeldCode
code_back prn ms [] s = no_code
code_back prn ms (f ∷ h) s = standing_or codes_kept same_mask (code_made prn h f s) (mask_in_force prn h) ms (code_back prn (since (mask_by prn f) ms) h s)

-- 02, CR 2: the code in force for a slot, after the frames h
abbrev pub code_in_force : ℕ → List (List ℕ) → ℕ → HeldCode
code_in_force prn h s = code_back prn [] h s
