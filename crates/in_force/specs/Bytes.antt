-- docs/FORM.md: what a ledger's lent bytes become. Every byte string of a ledger's length is a ledger.
use Rattle.std.specs.Prelude.{ℕ, zero, suc, ◌+◌, ◌*◌, ◌/◌, ◌≤◌, ◌≡◌, true, false, List, [], ◌∷◌, eqb, get_or, set, length, take, drop, replicate}
use Rattle.bits.specs.Pick.{pick}
use Rattle.contents.specs.declared.parts.MaskPart.{MaskPart}
use Rattle.contents.specs.declared.parts.Contents.{Contents}
use Rattle.frame.specs.Frame.{contents_of}
use Rattle.lookback.specs.Store.{Named, in_order}
use Rattle.held_mask.specs.Size.{size}
use Rattle.held_clocks.specs.Clocks.{held_clock_at, replace_clocks, dropped_clocks}
use Rattle.held_orbits.specs.Orbits.{held_orbit_at, put_orbit, orbit_comes}
use Rattle.held_codes.specs.Codes.{held_code_at, put_code, drop_code, cleared_codes}
use Rattle.held_orbits.specs.declared.HeldOrbit.{HeldOrbit}
use Rattle.held_codes.specs.declared.HeldCode.{HeldCode}
use Rattle.held_mask.specs.Mask.{held_mask, same_mask, mask_at, put_mask}
use Rattle.frame.specs.Frame.{is_prn}
use Rattle.places.specs.Keeps.{orbits_of, clocks_of, codes_of, refusal_under, says_under}
use Rattle.in_force.specs.Back.{mask_in_force, orbit_in_force, clock_in_force, code_in_force}

-- FORM: the PRN that the ledger is for
abbrev pub prn_at : List ℕ → ℕ
prn_at s = get_or s 0 0

-- a fresh ledger for the PRN in the bytes s: nothing is held, whatever they held before
unfoldable pub fresh : List ℕ → ℕ → List ℕ
fresh s prn = set (replicate (length s) 0) 0 prn

-- 01, Clock in force, and 02, CR 2: a mask taken; if it differs from the one held, clocks that came by place go, and so do all codes
unfoldable pub mask_bytes : List ℕ → MaskPart → List ℕ
mask_bytes s m = put_mask (pick (same_mask (mask_at s) (held_mask m)) s (cleared_codes (dropped_clocks s 255))) m

-- 02, CR 2: a code kept for a slot, where an orbit is held for it
unfoldable pub kept_code : List ℕ → ℕ → HeldCode → List ℕ
kept_code s slot h = pick (held_orbit_at s slot).has (put_code s slot h) s

-- named codes, one after the other
abbrev pub kept_codes : List ℕ → List (Named HeldCode) → List ℕ
kept_codes s ns = in_order kept_code s ns

-- 02, CR 3: an orbit kept for a slot, where it replaces the one held; 02, CR 2: the slot then has no code any more
unfoldable pub kept_orbit : List ℕ → ℕ → HeldOrbit → List ℕ
kept_orbit s slot h = pick (orbit_comes s slot h) (drop_code (put_orbit s slot h) slot) s

-- named orbits, one after the other
abbrev pub kept_orbits : List ℕ → List (Named HeldOrbit) → List ℕ
kept_orbits s ns = in_order kept_orbit s ns

-- contents taken: a type 1's mask, or else codes, clocks and orbits; those of a type 3 change nothing
unfoldable pub taken_bytes : List ℕ → Contents → List ℕ
taken_bytes s c =
    pick (eqb c.kind 1) (mask_bytes s c.mask)
    (kept_orbits
    (replace_clocks (kept_codes s (codes_of (mask_at s) c.kind c.code)) (clocks_of (mask_at s) c.kind c.clock))
    (orbits_of c.kind c.orbit))

-- the refusal that a ledger gives a frame, 0 if it is taken
abbrev pub take_refusal : List ℕ → List ℕ → ℕ
take_refusal s f = refusal_under (prn_at s) (mask_at s) f

-- what a ledger says of a frame
abbrev pub take_says : List ℕ → List ℕ → List ℕ
take_says s f = says_under (mask_at s) f (take_refusal s f)

-- 01: a frame is taken whole or refused whole; a refusal changes nothing
unfoldable pub take_bytes : List ℕ → List ℕ → List ℕ
take_bytes s f = pick (eqb (take_refusal s f) 0) (taken_bytes s (contents_of f)) s

-- frames taken one after the other, newest first
unfoldable pub run_bytes : List ℕ → List (List ℕ) → List ℕ
run_bytes s [] = s
run_bytes s (f ∷ h) = take_bytes (run_bytes s h) f

-- a ledger holds exactly what is in force, by looking back, after the frames h
pub record Holds (s : List ℕ) (prn : ℕ) (h : List (List ℕ)) : Type 0 where
  pub long : length s ≡ size
  pub own : prn_at s ≡ prn
  pub mask : mask_at s ≡ mask_in_force prn h
  pub orbit : (slot : ℕ) → 1 ≤ slot → slot ≤ 255 → held_orbit_at s slot ≡ orbit_in_force prn h slot
  pub clock : (slot : ℕ) → 1 ≤ slot → slot ≤ 255 → held_clock_at s slot ≡ clock_in_force prn h slot
  pub code : (slot : ℕ) → 1 ≤ slot → slot ≤ 255 → held_code_at s slot ≡ code_in_force prn h slot

-- frame i of a log, from 0: a piece of 125 bytes; what is left at the end is a shorter one
abbrev pub frame_at : List ℕ → ℕ → List ℕ
frame_at log i = take 125 (drop (125 * i) log)

-- the first n frames of a log, newest first
unfoldable pub frames_to : List ℕ → ℕ → List (List ℕ)
frames_to log zero = []
frames_to log (suc n) = frame_at log n ∷ frames_to log n

-- the frames of a log, newest first
abbrev pub frames_of : List ℕ → List (List ℕ)
frames_of log = frames_to log ((length log + 124) / 125)

-- what replaying a log leaves: refused, the bytes as they were; else all that is in force after its frames, and nothing else
pub record Replayed (s : List ℕ) (prn : ℕ) (log t : List ℕ) : Type 0 where
  pub refused : is_prn prn ≡ false → t ≡ s
  pub bytes : is_prn prn ≡ true → t ≡ run_bytes (fresh s prn) (frames_of log)
  pub holds : is_prn prn ≡ true → Holds t prn (frames_of log)
