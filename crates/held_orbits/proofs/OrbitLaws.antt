-- Laws of the orbits' form: an orbit reads back as it was written, what the bytes say after each step, and what each step keeps.
use mathlib.Core.Path.{◌≡◌, refl, sym}
use mathlib.Core.Logic.{◌⊎◌, ◌≢◌, dite}
use Prim.Native.Nat.{ℕ, ◌+◌, ◌≤◌}
use mathlib.Core.Bool.{Bool, true, false, not}
use mathlib.Core.List.{List}
use lib.Dec.{eqb}
use lib.ListN.{get_or, length}
use native.Mathlib.Decide.{ℕ_discrete}
use native.Mathlib.Omega.{arith}
use borrow.Author.Tests.{ne_eqb, le-ltb}
use Rattle.bits.specs.Pick.{pick}
use Rattle.bits.specs.Bytes.{Kept}
use Rattle.bits.proofs.TestLaws.{both_hold}
use Rattle.lookback.specs.Store.{Named, replace}
use Rattle.lent.specs.Digits.{zig_of}
use Rattle.lent.specs.Held.{comes_in, replace_held}
use Rattle.lent.proofs.HeldLaws.{put_room, put_other, replace_none, replace_view, AllHeld, held_kept, helds_kept}
use Rattle.lent.proofs.DigitLaws.{pair_back, quad_back, zag_zig}
use Rattle.ura.specs.Ura.{quarters_in}
use Rattle.ura.proofs.UraLaws.{kind_back}
use Rattle.held_mask.specs.Size.{size}
use Rattle.newest.specs.Newest.{replaces, stamp_at}
use Rattle.newest.specs.Rows.{replaces_row, comes_to}
use Rattle.newest.specs.declared.Rows.{Rows}
use Rattle.newest.proofs.RowLaws.{comes_replaces, came_no}
use Rattle.held_orbits.specs.Orbits.{orbit_stamp, orbit_replaces, held_orbit_at, orbit_offset, no_orbit, held_orbit_bytes, held_orbit_in, held_orbit_of, held_orbits_at, put_orbit, orbit_comes, replace_orbit}
use Rattle.held_orbits.specs.declared.HeldOrbit.{HeldOrbit}
use Rattle.held_orbits.proofs.ReadLaws.{orbit_none}

-- ---- what decides of the orbit that a row says
abbrev pub orbit_rows : Rows
orbit_rows = record { first = 3096; size = 24; epoch = 1; ssr = 5; corr = 8 }

orbit_row_lem : (h : HeldOrbit) (r : List ℕ) → replaces_row r orbit_rows (orbit_stamp h) ≡ orbit_replaces (held_orbit_of r) h
unfolding replaces orbit_replaces
orbit_row_lem h r = go (eqb (get_or r 0 0) 1)
  where
    go : (b : Bool) → replaces b (stamp_at r 1 5 8) (orbit_stamp h) ≡ orbit_replaces (pick b (held_orbit_in r) no_orbit) h
    go true = refl
    go false = refl

-- an orbit comes into force where it replaces the one kept for its slot; slot 0 is none
pub orbit_row_comes : (s : List ℕ) (slot : ℕ) (h : HeldOrbit) → comes_to s orbit_rows slot (orbit_stamp h) ≡ orbit_comes s slot h
orbit_row_comes s slot h = comes_replaces orbit_replaces held_orbit_of s orbit_rows slot (orbit_stamp h) h (orbit_row_lem h)

-- ---- there and back
pub orbit_long : (h : HeldOrbit) → length (held_orbit_bytes h) ≡ 24
orbit_long h = refl

-- an orbit that is held is read as it was written, whatever its fields
pub orbit_sound : (h : HeldOrbit) → h.has ≡ true → held_orbit_of (held_orbit_bytes h) ≡ h
orbit_sound h e =
    rw (
      e,
      quad_back h.epoch,
      pair_back h.iodn,
      pair_back (zig_of h.radial),
      zag_zig h.radial,
      pair_back (zig_of h.along),
      zag_zig h.along,
      pair_back (zig_of h.cross),
      zag_zig h.cross,
      quad_back (quarters_in h.ura),
      kind_back h.ura,
    )

-- no orbit is twenty-four zeros
pub no_orbit_sound : held_orbit_of (held_orbit_bytes no_orbit) ≡ no_orbit
no_orbit_sound = refl

-- every orbit that is named is a held one
abbrev pub OrbitsHeld : List (Named HeldOrbit) → Type 0
OrbitsHeld ns = AllHeld (λ (h : HeldOrbit). h.has) ns

-- ---- what the bytes say: an orbit put where it replaces what is held is put so into the list that the bytes say
module _ (s : List ℕ) (long : length s ≡ size) where
  pub orbit_view : (slot : ℕ) (h : HeldOrbit) → h.has ≡ true → held_orbits_at (replace_orbit s slot h) ≡ replace orbit_replaces no_orbit (held_orbits_at s) slot h
  orbit_view slot h e = replace_view orbit_replaces no_orbit held_orbit_of held_orbit_bytes 24 orbit_long s 3096 slot h (omega arith) (orbit_sound h e)

-- ---- what each step keeps, of bytes of any length
module _ (s : List ℕ) (slot : ℕ) (h : HeldOrbit) where
  pub orbit_room : Kept 3096 9216 s (put_orbit s slot h)
  orbit_room = put_room held_orbit_of held_orbit_bytes 24 orbit_long s 3096 slot h

  pub orbit_other : (other : ℕ) → 1 ≤ slot → 1 ≤ other → other ≢ slot → held_orbit_at (put_orbit s slot h) other ≡ held_orbit_at s other
  orbit_other other p q n = put_other held_orbit_of held_orbit_bytes 24 orbit_long s 3096 slot other h p q n

  -- an orbit is put where it comes into force, and then only
  pub orbit_came : orbit_comes s slot h ≡ true → replace_orbit s slot h ≡ put_orbit s slot h
  unfolding replace_held
  orbit_came e = rw (both_hold (not (eqb slot 0)) (comes_in orbit_replaces held_orbit_of 24 s 3096 slot h) e).1

  pub orbit_stayed : orbit_comes s slot h ≡ false → replace_orbit s slot h ≡ s
  orbit_stayed e = sym (came_no orbit_replaces no_orbit held_orbit_of held_orbit_bytes 24 orbit_long s 3096 slot h e)

-- an orbit for a slot of a ledger's bytes comes into force where it replaces the one held
pub comes_in_lem : (s : List ℕ) (slot : ℕ) (h : HeldOrbit) → length s ≡ size → 1 ≤ slot → slot ≤ 255 → orbit_comes s slot h ≡ orbit_replaces (held_orbit_at s slot) h
comes_in_lem s slot h long p q =
    rw (ne_eqb slot 0 (λ z. omega arith), le-ltb (length s) (orbit_offset slot + 24) (omega arith))

-- orbits are as they were where their bytes are
module _ (lo hi : ℕ) (s t : List ℕ) (k : Kept lo hi s t) (o : (9216 ≤ lo) ⊎ (hi ≤ 3096)) where
  pub orbit_kept : (slot : ℕ) → 1 ≤ slot → slot ≤ 255 → held_orbit_at t slot ≡ held_orbit_at s slot
  orbit_kept = held_kept held_orbit_of 24 3096 lo hi s t k o

  pub orbits_kept : held_orbits_at t ≡ held_orbits_at s
  orbits_kept = helds_kept held_orbit_of 24 3096 lo hi s t k o

-- zero bytes, however many, hold no orbit
module _ (s : List ℕ) (zeros : (j : ℕ) → get_or s j 0 ≡ 0) where
  pub zero_orbit : (slot : ℕ) → held_orbit_at s slot ≡ no_orbit
  zero_orbit slot = sym (orbit_none s slot (orbit_offset slot) refl (λ e. omega (arith, zeros (orbit_offset slot))))
