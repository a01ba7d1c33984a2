-- None of the parts of a ledger's form, clocks, orbits and codes, touches another.
use mathlib.Core.Path.{◌≡◌}
use mathlib.Core.Logic.{inl, inr}
use mathlib.Core.List.{List}
use Prim.Native.Nat.{ℕ, ◌≤◌}
use native.Mathlib.Omega.{arith}
use Rattle.bits.specs.Bytes.{Kept}
use Rattle.lookback.specs.Store.{Named}
use Rattle.held_clocks.specs.Clocks.{held_clocks_at, replace_clocks}
use Rattle.held_clocks.specs.declared.HeldClock.{HeldClock}
use Rattle.held_clocks.proofs.ClockLaws.{clocks_room, clocks_kept_lem}
use Rattle.held_orbits.specs.Orbits.{held_orbit_at, held_orbits_at}
use Rattle.held_orbits.proofs.OrbitLaws.{orbit_kept, orbits_kept}
use Rattle.held_codes.specs.Codes.{held_code_at}
use Rattle.held_codes.proofs.CodeLaws.{code_kept}

module _ (s : List ℕ) where
  -- clocks put leave orbits and codes
  pub orbits_by_clocks : (ns : List (Named HeldClock)) → held_orbits_at (replace_clocks s ns) ≡ held_orbits_at s
  orbits_by_clocks ns = orbits_kept 36 3096 s (replace_clocks s ns) (clocks_room s ns) (inr (omega arith))

  module _ (ns : List (Named HeldClock)) (slot : ℕ) (p : 1 ≤ slot) (q : slot ≤ 255) where
    pub orbit_by_clocks : held_orbit_at (replace_clocks s ns) slot ≡ held_orbit_at s slot
    orbit_by_clocks = orbit_kept 36 3096 s (replace_clocks s ns) (clocks_room s ns) (inr (omega arith)) slot p q

    pub code_by_clocks : held_code_at (replace_clocks s ns) slot ≡ held_code_at s slot
    code_by_clocks = code_kept 36 3096 s (replace_clocks s ns) (clocks_room s ns) (inr (omega arith)) slot p q

module _ (s t : List ℕ) where
  -- what changes codes alone leaves clocks and orbits
  pub clocks_by_codes : Kept 9216 9726 s t → held_clocks_at t ≡ held_clocks_at s
  clocks_by_codes k = clocks_kept_lem 9216 9726 s t k (inl (omega arith))

  pub orbits_by_codes : Kept 9216 9726 s t → held_orbits_at t ≡ held_orbits_at s
  orbits_by_codes k = orbits_kept 9216 9726 s t k (inl (omega arith))

  pub orbit_by_codes : Kept 9216 9726 s t → (slot : ℕ) → 1 ≤ slot → slot ≤ 255 → held_orbit_at t slot ≡ held_orbit_at s slot
  orbit_by_codes k slot p q = orbit_kept 9216 9726 s t k (inl (omega arith)) slot p q

  -- what changes orbits and codes alone leaves clocks
  pub clocks_by_orbits : Kept 3096 9726 s t → held_clocks_at t ≡ held_clocks_at s
  clocks_by_orbits k = clocks_kept_lem 3096 9726 s t k (inl (omega arith))
