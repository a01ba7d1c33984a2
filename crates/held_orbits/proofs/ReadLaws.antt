-- What the bytes of a slot's orbit say, field by field, as they are read.
use mathlib.Core.Path.{◌≡◌, refl, sym}
use mathlib.Core.Logic.{◌≢◌}
use Prim.Native.Nat.{ℕ, ◌+◌, ◌<◌}
use borrow.Author.Rules.{rules}
use mir.Syntax.{w64}
use mir.Val.{Fits}
use mathlib.Core.Bool.{Bool, true, false}
use mathlib.Core.List.{List}
use lib.Dec.{eqb}
use lib.IntN.{ℤ}
use lib.ListN.{get_or}
use native.Mathlib.Nat.{add-zero, add_assoc}
use borrow.Author.Tests.{eq-eqb, ne_eqb}
use Rattle.bits.specs.Bytes.{row_at}
use Rattle.bits.specs.Pick.{pick}
use Rattle.bits.specs.Table.{table}
use Rattle.lent.specs.Digits.{zag_of, two_at, four_at}
use Rattle.lent.specs.Held.{held_at}
use Rattle.ura.specs.Ura.{held_ura}
use Rattle.ura.specs.declared.Ura.{Ura}
use Rattle.held_orbits.specs.Orbits.{no_orbit, orbit_offset, held_orbit_at}
use Rattle.held_orbits.specs.declared.HeldOrbit.{HeldOrbit}

-- an orbit made of equal fields
pub orbit_made : {e e' s s' i i' k k' : ℕ} {r r' a a' c c' : ℤ} {u u' : Ura} → e ≡ e' → s ≡ s' → i ≡ i' → k ≡ k' → r ≡ r' → a ≡ a' → c ≡ c' → u ≡ u' →
    ◌≡◌ {A = HeldOrbit}
    (record { has = true; epoch = e; ssr = s; iodn = i; corr = k; radial = r; along = a; cross = c; ura = u })
    (record { has = true; epoch = e'; ssr = s'; iodn = i'; corr = k'; radial = r'; along = a'; cross = c'; ura = u' })
orbit_made e s i k r a c u = rw (e, s, i, k, r, a, c, u)

-- an offset a little further on
pub fits_on : {at : ℕ} (k : ℕ) → at < 9216 → k < 100 → Fits w64 (at + k)
fits_on k h l = search rules

-- whether an orbit is held, by the flag alone
has_by : (b : Bool) (h : HeldOrbit) → h.has ≡ true → b ≡ (pick b h no_orbit).has
has_by true h e = sym e
has_by false h e = refl

module _ (s : List ℕ) (slot at : ℕ) where
  pub orbit_has : at ≡ orbit_offset slot → eqb (get_or s at 0) 1 ≡ (held_orbit_at s slot).has
  unfolding held_at row_at table
  orbit_has e = rw (← e, add-zero at) (has_by (eqb (get_or s at 0) 1) _ refl)

  pub orbit_none : at ≡ orbit_offset slot → get_or s at 0 ≢ 1 → no_orbit ≡ held_orbit_at s slot
  unfolding held_at row_at table
  orbit_none e n = rw (← e, add-zero at, ne_eqb _ _ n)

  pub orbit_some : at ≡ orbit_offset slot → get_or s at 0 ≡ 1 →
      ◌≡◌ {A = HeldOrbit}
      (record {
        has = true;
        epoch = four_at s (at + 1);
        ssr = get_or s (at + 5) 0;
        iodn = two_at s (at + 6);
        corr = get_or s (at + 8) 0;
        radial = zag_of (two_at s (at + 9));
        along = zag_of (two_at s (at + 11));
        cross = zag_of (two_at s (at + 13));
        ura = held_ura (get_or s (at + 15) 0) (four_at s (at + 16));
      })
      (held_orbit_at s slot)
  unfolding held_at row_at table
  orbit_some e n =
      rw (
        ← e,
        add-zero at,
        eq-eqb _ _ n,
        add_assoc at 1 1,
        add_assoc at 1 2,
        add_assoc at 1 3,
        add_assoc at 6 1,
        add_assoc at 9 1,
        add_assoc at 11 1,
        add_assoc at 13 1,
        add_assoc at 16 1,
        add_assoc at 16 2,
        add_assoc at 16 3,
      )
