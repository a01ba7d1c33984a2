-- What is in force keeps within the limits of its fields, after any frames.
use Prim.Native.Nat.{ℕ, ◌≤◌}
use mathlib.Core.Bool.{true, false}
use mathlib.Core.List.{List, [], ◌∷◌}
use mathlib.Core.Option.{some}
use mathlib.Core.Logic.{dite}
use native.Mathlib.Decide.{dec_lt}
use native.Mathlib.Omega.{arith}
use borrow.Author.Tests.{ne_eqb, le-ltb}
use lib.Dec.{eqb, lit<}
use lib.ListN.{take}
use Rattle.layout.proofs.LayoutLaws.{pick_all}
use Rattle.ura.specs.Ura.{ura_of, code_of}
use Rattle.ura.specs.declared.Ura.{Ura}
use Rattle.ura.proofs.UraLaws.{code_back}
use Rattle.records.specs.declared.orbit.Orbit.{Orbit}
use Rattle.records.specs.declared.clock.Clock.{Clock}
use Rattle.records.proofs.SignedLaws.{InBits}
use Rattle.frame.specs.Frame.{contents_of, foreign_to, refusal_with}
use Rattle.lookback.specs.Store.{since, naming, replacing}
use Rattle.held_clocks.specs.Clocks.{clocks_kept, clock_replaces}
use Rattle.held_clocks.specs.declared.HeldClock.{HeldClock}
use Rattle.held_orbits.specs.Orbits.{no_orbit, orbit_replaces}
use Rattle.held_orbits.specs.declared.HeldOrbit.{HeldOrbit}
use Rattle.held_codes.specs.declared.HeldCode.{HeldCode}
use Rattle.row.specs.Row.{coded}
use Rattle.held_mask.specs.Mask.{HeldMask, held_mask, same_mask}
use Rattle.places.specs.Keeps.{held_orbit, held_clock, mask_of, has_orbits, orbits_of, needs_mask, first_place, clocks_of, by_slot, by_place}
use Rattle.in_force.specs.Back.{mask_by, mask_in_force, accepted, orbit_by, clock_by, orbit_in_force, clock_back}
use Rattle.sheet_right.proofs.EachLaws.{each_take, EachNamed, each_slot, each_place, May, may_pick, may_naming, may_replacing, all_or, all_standing}
use Rattle.sheet_right.proofs.FieldLimits.{OrbitLimits, ClockLimits, orbits_limits, clocks_limits, mask_limits}

-- the limits of an orbit as it is held
pub record HeldLimits (o : HeldOrbit) : Type 0 where
  pub iodn : o.iodn ≤ 1023
  pub corr : o.corr ≤ 7
  pub radial : InBits 15 o.radial
  pub along : InBits 13 o.along
  pub cross : InBits 13 o.cross
  pub ura : code_of o.ura ≤ 63

-- of a clock
abbrev pub C0Limit : HeldClock → Type 0
C0Limit k = InBits 15 k.c0

-- of a mask
pub record IssueLimits (m : HeldMask) : Type 0 where
  pub ssr : m.ssr ≤ 3
  pub iodp : m.iodp ≤ 15

no_orbit_lem : HeldLimits no_orbit
no_orbit_lem = record { iodn = omega arith; corr = omega arith; radial = lit< tt; along = lit< tt; cross = lit< tt; ura = omega arith }

held_orbit_lem : (epoch ssr : ℕ) (o : Orbit) → OrbitLimits o → HeldLimits (held_orbit epoch ssr o)
held_orbit_lem epoch ssr o l = record { iodn = l.iodn; corr = l.corr; radial = l.radial; along = l.along; cross = l.cross; ura = l.ura }

-- the index of any code has a code
code_near : (code : ℕ) → code_of (ura_of code) ≤ 63
code_near code =
    dite (dec_lt code 64)
    (λ l. rw (code_back code l) (omega arith))
    (λ l. rw (ne_eqb code 0 (λ z. omega arith), le-ltb code 63 (omega arith)) (omega arith))

-- 02, CR 2: so a replaced code keeps the limits of an orbit
pub coded_limits : (o : HeldOrbit) (k : HeldCode) → HeldLimits o → HeldLimits (coded o k)
unfolding coded
coded_limits o k l = record {
  iodn = l.iodn;
  corr = l.corr;
  radial = l.radial;
  along = l.along;
  cross = l.cross;
  ura = pick_all (λ (u : Ura). code_of u ≤ 63) k.has (ura_of k.code) o.ura (code_near k.code) l.ura;
}

-- ---- what one frame names
module _ (f : List ℕ) where
  orbits_named : EachNamed HeldLimits (orbits_of (contents_of f).kind (contents_of f).orbit)
  unfolding orbits_of
  orbits_named =
      let p = (contents_of f).orbit in
      pick_all (EachNamed HeldLimits) (has_orbits (contents_of f).kind) (by_slot (λ (o : Orbit). o.slot) (held_orbit p.epoch p.ssr) p.orbits) []
      (each_slot HeldLimits OrbitLimits (held_orbit p.epoch p.ssr) (held_orbit_lem p.epoch p.ssr) (λ (o : Orbit). o.slot) p.orbits (orbits_limits f 28))
      tt

  clocks_named : (m : HeldMask) → EachNamed C0Limit (clocks_of m (contents_of f).kind (contents_of f).clock)
  unfolding clocks_of
  clocks_named m =
      let p = (contents_of f).clock in
      let kind = (contents_of f).kind in
      let ks = take p.count p.clocks in
      pick_all (EachNamed C0Limit) (eqb kind 7) (by_slot (λ (k : Clock). k.slot) (held_clock false p.epoch p.ssr) p.clocks) _
      (each_slot C0Limit ClockLimits (held_clock false p.epoch p.ssr) (λ k l. l) (λ (k : Clock). k.slot) p.clocks (clocks_limits f 28))
      (pick_all (EachNamed C0Limit) (needs_mask kind p) (by_place (held_clock true p.epoch p.ssr) m.bits ks (first_place kind p)) []
      (each_place C0Limit ClockLimits (held_clock true p.epoch p.ssr) (λ k l. l) m.bits ks (first_place kind p) (each_take ClockLimits p.count p.clocks (clocks_limits f 28)))
      tt)

  mask_named : May IssueLimits (mask_of (contents_of f))
  unfolding mask_of
  mask_named = may_pick IssueLimits (eqb (contents_of f).kind 1) (some (held_mask (contents_of f).mask)) (let l = mask_limits f 28 in record { ssr = l.ssr; iodp = l.iodp })

-- ---- what is in force after any frames
module _ (prn : ℕ) where
  pub mask_force : (h : List (List ℕ)) → IssueLimits (mask_in_force prn h)
  unfolding mask_in_force mask_by
  mask_force [] = record { ssr = omega arith; iodp = omega arith }
  mask_force (f ∷ h) =
      all_or IssueLimits (mask_by prn f) (mask_in_force prn h) (may_pick IssueLimits (eqb (refusal_with (foreign_to prn f) f) 0) (mask_of (contents_of f)) (mask_named f)) (mask_force h)

  orbit_by_lem : (h : List (List ℕ)) (f : List ℕ) (s : ℕ) → May HeldLimits (orbit_by prn h f s)
  unfolding orbit_by
  orbit_by_lem h f s =
      may_pick HeldLimits (accepted prn h f) (naming s (orbits_of (contents_of f).kind (contents_of f).orbit))
      (may_naming HeldLimits s (orbits_of (contents_of f).kind (contents_of f).orbit) (orbits_named f))

  pub orbit_force : (h : List (List ℕ)) (s : ℕ) → HeldLimits (orbit_in_force prn h s)
  unfolding orbit_in_force
  orbit_force [] s = no_orbit_lem
  orbit_force (f ∷ h) s =
      all_or HeldLimits (replacing orbit_replaces (orbit_in_force prn h s) (orbit_by prn h f s)) (orbit_in_force prn h s)
      (may_replacing HeldLimits orbit_replaces (orbit_in_force prn h s) (orbit_by prn h f s) (orbit_by_lem h f s))
      (orbit_force h s)

  clock_by_lem : (h : List (List ℕ)) (f : List ℕ) (s : ℕ) → May C0Limit (clock_by prn h f s)
  unfolding clock_by
  clock_by_lem h f s =
      let ks = clocks_of (mask_in_force prn h) (contents_of f).kind (contents_of f).clock in
      may_pick C0Limit (accepted prn h f) (naming s ks) (may_naming C0Limit s ks (clocks_named f (mask_in_force prn h)))

  pub clock_force : (ms : List HeldMask) (h : List (List ℕ)) (s : ℕ) → C0Limit (clock_back prn ms h s)
  unfolding clock_back
  clock_force ms [] s = lit< tt
  clock_force ms (f ∷ h) s =
      all_standing C0Limit clocks_kept same_mask (replacing clock_replaces (clock_back prn [] h s) (clock_by prn h f s)) (mask_in_force prn h) ms (clock_back prn (since (mask_by prn f) ms) h s)
      (lit< tt)
      (may_replacing C0Limit clock_replaces (clock_back prn [] h s) (clock_by prn h f s) (clock_by_lem h f s))
      (clock_force (since (mask_by prn f) ms) h s)
