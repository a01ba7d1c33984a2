-- At most one record of an accepted frame names a slot.
use mathlib.Core.Path.{◌≡◌, refl, sym, ◌∙◌}
use mathlib.Core.Logic.{inl, inr, dite, ◌≢◌}
use Prim.Native.Nat.{ℕ, ◌+◌, ◌≤◌, ◌<◌}
use mathlib.Core.Bool.{Bool, true, false}
use mathlib.Core.List.{List, [], ◌∷◌, map}
use lib.Dec.{eqb}
use lib.ListN.{length, get_or, take, length-map, get_or-map}
use native.Mathlib.Decide.{ℕ_discrete, dec_lt}
use native.Mathlib.Omega.{arith}
use borrow.Author.Tests.{eq-eqb, ne_eqb}
use Rattle.bits.proofs.TestLaws.{none_holds}
use Rattle.bits.specs.Pick.{pick}
use Rattle.bits.specs.Some.{any_of}
use Rattle.bits.specs.Table.{table}
use Rattle.bits.proofs.TableLaws.{table_ext, table_same}
use Rattle.slots.specs.Slots.{set_count, nth_set}
use Rattle.records.specs.Clock.{blank_clock}
use Rattle.records.specs.Orbit.{blank_orbit}
use Rattle.records.specs.declared.orbit.Orbit.{Orbit}
use Rattle.records.specs.declared.clock.Clock.{Clock}
use Rattle.slots.proofs.SlotLaws.{nth_none, nth_rises}
use Rattle.judge.specs.Judge.{is_same, is_again, twice, clock_slots, orbit_slots, sat_slots}
use Rattle.ura_codes.specs.declared.CodePart.{CodePart}
use Rattle.contents.specs.declared.parts.ClockPart.{ClockPart}
use Rattle.contents.specs.declared.parts.OrbitPart.{OrbitPart}
use Rattle.frame.specs.Frame.{contents_of, foreign_to, refusal_with}
use Rattle.frame.proofs.FrameLaws.{neither, parts_zero, sound_at, clocks_long, orbits_long}
use Rattle.lookback.proofs.ReplaceLaws.{times}
use Rattle.held_mask.specs.Mask.{HeldMask}
use Rattle.places.specs.Keeps.{held_orbit, held_clock, held_code, by_slot, by_place, has_orbits, orbits_of, needs_mask, first_place, first_code, clocks_of, codes_of, mask_refusal, refusal_under}

-- ---- by slot: from 12
module _ {R A : Type 0} (slot : R → ℕ) (f : R → A) where
  same_none : (s : ℕ) (rs : List R) → any_of (is_same s) (map slot rs) ≡ false → times s (by_slot slot f rs) ≡ 0
  unfolding any_of times by_slot
  same_none s [] e = refl
  same_none s (r ∷ rs) e =
      let t = none_holds (eqb (slot r) s) (any_of (is_same s) (map slot rs)) e in
      rw t.0 (omega (arith, same_none s rs t.1))

  again_once : (s : ℕ) → 1 ≤ s → (rs : List R) → any_of is_again (map slot rs) ≡ false → times s (by_slot slot f rs) ≤ 1
  unfolding any_of times by_slot
  again_once s l [] e = omega arith
  again_once s l (r ∷ rs) e =
      let t = none_holds (is_again (slot r) (map slot rs)) (any_of is_again (map slot rs)) e in
      dite (ℕ_discrete (slot r) s)
      (λ q.
      let a : any_of (is_same s) (map slot rs) ≡ false = rw (q, ne_eqb s 0 (λ z. omega arith)) at t.0 in
      rw (eq-eqb (slot r) s q) (omega (arith, same_none s rs a)))
      (λ q. rw (ne_eqb (slot r) s q) (omega (arith, again_once s l rs t.1)))

  -- the slots that 12 looks at are those of the records
  slots_map : (d : R) (n : ℕ) (rs : List R) → slot d ≡ 0 → length rs ≡ n → table (λ (i : ℕ). slot (get_or rs i d)) n ≡ map slot rs
  slots_map d n rs z long =
      table_ext (λ (i : ℕ). slot (get_or rs i d)) (λ (i : ℕ). get_or (map slot rs) i 0) n (λ i h. sym (get_or-map slot rs i d) ∙ rw z)
      ∙ table_same (map slot rs) n 0 (length-map rs slot ∙ long)

-- ---- by place: a later place has a later slot, or none
nth_other : (bits : List Bool) (s n m : ℕ) → 1 ≤ s → nth_set bits n ≡ s → n < m → nth_set bits m ≢ s
nth_other bits s n m l e h q =
    dite (ℕ_discrete n 0)
    (λ z. omega (arith, nth_none bits 1 n (inl z)))
    (λ z.
    dite (dec_lt (set_count bits) m)
    (λ o. omega (arith, nth_none bits 1 m (inr o)))
    (λ o. omega (arith, nth_rises bits 1 n m (omega arith) h (omega arith))))

module _ {R A : Type 0} (f : R → A) (bits : List Bool) (s : ℕ) (l : 1 ≤ s) where
  later_none : (rs : List R) (n m : ℕ) → nth_set bits n ≡ s → n < m → times s (by_place f bits rs m) ≡ 0
  unfolding times by_place
  later_none [] n m e h = refl
  later_none (r ∷ rs) n m e h = rw (ne_eqb (nth_set bits m) s (nth_other bits s n m l e h)) (omega (arith, later_none rs n (m + 1) e (omega arith)))

  place_once : (rs : List R) (n : ℕ) → times s (by_place f bits rs n) ≤ 1
  unfolding times by_place
  place_once [] n = omega arith
  place_once (r ∷ rs) n =
      dite (ℕ_discrete (nth_set bits n) s)
      (λ q. rw (eq-eqb (nth_set bits n) s q) (omega (arith, later_none rs n (n + 1) q (omega arith))))
      (λ q. rw (ne_eqb (nth_set bits n) s q) (omega (arith, place_once rs (n + 1))))

-- ---- THE LAWS
module _ (prn : ℕ) (m : HeldMask) (f : List ℕ) (taken : refusal_under prn m f ≡ 0) (s : ℕ) (l : 1 ≤ s) where
  none_twice : (any_of is_again (clock_slots (contents_of f).clock.clocks) ≡ false) × (any_of is_again (orbit_slots (contents_of f).orbit.orbits) ≡ false)
  unfolding refusal_under
  none_twice =
      let n = neither (refusal_with (foreign_to prn f) f) (mask_refusal m (contents_of f)) taken in
      let p = parts_zero (foreign_to prn f) f n.0 in
      none_holds (any_of is_again (clock_slots (contents_of f).clock.clocks)) (any_of is_again (orbit_slots (contents_of f).orbit.orbits))
      (none_holds (twice (contents_of f).clock (contents_of f).orbit) (any_of is_again (sat_slots (contents_of f).bias.sats)) (sound_at f 28 p.1).once).0

  pub orbit_once : times s (orbits_of (contents_of f).kind (contents_of f).orbit) ≤ 1
  unfolding orbits_of orbit_slots times
  orbit_once =
      let o = (contents_of f).orbit in
      go (has_orbits (contents_of f).kind) o (rw (slots_map (λ (o : Orbit). o.slot) (held_orbit o.epoch o.ssr) blank_orbit 6 o.orbits refl (orbits_long f)) at none_twice.1)
    where
      go : (b : Bool) (o : OrbitPart) → any_of is_again (map (λ (o : Orbit). o.slot) o.orbits) ≡ false → times s (pick b (by_slot (λ (o : Orbit). o.slot) (held_orbit o.epoch o.ssr) o.orbits) []) ≤ 1
      go true o e = again_once (λ (o : Orbit). o.slot) (held_orbit o.epoch o.ssr) s l o.orbits e
      go false o e = omega arith

  pub clock_once : times s (clocks_of m (contents_of f).kind (contents_of f).clock) ≤ 1
  unfolding clocks_of clock_slots times
  clock_once =
      let c = contents_of f in
      go (eqb c.kind 7) (needs_mask c.kind c.clock) (first_place c.kind c.clock) c.clock
      (rw (slots_map (λ (k : Clock). k.slot) (held_clock false c.clock.epoch c.clock.ssr) blank_clock 23 c.clock.clocks refl (clocks_long f)) at none_twice.0)
    where
      go : (a b : Bool) (n : ℕ) (p : ClockPart) → any_of is_again (map (λ (k : Clock). k.slot) p.clocks) ≡ false →
          times s (pick a (by_slot (λ (k : Clock). k.slot) (held_clock false p.epoch p.ssr) p.clocks) (pick b (by_place (held_clock true p.epoch p.ssr) m.bits (take p.count p.clocks) n) [])) ≤ 1
      go true b n p e = again_once (λ (k : Clock). k.slot) (held_clock false p.epoch p.ssr) s l p.clocks e
      go false true n p e = place_once (held_clock true p.epoch p.ssr) m.bits s l (take p.count p.clocks) n
      go false false n p e = omega arith

-- a type 5's codes come by place: at most one names a slot, whether or not its frame is accepted
pub code_once : (m : HeldMask) (kind : ℕ) (u : CodePart) (s : ℕ) → 1 ≤ s → times s (codes_of m kind u) ≤ 1
unfolding codes_of times
code_once m kind u s l = go (eqb kind 5)
  where
    go : (b : Bool) → times s (pick b (by_place held_code m.bits u.codes (first_code u)) []) ≤ 1
    go true = place_once held_code m.bits s l u.codes (first_code u)
    go false = omega arith
