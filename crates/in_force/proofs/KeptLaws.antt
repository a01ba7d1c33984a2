-- Laws of codes and orbits as they are kept: what a slot has after each step, and what each step leaves.
use mathlib.Core.Path.{◌≡◌, refl, sym, ap, ◌∙◌}
use mathlib.Core.Logic.{◌≢◌, inr, dite}
use Prim.Native.Nat.{ℕ, ◌+◌, ◌≤◌}
use mathlib.Core.Bool.{Bool, true, false}
use mathlib.Core.List.{List, [], ◌∷◌}
use mathlib.Core.Option.{Option, none, some}
use lib.Dec.{ltb}
use lib.ListN.{length}
use native.Mathlib.Decide.{ℕ_discrete, dec_lt}
use native.Mathlib.Omega.{arith}
use borrow.Author.Tests.{eq-eqb, ne_eqb, lt-ltb, le-ltb}
use Rattle.bits.specs.Pick.{pick}
use Rattle.bits.specs.Bytes.{Kept}
use Rattle.bits.proofs.ByteLaws.{kept_same, kept_trans, kept_wide}
use Rattle.slots.specs.Slots.{slot_named}
use Rattle.lookback.specs.Store.{Named, or_given, or_else, naming, replace, replace_all, replacing, ending, in_order}
use Rattle.lookback.proofs.ReplaceLaws.{flat, times, times_none, naming_other, naming_own}
use Rattle.lent.proofs.HeldLaws.{AllHeld, put_none, put_far}
use Rattle.held_mask.specs.Size.{size}
use Rattle.held_orbits.specs.Orbits.{orbit_replaces, no_orbit, held_orbit_of, held_orbit_bytes, held_orbit_at, held_orbits_at, put_orbit, orbit_comes, replace_orbit}
use Rattle.held_orbits.specs.declared.HeldOrbit.{HeldOrbit}
use Rattle.held_orbits.proofs.OrbitLaws.{OrbitsHeld, orbit_long, orbit_view, orbit_room, orbit_other, orbit_came, orbit_stayed, comes_in_lem}
use Rattle.held_codes.specs.Codes.{no_code, held_code_of, held_code_bytes, held_code_at, put_code, drop_code}
use Rattle.held_codes.specs.declared.HeldCode.{HeldCode}
use Rattle.held_codes.proofs.CodeLaws.{code_long, code_room, drop_code_room, code_kept, code_put, code_dropped, code_other, drop_code_other, drop_far}
use Rattle.in_force.specs.Bytes.{kept_code, kept_codes, kept_orbit, kept_orbits}
use Rattle.in_force.proofs.ApartLaws.{orbits_by_codes, orbit_by_codes}

-- ---- a code
module _ (s : List ℕ) (slot : ℕ) (h : HeldCode) where
  pub kept_code_yes : (held_orbit_at s slot).has ≡ true → kept_code s slot h ≡ put_code s slot h
  unfolding kept_code
  kept_code_yes e = rw e

  pub kept_code_no : (held_orbit_at s slot).has ≡ false → kept_code s slot h ≡ s
  unfolding kept_code
  kept_code_no e = rw e

  pub kept_code_room : Kept 9216 9726 s (kept_code s slot h)
  unfolding kept_code
  kept_code_room = go (held_orbit_at s slot).has
    where
      go : (b : Bool) → Kept 9216 9726 s (pick b (put_code s slot h) s)
      go true = code_room s slot h
      go false = kept_same _ _ s

  -- the slot has it, where it has an orbit
  kept_code_own : length s ≡ size → 1 ≤ slot → slot ≤ 255 → h.has ≡ true → held_code_at (kept_code s slot h) slot ≡ pick (held_orbit_at s slot).has h (held_code_at s slot)
  unfolding kept_code
  kept_code_own long p q e = go (held_orbit_at s slot).has
    where
      go : (b : Bool) → held_code_at (pick b (put_code s slot h) s) slot ≡ pick b h (held_code_at s slot)
      go true = code_put s long slot h p q e
      go false = refl

  -- any other slot has what it had
  kept_code_other : (other : ℕ) → 1 ≤ other → other ≢ slot → held_code_at (kept_code s slot h) other ≡ held_code_at s other
  unfolding kept_code
  kept_code_other other p n = go (held_orbit_at s slot).has
    where
      go : (b : Bool) → held_code_at (pick b (put_code s slot h) s) other ≡ held_code_at s other
      go true =
          dite (ℕ_discrete slot 0)
          (λ z. ap (λ (t : List ℕ). held_code_at t other) (put_none held_code_of held_code_bytes 2 code_long s 9216 slot h z))
          (λ z. code_other s slot other (omega arith) p n h)
      go false = refl

-- slot 0 is none
pub kept_code_none : (s : List ℕ) (h : HeldCode) → kept_code s 0 h ≡ s
unfolding kept_code
kept_code_none s h = rw (put_none held_code_of held_code_bytes 2 code_long s 9216 0 h refl) (flat (held_orbit_at s 0).has s)

-- ---- codes, one after the other
pub kept_codes_room : (s : List ℕ) (ns : List (Named HeldCode)) → Kept 9216 9726 s (kept_codes s ns)
unfolding in_order
kept_codes_room s [] = kept_same _ _ s
kept_codes_room s (n ∷ ns) = kept_trans (kept_code_room s n.at n.held) (kept_codes_room (kept_code s n.at n.held) ns)

-- THE LAW: a slot that has an orbit has the latest code that names it
pub kept_codes_at : (s : List ℕ) (ns : List (Named HeldCode)) (slot : ℕ) → length s ≡ size → 1 ≤ slot → slot ≤ 255 → AllHeld (λ (h : HeldCode). h.has) ns →
    held_code_at (kept_codes s ns) slot ≡ or_given (pick (held_orbit_at s slot).has (naming slot ns) none) (held_code_at s slot)
unfolding in_order naming
kept_codes_at s [] slot long p q a = sym (ap (λ (o : Option HeldCode). or_given o (held_code_at s slot)) (flat (held_orbit_at s slot).has none))
kept_codes_at s (n ∷ ns) slot long p q a =
    let t = kept_code s n.at n.held in
    let k = kept_code_room s n.at n.held in
    kept_codes_at t ns slot (k.long ∙ long) p q a.1
    ∙ ap (λ (o : HeldOrbit). or_given (pick o.has (naming slot ns) none) (held_code_at t slot)) (orbit_by_codes s t k slot p q)
    ∙ dite (ℕ_discrete n.at slot)
    (λ e.
    ap (λ (d : HeldCode). or_given (pick (held_orbit_at s slot).has (naming slot ns) none) d) (rw e (kept_code_own s slot n.held long p q a.0))
    ∙ own (held_orbit_at s slot).has (naming slot ns)
    ∙ ap (λ (o : Option HeldCode). or_given (pick (held_orbit_at s slot).has o none) (held_code_at s slot)) (sym (naming_own slot n ns (eq-eqb n.at slot e))))
    (λ e.
    ap (λ (d : HeldCode). or_given (pick (held_orbit_at s slot).has (naming slot ns) none) d) (kept_code_other s n.at n.held slot p (λ z. e (sym z)))
    ∙ ap (λ (o : Option HeldCode). or_given (pick (held_orbit_at s slot).has o none) (held_code_at s slot)) (sym (naming_other slot n ns (ne_eqb n.at slot e))))
  where
    own : (b : Bool) (o : Option HeldCode) → or_given (pick b o none) (pick b n.held (held_code_at s slot)) ≡ or_given (pick b (or_else o (some n.held)) none) (held_code_at s slot)
    own true (some r) = refl
    own true none = refl
    own false o = refl

-- ---- an orbit
module _ (s : List ℕ) (slot : ℕ) (h : HeldOrbit) where
  -- as the code does it: the orbit is put where it replaces the one held, and where it came into force the slot's code goes
  pub kept_orbit_came : orbit_comes s slot h ≡ true → kept_orbit s slot h ≡ drop_code (replace_orbit s slot h) slot
  unfolding kept_orbit
  kept_orbit_came e = rw (e, orbit_came s slot h e)

  pub kept_orbit_stayed : orbit_comes s slot h ≡ false → kept_orbit s slot h ≡ replace_orbit s slot h
  unfolding kept_orbit
  kept_orbit_stayed e = rw (e, orbit_stayed s slot h e)

  pub kept_orbit_room : Kept 3096 9726 s (kept_orbit s slot h)
  unfolding kept_orbit
  kept_orbit_room = go (orbit_comes s slot h)
    where
      go : (b : Bool) → Kept 3096 9726 s (pick b (drop_code (put_orbit s slot h) slot) s)
      go true =
          kept_trans (kept_wide 3096 9726 (orbit_room s slot h) (omega arith) (omega arith)) (kept_wide 3096 9726 (drop_code_room (put_orbit s slot h) slot) (omega arith) (omega arith))
      go false = kept_same _ _ s

  -- the orbits are those with this one put where it replaces the one held
  kept_orbit_orbits : length s ≡ size → h.has ≡ true → held_orbits_at (kept_orbit s slot h) ≡ replace orbit_replaces no_orbit (held_orbits_at s) slot h
  kept_orbit_orbits long e = go (orbit_comes s slot h) refl ∙ orbit_view s long slot h e
    where
      go : (b : Bool) → orbit_comes s slot h ≡ b → held_orbits_at (kept_orbit s slot h) ≡ held_orbits_at (replace_orbit s slot h)
      go true c = ap held_orbits_at (kept_orbit_came c) ∙ orbits_by_codes (replace_orbit s slot h) _ (drop_code_room (replace_orbit s slot h) slot)
      go false c = ap held_orbits_at (kept_orbit_stayed c)

  -- the slot's code is gone where this one replaces the orbit held
  kept_orbit_code : length s ≡ size → 1 ≤ slot → slot ≤ 255 → held_code_at (kept_orbit s slot h) slot ≡ pick (orbit_replaces (held_orbit_at s slot) h) no_code (held_code_at s slot)
  unfolding kept_orbit
  kept_orbit_code long p q = rw (comes_in_lem s slot h long p q) (go (orbit_replaces (held_orbit_at s slot) h))
    where
      go : (b : Bool) → held_code_at (pick b (drop_code (put_orbit s slot h) slot) s) slot ≡ pick b no_code (held_code_at s slot)
      go true = code_dropped (put_orbit s slot h) ((orbit_room s slot h).long ∙ long) slot p q
      go false = refl

  -- any other slot has what it had
  module _ (other : ℕ) (p : 1 ≤ other) (q : other ≤ 255) (n : other ≢ slot) where
    named : orbit_comes s slot h ≡ true → 1 ≤ slot
    named c = dite (ℕ_discrete slot 0) (λ z. absurd (let y : ◌≡◌ {A = ℕ} 0 1 = cc (rw (eq-eqb slot 0 z) at c) in omega arith)) (λ z. omega arith)

    other_code : held_code_at (kept_orbit s slot h) other ≡ held_code_at s other
    unfolding kept_orbit
    other_code = go (orbit_comes s slot h) refl
      where
        go : (b : Bool) → orbit_comes s slot h ≡ b → held_code_at (pick b (drop_code (put_orbit s slot h) slot) s) other ≡ held_code_at s other
        go true c = drop_code_other (put_orbit s slot h) slot other (named c) p n ∙ code_kept 3096 9216 s (put_orbit s slot h) (orbit_room s slot h) (inr (omega arith)) other p q
        go false c = refl

    other_orbit : held_orbit_at (kept_orbit s slot h) other ≡ held_orbit_at s other
    unfolding kept_orbit
    other_orbit = go (orbit_comes s slot h) refl
      where
        go : (b : Bool) → orbit_comes s slot h ≡ b → held_orbit_at (pick b (drop_code (put_orbit s slot h) slot) s) other ≡ held_orbit_at s other
        go true c = orbit_by_codes (put_orbit s slot h) _ (drop_code_room (put_orbit s slot h) slot) other p q ∙ orbit_other s slot h other (named c) p n
        go false c = refl

-- a slot above 255 is slot 0: neither is kept
pub kept_orbit_named : (s : List ℕ) (x : ℕ) (h : HeldOrbit) → kept_orbit s (slot_named x) h ≡ kept_orbit s x h
unfolding kept_orbit
kept_orbit_named s x h =
    dite (dec_lt x 256)
    (λ l. let e : pick {A = ℕ} (ltb x 256) x 0 ≡ x = rw (lt-ltb x 256 l) in ap (λ (i : ℕ). kept_orbit s i h) e)
    (λ l.
    let far : 256 ≤ x = omega arith in
    let e : pick {A = ℕ} (ltb x 256) x 0 ≡ 0 = rw (le-ltb x 256 far) in
    ap (λ (i : ℕ). kept_orbit s i h) e
    ∙ sym (rw (put_far held_orbit_of held_orbit_bytes 24 orbit_long s 3096 x h far, drop_far s x far) (flat (orbit_comes s x h) s)))

-- ---- orbits, one after the other
pub kept_orbits_room : (s : List ℕ) (ns : List (Named HeldOrbit)) → Kept 3096 9726 s (kept_orbits s ns)
unfolding in_order
kept_orbits_room s [] = kept_same _ _ s
kept_orbits_room s (n ∷ ns) = kept_trans (kept_orbit_room s n.at n.held) (kept_orbits_room (kept_orbit s n.at n.held) ns)

-- THE LAW: the orbits are put where they replace what is held
pub kept_orbits_view : (s : List ℕ) (ns : List (Named HeldOrbit)) → length s ≡ size → OrbitsHeld ns → held_orbits_at (kept_orbits s ns) ≡ replace_all orbit_replaces no_orbit (held_orbits_at s) ns
unfolding in_order replace_all
kept_orbits_view s [] long a = refl
kept_orbits_view s (n ∷ ns) long a =
    let t = kept_orbit s n.at n.held in
    kept_orbits_view t ns ((kept_orbit_room s n.at n.held).long ∙ long) a.1
    ∙ ap (λ (xs : List HeldOrbit). replace_all orbit_replaces no_orbit xs ns) (kept_orbit_orbits s n.at n.held long a.0)

-- THE LAW: where at most one of them names the slot, its code is gone if that one replaces the orbit held
pub kept_orbits_code : (s : List ℕ) (ns : List (Named HeldOrbit)) (slot : ℕ) → length s ≡ size → 1 ≤ slot → slot ≤ 255 → times slot ns ≤ 1 →
    held_code_at (kept_orbits s ns) slot ≡ or_given (ending no_code (replacing orbit_replaces (held_orbit_at s slot) (naming slot ns))) (held_code_at s slot)
unfolding in_order naming times
kept_orbits_code s [] slot long p q o = refl
kept_orbits_code s (n ∷ ns) slot long p q o =
    let t = kept_orbit s n.at n.held in
    let still = (kept_orbit_room s n.at n.held).long ∙ long in
    dite (ℕ_discrete n.at slot)
    (λ e.
    let once : times slot ns + 1 ≤ 1 = rw (eq-eqb n.at slot e) at o in
    let last : naming slot ns ≡ none = times_none slot ns (omega arith) in
    let only : naming slot (n ∷ ns) ≡ some n.held = naming_own slot n ns (eq-eqb n.at slot e) ∙ ap (λ (x : Option HeldOrbit). or_else x (some n.held)) last in
    kept_orbits_code t ns slot still p q (omega arith)
    ∙ ap (λ (x : Option HeldOrbit). or_given (ending no_code (replacing orbit_replaces (held_orbit_at t slot) x)) (held_code_at t slot)) last
    ∙ rw e (kept_orbit_code s slot n.held long p q)
    ∙ own (orbit_replaces (held_orbit_at s slot) n.held)
    ∙ ap (λ (x : Option HeldOrbit). or_given (ending no_code (replacing orbit_replaces (held_orbit_at s slot) x)) (held_code_at s slot)) (sym only))
    (λ e.
    let once : times slot ns + 0 ≤ 1 = rw (ne_eqb n.at slot e) at o in
    let far : slot ≢ n.at = λ z. e (sym z) in
    kept_orbits_code t ns slot still p q (omega arith)
    ∙ ap (λ (d : HeldOrbit). or_given (ending no_code (replacing orbit_replaces d (naming slot ns))) (held_code_at t slot)) (other_orbit s n.at n.held slot p q far)
    ∙ ap (λ (d : HeldCode). or_given (ending no_code (replacing orbit_replaces (held_orbit_at s slot) (naming slot ns))) d) (other_code s n.at n.held slot p q far)
    ∙ ap (λ (x : Option HeldOrbit). or_given (ending no_code (replacing orbit_replaces (held_orbit_at s slot) x)) (held_code_at s slot)) (sym (naming_other slot n ns (ne_eqb n.at slot e))))
  where
    own : (b : Bool) → pick b no_code (held_code_at s slot) ≡ or_given (ending no_code (pick b (some n.held) none)) (held_code_at s slot)
    own true = refl
    own false = refl
