-- THE THEOREM: a ledger that has taken frames holds what is in force by looking back over them.
use mathlib.Core.Path.{◌≡◌, refl, sym, ap, ◌∙◌}
use mathlib.Core.Logic.{inl, dite}
use Prim.Native.Nat.{ℕ, ◌-◌, ◌≤◌}
use mathlib.Core.Bool.{Bool, true, false}
use mathlib.Core.List.{List, [], ◌∷◌}
use mathlib.Core.Option.{Option, none, some}
use lib.Dec.{eqb}
use lib.ListN.{length, get_or}
use native.Mathlib.Decide.{ℕ_discrete}
use native.Mathlib.Omega.{arith}
use borrow.Author.Tests.{eqb-true}
use Rattle.bits.specs.Pick.{pick}
use Rattle.verdict.proofs.NumberLaws.{number_last}
use Rattle.frame.specs.Frame.{contents_of, foreign_to, refusal_with}
use Rattle.lookback.specs.Store.{naming, or_given, or_else, replacing, ending, replace_all, kept}
use Rattle.lookback.proofs.ReplaceLaws.{flat, arrives, replace_all_at}
use Rattle.lookback.proofs.StoreLaws.{LooksBack, slot_step, store_step, store_idle}
use Rattle.lent.proofs.HeldLaws.{length_helds}
use Rattle.held_mask.specs.Size.{size}
use Rattle.held_clocks.specs.Clocks.{no_clock, clocks_kept, clock_replaces, held_clock_of, held_clocks_at}
use Rattle.held_orbits.specs.Orbits.{no_orbit, orbit_replaces, held_orbit_of, held_orbit_at, held_orbits_at}
use Rattle.held_codes.specs.Codes.{no_code, codes_kept, held_code_at, held_codes_at}
use Rattle.held_codes.specs.declared.HeldCode.{HeldCode}
use Rattle.held_clocks.specs.declared.HeldClock.{HeldClock}
use Rattle.held_orbits.specs.declared.HeldOrbit.{HeldOrbit}
use Rattle.held_mask.specs.Mask.{HeldMask, same_mask, mask_at}
use Rattle.held_mask.proofs.MaskLaws.{mask_eq}
use Rattle.places.specs.Keeps.{mask_of, orbits_of, clocks_of, codes_of, refusal_under, says_under}
use Rattle.in_force.specs.Back.{mask_in_force, refusal_after, says_after, accepted, mask_by, orbit_by, clock_by, orbit_in_force, clock_back, code_by, code_made, code_back}
use Rattle.in_force.specs.Bytes.{fresh, taken_bytes, take_refusal, take_says, take_bytes, run_bytes, Holds}
use Rattle.places.proofs.KeepLaws.{mask_other, mask_kind, mask_orbits, mask_clocks, mask_codes, mask_free}
use Rattle.places.proofs.OnceLaws.{orbit_once, clock_once}
use Rattle.in_force.proofs.ViewLaws.{taken_room, taken_mask, taken_orbits, taken_clocks, taken_code, clock_listed, orbit_listed, code_listed, fresh_long, fresh_prn, fresh_mask, fresh_clock, fresh_orbit, fresh_code}

-- ---- whether a type 1 is accepted depends on no other frame: no mask in force refuses it
pub mask_alone : (prn : ℕ) (m : HeldMask) (f : List ℕ) → (contents_of f).kind ≡ 1 → refusal_under prn m f ≡ refusal_with (foreign_to prn f) f
unfolding refusal_under
mask_alone prn m f k = rw (mask_free (contents_of f) k m) (number_last (refusal_with (foreign_to prn f) f))

-- so the mask that a frame brings is the one that it brings where it is accepted, after any frames
pub mask_accepted : (prn : ℕ) (h : List (List ℕ)) (f : List ℕ) → pick (accepted prn h f) (mask_of (contents_of f)) none ≡ mask_by prn f
unfolding mask_by
mask_accepted prn h f =
    dite (ℕ_discrete (contents_of f).kind 1)
    (λ k. ap (λ (n : ℕ). pick (eqb n 0) (mask_of (contents_of f)) none) (mask_alone prn (mask_in_force prn h) f k))
    (λ k. rw (mask_other (contents_of f) k) (flat (accepted prn h f) none ∙ sym (flat (eqb (refusal_with (foreign_to prn f) f) 0) none)))

-- ---- how clocks are looked back for
-- a frame that brings a mask is a type 1
by_kind : (prn : ℕ) (f : List ℕ) (m : HeldMask) → mask_by prn f ≡ some m → (contents_of f).kind ≡ 1
unfolding mask_by
by_kind prn f m e = go (eqb (refusal_with (foreign_to prn f) f) 0) e
  where
    go : (b : Bool) → pick b (mask_of (contents_of f)) none ≡ some m → (contents_of f).kind ≡ 1
    go true q = mask_kind (contents_of f) m q
    go false q = absurd (let z : ◌≡◌ {A = ℕ} 0 1 = cc in omega arith)

mask_no_clock : (prn : ℕ) (h : List (List ℕ)) (f : List ℕ) (m : HeldMask) (s : ℕ) → mask_by prn f ≡ some m → clock_by prn h f s ≡ none
unfolding clock_by naming
mask_no_clock prn h f m s e = rw (mask_clocks (contents_of f) (by_kind prn f m e) (mask_in_force prn h)) (flat (accepted prn h f) none)

clocks_back : (prn : ℕ) → LooksBack clocks_kept same_mask clock_replaces (mask_by prn) (mask_in_force prn) (clock_by prn) (clock_back prn)
unfolding mask_in_force clock_back
clocks_back prn = record {
  same_eq = mask_eq;
  mask_next = λ f h. refl;
  quiet = mask_no_clock prn;
  start = λ ms s. refl;
  next = λ ms f h s. refl;
}

-- ---- how codes are looked back for: the latest to arrive counts
mask_no_orbit : (prn : ℕ) (h : List (List ℕ)) (f : List ℕ) (m : HeldMask) (s : ℕ) → mask_by prn f ≡ some m → orbit_by prn h f s ≡ none
unfolding orbit_by naming
mask_no_orbit prn h f m s e = rw (mask_orbits (contents_of f) (by_kind prn f m e)) (flat (accepted prn h f) none)

mask_no_code : (prn : ℕ) (h : List (List ℕ)) (f : List ℕ) (m : HeldMask) (s : ℕ) → mask_by prn f ≡ some m → code_made prn h f s ≡ none
unfolding code_made code_by naming
mask_no_code prn h f m s e =
    rw (mask_no_orbit prn h f m s e, mask_codes (contents_of f) (by_kind prn f m e) (mask_in_force prn h), flat {A = Option HeldCode} (accepted prn h f) none)
    (flat (orbit_in_force prn h s).has none)

codes_back : (prn : ℕ) → LooksBack codes_kept same_mask (λ d r. true) (mask_by prn) (mask_in_force prn) (code_made prn) (code_back prn)
unfolding mask_in_force code_back
codes_back prn = record {
  same_eq = mask_eq;
  mask_next = λ f h. refl;
  quiet = mask_no_code prn;
  start = λ ms s. refl;
  next = λ ms f h s. rw (arrives (code_back prn [] h s) (code_made prn h f s));
}

-- a frame that is not accepted makes nothing of a code
refused_no_code : (prn : ℕ) (h : List (List ℕ)) (f : List ℕ) (s : ℕ) → accepted prn h f ≡ false → code_made prn h f s ≡ none
unfolding code_made code_by orbit_by
refused_no_code prn h f s a = rw a (flat (orbit_in_force prn h s).has none)

-- ---- one frame more
module _ (s : List ℕ) (prn : ℕ) (h : List (List ℕ)) (f : List ℕ) (H : Holds s prn h) where
  pub refusal_step : take_refusal s f ≡ refusal_after prn h f
  refusal_step = ap (λ (p : ℕ). refusal_under p (mask_at s) f) H.own ∙ ap (λ (m : HeldMask). refusal_under prn m f) H.mask

  -- the mask that an accepted frame brings
  taken_on : accepted prn h f ≡ true → mask_of (contents_of f) ≡ mask_by prn f
  taken_on a = rw a at (mask_accepted prn h f)

  step_orbit : accepted prn h f ≡ true → (slot : ℕ) → 1 ≤ slot → slot ≤ 255 → get_or (held_orbits_at (taken_bytes s (contents_of f))) (slot - 1) no_orbit ≡ orbit_in_force prn (f ∷ h) slot
  unfolding orbit_in_force orbit_by
  step_orbit a slot p q =
      let c = contents_of f in
      let os = orbits_of c.kind c.orbit in
      ap (λ (xs : List HeldOrbit). get_or xs (slot - 1) no_orbit) (taken_orbits s c H.long)
      ∙ replace_all_at orbit_replaces no_orbit (held_orbits_at s) os slot p (omega (arith, length_helds held_orbit_of 24 s 3096)) (orbit_once prn (mask_in_force prn h) f (eqb-true _ _ a) slot p)
      ∙ ap (λ (d : HeldOrbit). or_given (replacing orbit_replaces d (naming slot os)) d) (sym (orbit_listed s slot p q) ∙ H.orbit slot p q)
      ∙ rw a

  step_clock : accepted prn h f ≡ true → (slot : ℕ) → 1 ≤ slot → slot ≤ 255 → get_or (held_clocks_at (taken_bytes s (contents_of f))) (slot - 1) no_clock ≡ clock_back prn [] (f ∷ h) slot
  unfolding clock_by
  step_clock a slot p q =
      let c = contents_of f in
      let ns = clocks_of (mask_in_force prn h) c.kind c.clock in
      ap (λ (xs : List HeldClock). get_or xs (slot - 1) no_clock) (taken_clocks s c H.long)
      ∙ ap (λ (m : HeldMask). get_or (replace_all clock_replaces no_clock (kept clocks_kept same_mask (mask_of c) m (held_clocks_at s)) (clocks_of m c.kind c.clock)) (slot - 1) no_clock) H.mask
      ∙ ap (λ (o : Option HeldMask). get_or (replace_all clock_replaces no_clock (kept clocks_kept same_mask o (mask_in_force prn h) (held_clocks_at s)) ns) (slot - 1) no_clock) (taken_on a)
      ∙ store_step (clocks_back prn) f h (held_clocks_at s) ns slot p (omega (arith, length_helds held_clock_of 12 s 36)) (clock_once prn (mask_in_force prn h) f (eqb-true _ _ a) slot p) (sym (clock_listed s slot p q) ∙ H.clock slot p q) (rw a)

  step_code : accepted prn h f ≡ true → (slot : ℕ) → 1 ≤ slot → slot ≤ 255 → held_code_at (taken_bytes s (contents_of f)) slot ≡ code_back prn [] (f ∷ h) slot
  unfolding code_made code_by orbit_by
  step_code a slot p q =
      let c = contents_of f in
      let os = orbits_of c.kind c.orbit in
      let cs = codes_of (mask_in_force prn h) c.kind c.code in
      let xs = held_codes_at s in
      let left = get_or (kept codes_kept same_mask (mask_by prn f) (mask_in_force prn h) xs) (slot - 1) no_code in
      taken_code s c H.long slot p q (orbit_once prn (mask_in_force prn h) f (eqb-true _ _ a) slot p)
      ∙ ap (λ (m : HeldMask). or_given (or_else (ending no_code (replacing orbit_replaces (held_orbit_at s slot) (naming slot os))) (pick (held_orbit_at s slot).has (naming slot (codes_of m c.kind c.code)) none)) (get_or (kept codes_kept same_mask (mask_of c) m xs) (slot - 1) no_code)) H.mask
      ∙ ap (λ (o : HeldOrbit). or_given (or_else (ending no_code (replacing orbit_replaces o (naming slot os))) (pick o.has (naming slot cs) none)) (get_or (kept codes_kept same_mask (mask_of c) (mask_in_force prn h) xs) (slot - 1) no_code)) (H.orbit slot p q)
      ∙ ap (λ (m : Option HeldMask). or_given (or_else (ending no_code (replacing orbit_replaces (orbit_in_force prn h slot) (naming slot os))) (pick (orbit_in_force prn h slot).has (naming slot cs) none)) (get_or (kept codes_kept same_mask m (mask_in_force prn h) xs) (slot - 1) no_code)) (taken_on a)
      ∙ ap (λ (o : Option HeldCode). or_given o left) (made a slot)
      ∙ ap (λ (o : Option HeldCode). or_given o left) (sym (arrives left (code_made prn h f slot)))
      ∙ slot_step (codes_back prn) f h xs slot (sym (code_listed s slot p q) ∙ H.code slot p q)
    where
      made : accepted prn h f ≡ true → (slot : ℕ) →
          or_else (ending no_code (replacing orbit_replaces (orbit_in_force prn h slot) (naming slot (orbits_of (contents_of f).kind (contents_of f).orbit))))
          (pick (orbit_in_force prn h slot).has (naming slot (codes_of (mask_in_force prn h) (contents_of f).kind (contents_of f).code)) none) ≡ code_made prn h f slot
      made a slot = rw a

  step_taken : accepted prn h f ≡ true → Holds (taken_bytes s (contents_of f)) prn (f ∷ h)
  unfolding mask_in_force
  step_taken a =
      let c = contents_of f in
      let k = taken_room s c in
      record {
        long = k.long ∙ H.long;
        own = k.out 0 (inl (omega arith)) ∙ H.own;
        mask = taken_mask s c H.long ∙ ap (or_given (mask_of c)) H.mask ∙ ap (λ (o : Option HeldMask). or_given o (mask_in_force prn h)) (taken_on a);
        orbit = λ slot p q. orbit_listed (taken_bytes s c) slot p q ∙ step_orbit a slot p q;
        clock = λ slot p q. clock_listed (taken_bytes s c) slot p q ∙ step_clock a slot p q;
        code = step_code a;
      }

  step_refused : accepted prn h f ≡ false → Holds s prn (f ∷ h)
  unfolding mask_in_force orbit_in_force orbit_by clock_by
  step_refused a =
      let e : mask_by prn f ≡ none = sym (rw a at (mask_accepted prn h f)) in
      record {
        long = H.long;
        own = H.own;
        mask = H.mask ∙ rw e;
        orbit = λ slot p q. H.orbit slot p q ∙ rw a;
        clock = λ slot p q. H.clock slot p q ∙ sym (store_idle (clocks_back prn) f h slot e (rw a));
        code = λ slot p q. H.code slot p q ∙ sym (store_idle (codes_back prn) f h slot e (refused_no_code prn h f slot a));
      }

  pub holds_step : Holds (take_bytes s f) prn (f ∷ h)
  unfolding take_bytes
  holds_step = go (accepted prn h f) refl
    where
      go : (b : Bool) → accepted prn h f ≡ b → Holds (pick (eqb (take_refusal s f) 0) (taken_bytes s (contents_of f)) s) prn (f ∷ h)
      go true a = let e : eqb (take_refusal s f) 0 ≡ true = ap (λ (n : ℕ). eqb n 0) refusal_step ∙ a in rw e (step_taken a)
      go false a = let e : eqb (take_refusal s f) 0 ≡ false = ap (λ (n : ℕ). eqb n 0) refusal_step ∙ a in rw e (step_refused a)

-- ---- demand 3
pub holds_run : (s : List ℕ) (prn : ℕ) (h : List (List ℕ)) → length s ≡ size → Holds (run_bytes (fresh s prn) h) prn h
unfolding run_bytes mask_in_force orbit_in_force clock_back code_back
holds_run s prn [] long = record {
  long = fresh_long s prn ∙ long;
  own = fresh_prn s prn (omega arith);
  mask = fresh_mask s prn;
  orbit = fresh_orbit s prn;
  clock = fresh_clock s prn;
  code = fresh_code s prn;
}
holds_run s prn (f ∷ h) long = holds_step (run_bytes (fresh s prn) h) prn h f (holds_run s prn h long)

-- and every frame is answered by the number that looking back gives
pub refusal_run : (s : List ℕ) (prn : ℕ) (h : List (List ℕ)) (f : List ℕ) → length s ≡ size → take_refusal (run_bytes (fresh s prn) h) f ≡ refusal_after prn h f
refusal_run s prn h f long = refusal_step (run_bytes (fresh s prn) h) prn h f (holds_run s prn h long)

-- and by what is said of it
pub says_run : (s : List ℕ) (prn : ℕ) (h : List (List ℕ)) (f : List ℕ) → length s ≡ size → take_says (run_bytes (fresh s prn) h) f ≡ says_after prn h f
says_run s prn h f long =
    ap (λ (m : HeldMask). says_under m f (take_refusal (run_bytes (fresh s prn) h) f)) (holds_run s prn h long).mask
    ∙ ap (says_under (mask_in_force prn h) f) (refusal_run s prn h f long)
