-- What the bytes of a ledger say when contents are taken: its PRN, mask, orbits, clocks and codes.
use mathlib.Core.Path.{◌≡◌, refl, sym, ap, ◌∙◌}
use mathlib.Core.Logic.{◌≢◌, inl, inr, dite}
use Prim.Native.Nat.{ℕ, ◌+◌, ◌-◌, ◌≤◌}
use mathlib.Core.Bool.{Bool, true, false}
use mathlib.Core.List.{List, [], ◌∷◌, map}
use mathlib.Core.Option.{Option, none, some}
use lib.ListN.{get_or, length, replicate, length-replicate}
use lib.Seq.{get_or-set_same}
use native.Mathlib.Decide.{ℕ_discrete}
use native.Mathlib.Omega.{arith}
use borrow.Author.Tests.{eq-eqb, ne_eqb}
use Rattle.bits.specs.Pick.{pick}
use Rattle.bits.specs.Bytes.{store_at, Kept}
use Rattle.bits.proofs.ByteLaws.{kept_same, kept_trans, kept_wide, kept_store}
use Rattle.contents.specs.declared.parts.MaskPart.{MaskPart}
use Rattle.contents.specs.declared.parts.Contents.{Contents}
use Rattle.lookback.specs.Store.{Named, in_order, replace_all, or_given, or_else, naming, replacing, ending, kept, unplaced}
use Rattle.lookback.proofs.ReplaceLaws.{flat, times, or_or}
use Rattle.lent.proofs.HeldLaws.{get_or_helds, held_kept}
use Rattle.held_mask.specs.Size.{size}
use Rattle.held_clocks.specs.Clocks.{clocks_kept, clock_replaces, held_clock_of, held_clocks_at, replace_clock, replace_clocks, dropped_clocks, no_clock, held_clock_at}
use Rattle.held_orbits.specs.Orbits.{orbit_replaces, held_orbit_of, held_orbits_at, no_orbit, held_orbit_at}
use Rattle.held_codes.specs.Codes.{no_code, codes_kept, held_code_of, held_codes_at, held_code_at, cleared_codes}
use Rattle.held_clocks.specs.declared.HeldClock.{HeldClock}
use Rattle.held_orbits.specs.declared.HeldOrbit.{HeldOrbit}
use Rattle.held_codes.specs.declared.HeldCode.{HeldCode}
use Rattle.held_clocks.proofs.ClockLaws.{clocks_view, clocks_dropped, clock_room, clocks_room, dropped_room, clocks_kept_lem, zero_clock}
use Rattle.held_orbits.proofs.OrbitLaws.{orbits_kept, zero_orbit}
use Rattle.held_codes.proofs.CodeLaws.{codes_cleared, cleared_room, codes_kept_lem, zero_code}
use Rattle.in_force.proofs.ApartLaws.{orbits_by_clocks, orbit_by_clocks, code_by_clocks, clocks_by_codes, orbits_by_codes, orbit_by_codes, clocks_by_orbits}
use Rattle.in_force.proofs.KeptLaws.{kept_code_room, kept_codes_room, kept_codes_at, kept_orbits_room, kept_orbits_view, kept_orbits_code}
use Rattle.mask_bits.specs.Bits.{bits_at}
use Rattle.held_mask.specs.Mask.{HeldMask, held_mask, no_held_mask, same_mask, mask_at}
use Rattle.held_mask.proofs.MaskLaws.{mask_room, mask_view, mask_kept, zero_mask}
use Rattle.lent.proofs.ZeroLaws.{get_or_zeros}
use Rattle.places.specs.Keeps.{mask_of, orbits_of, clocks_of, codes_of}
use Rattle.in_force.specs.Bytes.{prn_at, fresh, mask_bytes, kept_code, kept_codes, kept_orbits, taken_bytes}
use Rattle.places.proofs.KeepLaws.{mask_1, mask_other, mask_orbits, mask_clocks, mask_codes, clocks_held, orbits_held, codes_held, codes_none, codes_clocks, codes_orbits, biases_clocks, biases_orbits}

-- ---- by the type
module _ (s : List ℕ) (c : Contents) where
  pub taken_1 : c.kind ≡ 1 → taken_bytes s c ≡ mask_bytes s c.mask
  unfolding taken_bytes
  taken_1 k = rw (eq-eqb c.kind 1 k)

  taken_other : c.kind ≢ 1 →
      taken_bytes s c ≡ kept_orbits (replace_clocks (kept_codes s (codes_of (mask_at s) c.kind c.code)) (clocks_of (mask_at s) c.kind c.clock)) (orbits_of c.kind c.orbit)
  unfolding taken_bytes
  taken_other k = rw (ne_eqb c.kind 1 k)

  -- clocks and orbits
  pub taken_parts : c.kind ≢ 1 → c.kind ≢ 5 → taken_bytes s c ≡ kept_orbits (replace_clocks s (clocks_of (mask_at s) c.kind c.clock)) (orbits_of c.kind c.orbit)
  unfolding in_order
  taken_parts k n = taken_other k ∙ rw (codes_none (mask_at s) c.kind c.code n)

  -- codes
  pub taken_5 : c.kind ≡ 5 → taken_bytes s c ≡ kept_codes s (codes_of (mask_at s) 5 c.code)
  unfolding in_order
  taken_5 k =
      taken_other (λ e. let z : ◌≡◌ {A = ℕ} 5 1 = sym k ∙ e in omega arith)
      ∙ rw (codes_clocks (mask_at s) c.kind c.clock c.orbit k, codes_orbits (mask_at s) c.kind c.clock c.orbit k, k)

  -- nothing
  pub taken_3 : c.kind ≡ 3 → taken_bytes s c ≡ s
  unfolding in_order
  taken_3 k =
      taken_parts (λ e. let z : ◌≡◌ {A = ℕ} 3 1 = sym k ∙ e in omega arith) (λ e. let z : ◌≡◌ {A = ℕ} 3 5 = sym k ∙ e in omega arith)
      ∙ rw (biases_clocks (mask_at s) c.kind c.clock c.orbit k, biases_orbits (mask_at s) c.kind c.clock c.orbit k)

-- ---- a mask taken
-- all that came by place gone
abbrev gone : List ℕ → List ℕ
gone s = cleared_codes (dropped_clocks s 255)

-- what a mask leaves
abbrev left : List ℕ → MaskPart → List ℕ
left s m = pick (same_mask (mask_at s) (held_mask m)) s (gone s)

left_room : (s : List ℕ) (m : MaskPart) → Kept 36 9726 s (left s m)
left_room s m = go (same_mask (mask_at s) (held_mask m))
  where
    go : (b : Bool) → Kept 36 9726 s (pick b s (gone s))
    go true = kept_same 36 9726 s
    go false =
        kept_trans (kept_wide 36 9726 (dropped_room s 255) (omega arith) (omega arith)) (kept_wide 36 9726 (cleared_room (dropped_clocks s 255)) (omega arith) (omega arith))

left_clocks : (s : List ℕ) (m : MaskPart) → length s ≡ size → held_clocks_at (left s m) ≡ kept clocks_kept same_mask (some (held_mask m)) (mask_at s) (held_clocks_at s)
unfolding kept
left_clocks s m long = go (same_mask (mask_at s) (held_mask m))
  where
    go : (b : Bool) → held_clocks_at (pick b s (gone s)) ≡ pick b (held_clocks_at s) (map (unplaced clocks_kept) (held_clocks_at s))
    go true = refl
    go false = clocks_by_codes (dropped_clocks s 255) (gone s) (cleared_room (dropped_clocks s 255)) ∙ clocks_dropped s long

left_codes : (s : List ℕ) (m : MaskPart) → length s ≡ size → held_codes_at (left s m) ≡ kept codes_kept same_mask (some (held_mask m)) (mask_at s) (held_codes_at s)
unfolding kept
left_codes s m long = go (same_mask (mask_at s) (held_mask m))
  where
    go : (b : Bool) → held_codes_at (pick b s (gone s)) ≡ pick b (held_codes_at s) (map (unplaced codes_kept) (held_codes_at s))
    go true = refl
    go false =
        codes_cleared (dropped_clocks s 255) ((dropped_room s 255).long ∙ long)
        ∙ ap (map (unplaced codes_kept)) (codes_kept_lem 36 3096 s (dropped_clocks s 255) (dropped_room s 255) (inr (omega arith)))

left_orbits : (s : List ℕ) (m : MaskPart) → held_orbits_at (left s m) ≡ held_orbits_at s
left_orbits s m = go (same_mask (mask_at s) (held_mask m))
  where
    go : (b : Bool) → held_orbits_at (pick b s (gone s)) ≡ held_orbits_at s
    go true = refl
    go false =
        orbits_by_codes (dropped_clocks s 255) (gone s) (cleared_room (dropped_clocks s 255)) ∙ orbits_kept 36 3096 s (dropped_clocks s 255) (dropped_room s 255) (inr (omega arith))

mask_bytes_room : (s : List ℕ) (m : MaskPart) → Kept 1 9726 s (mask_bytes s m)
unfolding mask_bytes
mask_bytes_room s m =
    kept_trans (kept_wide 1 9726 (left_room s m) (omega arith) (omega arith)) (kept_wide 1 9726 (mask_room (left s m) m) (omega arith) (omega arith))

module _ (s : List ℕ) (m : MaskPart) (long : length s ≡ size) where
  mask_bytes_mask : mask_at (mask_bytes s m) ≡ held_mask m
  unfolding mask_bytes
  mask_bytes_mask = mask_view (left s m) m ((left_room s m).long ∙ long)

  mask_bytes_orbits : held_orbits_at (mask_bytes s m) ≡ held_orbits_at s
  unfolding mask_bytes
  mask_bytes_orbits = orbits_kept 1 36 (left s m) _ (mask_room (left s m) m) (inr (omega arith)) ∙ left_orbits s m

  mask_bytes_clocks : held_clocks_at (mask_bytes s m) ≡ kept clocks_kept same_mask (some (held_mask m)) (mask_at s) (held_clocks_at s)
  unfolding mask_bytes
  mask_bytes_clocks = clocks_kept_lem 1 36 (left s m) _ (mask_room (left s m) m) (inr (omega arith)) ∙ left_clocks s m long

  mask_bytes_codes : held_codes_at (mask_bytes s m) ≡ kept codes_kept same_mask (some (held_mask m)) (mask_at s) (held_codes_at s)
  unfolding mask_bytes
  mask_bytes_codes = codes_kept_lem 1 36 (left s m) _ (mask_room (left s m) m) (inr (omega arith)) ∙ left_codes s m long

-- ---- records taken
-- a clock put leaves the bits of the mask
pub clock_bits : (s : List ℕ) (slot : ℕ) (h : HeldClock) → bits_at (replace_clock s slot h) ≡ bits_at s
clock_bits s slot h = ap (λ (m : HeldMask). m.bits) (mask_kept 36 3096 s (replace_clock s slot h) (clock_room s slot h) (inl (omega arith)))

-- and so does a code
pub code_bits : (s : List ℕ) (slot : ℕ) (h : HeldCode) → bits_at (kept_code s slot h) ≡ bits_at s
code_bits s slot h = ap (λ (m : HeldMask). m.bits) (mask_kept 9216 9726 s (kept_code s slot h) (kept_code_room s slot h) (inl (omega arith)))

module _ (s : List ℕ) (cs : List (Named HeldCode)) (ks : List (Named HeldClock)) where
  -- before the orbits: codes and clocks
  abbrev before : List ℕ
  before = replace_clocks (kept_codes s cs) ks

  before_room : Kept 36 9726 s before
  before_room =
      kept_trans (kept_wide 36 9726 (kept_codes_room s cs) (omega arith) (omega arith)) (kept_wide 36 9726 (clocks_room (kept_codes s cs) ks) (omega arith) (omega arith))

  records_room : (os : List (Named HeldOrbit)) → Kept 36 9726 s (kept_orbits before os)
  records_room os = kept_trans before_room (kept_wide 36 9726 (kept_orbits_room before os) (omega arith) (omega arith))

-- ---- the record of a slot is its element of the list
module _ (s : List ℕ) (slot : ℕ) (p : 1 ≤ slot) (q : slot ≤ 255) where
  pub clock_listed : held_clock_at s slot ≡ get_or (held_clocks_at s) (slot - 1) no_clock
  clock_listed = let e : slot - 1 + 1 ≡ slot = omega arith in sym (get_or_helds held_clock_of 12 s 36 (slot - 1) no_clock (omega arith) ∙ ap (held_clock_at s) e)

  pub orbit_listed : held_orbit_at s slot ≡ get_or (held_orbits_at s) (slot - 1) no_orbit
  orbit_listed = let e : slot - 1 + 1 ≡ slot = omega arith in sym (get_or_helds held_orbit_of 24 s 3096 (slot - 1) no_orbit (omega arith) ∙ ap (held_orbit_at s) e)

  pub code_listed : held_code_at s slot ≡ get_or (held_codes_at s) (slot - 1) no_code
  code_listed = let e : slot - 1 + 1 ≡ slot = omega arith in sym (get_or_helds held_code_of 2 s 9216 (slot - 1) no_code (omega arith) ∙ ap (held_code_at s) e)

-- ---- THE LAWS: what the bytes say when contents are taken
-- nothing but the mask, the clocks, the orbits and the codes changes
pub taken_room : (s : List ℕ) (c : Contents) → Kept 1 9726 s (taken_bytes s c)
taken_room s c =
    dite (ℕ_discrete c.kind 1)
    (λ k. rw (taken_1 s c k) (mask_bytes_room s c.mask))
    (λ k. rw (taken_other s c k) (kept_wide 1 9726 (records_room s _ _ _) (omega arith) (omega arith)))

module _ (s : List ℕ) (c : Contents) (long : length s ≡ size) where
  abbrev cs : List (Named HeldCode)
  cs = codes_of (mask_at s) c.kind c.code

  abbrev ks : List (Named HeldClock)
  ks = clocks_of (mask_at s) c.kind c.clock

  abbrev os : List (Named HeldOrbit)
  os = orbits_of c.kind c.orbit

  pub taken_mask : mask_at (taken_bytes s c) ≡ or_given (mask_of c) (mask_at s)
  taken_mask =
      dite (ℕ_discrete c.kind 1)
      (λ k. ap mask_at (taken_1 s c k) ∙ mask_bytes_mask s c.mask long ∙ rw (mask_1 c k))
      (λ k. ap mask_at (taken_other s c k) ∙ mask_kept 36 9726 s _ (records_room s _ _ _) (inl (omega arith)) ∙ rw (mask_other c k))

  pub taken_orbits : held_orbits_at (taken_bytes s c) ≡ replace_all orbit_replaces no_orbit (held_orbits_at s) (orbits_of c.kind c.orbit)
  unfolding replace_all
  taken_orbits =
      dite (ℕ_discrete c.kind 1)
      (λ k. ap held_orbits_at (taken_1 s c k) ∙ mask_bytes_orbits s c.mask long ∙ rw (mask_orbits c k))
      (λ k.
      ap held_orbits_at (taken_other s c k)
      ∙ kept_orbits_view (before s cs ks) os ((before_room s cs ks).long ∙ long) (orbits_held c.kind c.orbit)
      ∙ ap (λ (xs : List HeldOrbit). replace_all orbit_replaces no_orbit xs os) (orbits_by_clocks (kept_codes s cs) ks ∙ orbits_by_codes s (kept_codes s cs) (kept_codes_room s cs)))

  pub taken_clocks : held_clocks_at (taken_bytes s c) ≡ replace_all clock_replaces no_clock (kept clocks_kept same_mask (mask_of c) (mask_at s) (held_clocks_at s)) (clocks_of (mask_at s) c.kind c.clock)
  unfolding replace_all kept
  taken_clocks =
      dite (ℕ_discrete c.kind 1)
      (λ k. ap held_clocks_at (taken_1 s c k) ∙ mask_bytes_clocks s c.mask long ∙ rw (mask_1 c k, mask_clocks c k (mask_at s)))
      (λ k.
      ap held_clocks_at (taken_other s c k)
      ∙ clocks_by_orbits (before s cs ks) _ (kept_orbits_room (before s cs ks) os)
      ∙ clocks_view (kept_codes s cs) ((kept_codes_room s cs).long ∙ long) ks (clocks_held (mask_at s) c.kind c.clock)
      ∙ rw (clocks_by_codes s (kept_codes s cs) (kept_codes_room s cs), mask_other c k))

  -- a slot's code: none if an orbit comes into force, a new one if an orbit is held, or what the mask leaves of it
  pub taken_code : (slot : ℕ) → 1 ≤ slot → slot ≤ 255 → times slot (orbits_of c.kind c.orbit) ≤ 1 →
      held_code_at (taken_bytes s c) slot ≡
      or_given
      (or_else (ending no_code (replacing orbit_replaces (held_orbit_at s slot) (naming slot (orbits_of c.kind c.orbit))))
      (pick (held_orbit_at s slot).has (naming slot (codes_of (mask_at s) c.kind c.code)) none))
      (get_or (kept codes_kept same_mask (mask_of c) (mask_at s) (held_codes_at s)) (slot - 1) no_code)
  unfolding kept naming
  taken_code slot p q once =
      dite (ℕ_discrete c.kind 1)
      (λ k.
      ap (λ (t : List ℕ). held_code_at t slot) (taken_1 s c k)
      ∙ code_listed (mask_bytes s c.mask) slot p q
      ∙ ap (λ (xs : List HeldCode). get_or xs (slot - 1) no_code) (mask_bytes_codes s c.mask long)
      ∙ rw (mask_1 c k, mask_orbits c k, mask_codes c k (mask_at s), flat {A = Option HeldCode} (held_orbit_at s slot).has none))
      (λ k.
      let kept_orbit : held_orbit_at (before s cs ks) slot ≡ held_orbit_at s slot = orbit_by_clocks (kept_codes s cs) ks slot p q ∙ orbit_by_codes s (kept_codes s cs) (kept_codes_room s cs) slot p q in
      ap (λ (t : List ℕ). held_code_at t slot) (taken_other s c k)
      ∙ kept_orbits_code (before s cs ks) os slot ((before_room s cs ks).long ∙ long) p q once
      ∙ ap (λ (o : HeldOrbit). or_given (ending no_code (replacing orbit_replaces o (naming slot os))) (held_code_at (before s cs ks) slot)) kept_orbit
      ∙ ap (or_given (ending no_code (replacing orbit_replaces (held_orbit_at s slot) (naming slot os))))
      (code_by_clocks (kept_codes s cs) ks slot p q ∙ kept_codes_at s cs slot long p q (codes_held (mask_at s) c.kind c.code))
      ∙ or_or (ending no_code (replacing orbit_replaces (held_orbit_at s slot) (naming slot os))) (pick (held_orbit_at s slot).has (naming slot cs) none) (held_code_at s slot)
      ∙ ap (or_given (or_else (ending no_code (replacing orbit_replaces (held_orbit_at s slot) (naming slot os))) (pick (held_orbit_at s slot).has (naming slot cs) none)))
      (code_listed s slot p q ∙ rw (mask_other c k)))

-- ---- a fresh ledger: the PRN, and nothing else
module _ (s : List ℕ) (prn : ℕ) where
  fresh_room : Kept 0 1 (replicate (length s) 0) (fresh s prn)
  unfolding fresh store_at
  fresh_room = kept_store 0 1 (replicate (length s) 0) 0 (prn ∷ []) (omega arith) (omega arith)

  pub fresh_long : length (fresh s prn) ≡ length s
  fresh_long = fresh_room.long ∙ length-replicate (length s) 0

  pub fresh_prn : 1 ≤ length s → prn_at (fresh s prn) ≡ prn
  unfolding fresh
  fresh_prn l = get_or-set_same (replicate (length s) 0) 0 prn 0 (omega (arith, length-replicate {A = ℕ} (length s) 0))

  pub fresh_mask : mask_at (fresh s prn) ≡ no_held_mask
  fresh_mask = mask_kept 0 1 _ _ fresh_room (inr (omega arith)) ∙ zero_mask (length s)

  module _ (slot : ℕ) (p : 1 ≤ slot) (q : slot ≤ 255) where
    pub fresh_clock : held_clock_at (fresh s prn) slot ≡ no_clock
    fresh_clock =
        let zeros = replicate {A = ℕ} (length s) 0 in
        held_kept held_clock_of 12 36 0 1 zeros (fresh s prn) fresh_room (inr (omega arith)) slot p q ∙ zero_clock zeros (get_or_zeros (length s)) slot

    pub fresh_orbit : held_orbit_at (fresh s prn) slot ≡ no_orbit
    fresh_orbit =
        let zeros = replicate {A = ℕ} (length s) 0 in
        held_kept held_orbit_of 24 3096 0 1 zeros (fresh s prn) fresh_room (inr (omega arith)) slot p q ∙ zero_orbit zeros (get_or_zeros (length s)) slot

    pub fresh_code : held_code_at (fresh s prn) slot ≡ no_code
    fresh_code =
        let zeros = replicate {A = ℕ} (length s) 0 in
        held_kept held_code_of 2 9216 0 1 zeros (fresh s prn) fresh_room (inr (omega arith)) slot p q ∙ zero_code zeros (get_or_zeros (length s)) slot
