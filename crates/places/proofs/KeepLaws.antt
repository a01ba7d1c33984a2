-- What one frame's records name, a turn of a walk at a time, and when a clock part by place is refused.
use mathlib.Core.Path.{◌≡◌, refl, sym, ap, ◌∙◌}
use mathlib.Core.Logic.{◌≢◌, inr, dite}
use Prim.Native.Nat.{ℕ, ◌+◌, ◌≤◌, ◌<◌}
use mathlib.Core.Bool.{Bool, true, false, ◌&&◌}
use mathlib.Core.List.{List, [], ◌∷◌, map}
use mathlib.Core.Option.{none, some}
use lib.Dec.{eqb, ltb}
use lib.ListN.{get_or, length, take, drop, drop_of_length-le, length-map}
use native.Mathlib.Decide.{ℕ_discrete, dec_lt}
use native.Mathlib.Omega.{arith}
use borrow.Author.Tests.{eq-eqb, ne_eqb, lt-ltb, le-ltb}
use Rattle.bits.specs.Pick.{pick}
use Rattle.bits.proofs.TableLaws.{drop_one}
use Rattle.slots.specs.Slots.{slot_named, set_count, nth_set}
use Rattle.slots.proofs.SlotLaws.{nth_none}
use Rattle.records.specs.declared.orbit.Orbit.{Orbit}
use Rattle.records.specs.declared.clock.Clock.{Clock}
use Rattle.ura_codes.specs.declared.CodePart.{CodePart}
use Rattle.contents.specs.declared.parts.ClockPart.{ClockPart}
use Rattle.contents.specs.declared.parts.OrbitPart.{OrbitPart}
use Rattle.contents.specs.declared.parts.Contents.{Contents}
use Rattle.layout.proofs.LayoutLaws.{pick_all}
use Rattle.lookback.specs.Store.{in_order}
use Rattle.lent.proofs.HeldLaws.{AllHeld}
use Rattle.mask_bits.proofs.PlaceLaws.{no_more}
use Rattle.held_clocks.specs.declared.HeldClock.{HeldClock}
use Rattle.held_clocks.proofs.ClockLaws.{ClocksHeld}
use Rattle.held_orbits.specs.declared.HeldOrbit.{HeldOrbit}
use Rattle.held_orbits.proofs.OrbitLaws.{OrbitsHeld}
use Rattle.held_codes.specs.declared.HeldCode.{HeldCode}
use Rattle.held_mask.specs.Mask.{HeldMask, held_mask}
use Rattle.places.specs.Keeps.{held_orbit, held_clock, by_slot, by_place, mask_of, has_orbits, orbits_of, needs_mask, first_place, place_to_check, other_mask, as_place, clocks_of, place_number, place_refusal, held_code, first_code, codes_of, code_refusal, mask_refusal}

-- an array of records in a part is as long as its relation says
pub length_mapped : (X Y : Type 0) (f : X → Y) (l : List X) (n : ℕ) → length (map f l) ≡ n → length l ≡ n
length_mapped X Y f l n e = sym (length-map l f) ∙ e

-- ---- a walk over records, a turn and its end; what is done with each is a step
module _ {R A : Type 0} (step : List ℕ → ℕ → A → List ℕ) (f : R → A) (rs : List R) (j : ℕ) (d : R) (s : List ℕ) where
  pub slot_step : (slot : R → ℕ) → ((x : ℕ) (h : A) → step s (slot_named x) h ≡ step s x h) → j < length rs →
      in_order step s (by_slot slot f (drop j rs)) ≡ in_order step (step s (slot_named (slot (get_or rs j d))) (f (get_or rs j d))) (by_slot slot f (drop (j + 1) rs))
  unfolding in_order by_slot
  slot_step slot same h = rw (drop_one rs j d h, same (slot (get_or rs j d)) (f (get_or rs j d)))

  pub slot_end : (slot : R → ℕ) → length rs ≤ j → in_order step s (by_slot slot f (drop j rs)) ≡ s
  unfolding in_order by_slot
  slot_end slot h = rw (drop_of_length-le rs h)

  pub place_step : (bits : List Bool) (n : ℕ) → j < length rs →
      in_order step s (by_place f bits (drop j rs) n) ≡ in_order step (step s (nth_set bits n) (f (get_or rs j d))) (by_place f bits (drop (j + 1) rs) (n + 1))
  unfolding in_order by_place
  place_step bits n h = rw (drop_one rs j d h)

  pub place_end : (bits : List Bool) (n : ℕ) → length rs ≤ j → in_order step s (by_place f bits (drop j rs) n) ≡ s
  unfolding in_order by_place
  place_end bits n h = rw (drop_of_length-le rs h)

-- from the first filler on no record names anything, and a step that names nothing does nothing
pub place_filler : {R A : Type 0} (step : List ℕ → ℕ → A → List ℕ) (f : R → A) (rs : List R) (s : List ℕ) (bits : List Bool) (n : ℕ) → ((h : A) → step s 0 h ≡ s) →
    1 ≤ n → nth_set bits n ≡ 0 → in_order step s (by_place f bits rs n) ≡ s
unfolding in_order by_place
place_filler step f [] s bits n idle l e = refl
place_filler step f (r ∷ rs) s bits n idle l e =
    rw (e, idle (f r)) (place_filler step f rs s bits (n + 1) idle (omega arith) (no_more bits 1 n 1 (omega arith) l e))

-- nothing is done where nothing is named
pub order_none : {A : Type 0} (step : List ℕ → ℕ → A → List ℕ) (s : List ℕ) → in_order step s [] ≡ s
unfolding in_order
order_none step s = refl

-- ---- the names of a part, by the type
module _ (m : HeldMask) (kind : ℕ) (p : ClockPart) where
  pub clocks_7 : kind ≡ 7 → clocks_of m kind p ≡ by_slot (λ (k : Clock). k.slot) (held_clock false p.epoch p.ssr) p.clocks
  unfolding clocks_of
  clocks_7 e = rw (eq-eqb kind 7 e)

  pub clocks_placed : kind ≢ 7 → needs_mask kind p ≡ true → clocks_of m kind p ≡ by_place (held_clock true p.epoch p.ssr) m.bits (take p.count p.clocks) (first_place kind p)
  unfolding clocks_of
  clocks_placed n e = rw (ne_eqb kind 7 n, e)

  pub clocks_none : kind ≢ 7 → needs_mask kind p ≡ false → clocks_of m kind p ≡ []
  unfolding clocks_of
  clocks_none n e = rw (ne_eqb kind 7 n, e)

  -- a part by place is not of type 7
  pub placed_not_7 : needs_mask kind p ≡ true → kind ≢ 7
  placed_not_7 e k = let z : false ≡ true = rw k at e in let y : ◌≡◌ {A = ℕ} 0 1 = cc in omega arith

module _ (kind : ℕ) (p : OrbitPart) where
  pub orbits_some : has_orbits kind ≡ true → orbits_of kind p ≡ by_slot (λ (o : Orbit). o.slot) (held_orbit p.epoch p.ssr) p.orbits
  unfolding orbits_of
  orbits_some e = rw e

  pub orbits_none : has_orbits kind ≡ false → orbits_of kind p ≡ []
  unfolding orbits_of
  orbits_none e = rw e

module _ (m : HeldMask) (kind : ℕ) (u : CodePart) where
  pub codes_some : kind ≡ 5 → codes_of m kind u ≡ by_place held_code m.bits u.codes (first_code u)
  unfolding codes_of
  codes_some e = rw (eq-eqb kind 5 e)

  pub codes_none : kind ≢ 5 → codes_of m kind u ≡ []
  unfolding codes_of
  codes_none n = rw (ne_eqb kind 5 n)

-- a type 3 names nothing, and a type 5 codes alone
module _ (m : HeldMask) (kind : ℕ) (p : ClockPart) (o : OrbitPart) where
  pub biases_clocks : kind ≡ 3 → clocks_of m kind p ≡ []
  unfolding clocks_of
  biases_clocks e = rw e

  pub biases_orbits : kind ≡ 3 → orbits_of kind o ≡ []
  unfolding orbits_of
  biases_orbits e = rw e

  pub codes_clocks : kind ≡ 5 → clocks_of m kind p ≡ []
  unfolding clocks_of
  codes_clocks e = rw e

  pub codes_orbits : kind ≡ 5 → orbits_of kind o ≡ []
  unfolding orbits_of
  codes_orbits e = rw e

-- ---- a type 1 brings a mask and nothing else; no other type brings one
module _ (c : Contents) where
  pub mask_1 : c.kind ≡ 1 → mask_of c ≡ some (held_mask c.mask)
  unfolding mask_of
  mask_1 k = rw (eq-eqb c.kind 1 k)

  pub mask_other : c.kind ≢ 1 → mask_of c ≡ none
  unfolding mask_of
  mask_other k = rw (ne_eqb c.kind 1 k)

  pub mask_kind : (m : HeldMask) → mask_of c ≡ some m → c.kind ≡ 1
  mask_kind m e = dite (ℕ_discrete c.kind 1) (λ k. k) (λ k. absurd (let z : ◌≡◌ {A = ℕ} 0 1 = cc (mask_other k) in omega arith))

  module _ (k : c.kind ≡ 1) where
    pub mask_orbits : orbits_of c.kind c.orbit ≡ []
    unfolding orbits_of
    mask_orbits = rw k

    pub mask_clocks : (m : HeldMask) → clocks_of m c.kind c.clock ≡ []
    unfolding clocks_of
    mask_clocks m = rw k

    pub mask_codes : (m : HeldMask) → codes_of m c.kind c.code ≡ []
    unfolding codes_of
    mask_codes m = rw k

    pub mask_free : (m : HeldMask) → mask_refusal m c ≡ 0
    unfolding place_refusal
    mask_free m = rw k

-- 02, CR 2: a type 3 needs no mask
pub biases_free : (c : Contents) → c.kind ≡ 3 → (m : HeldMask) → mask_refusal m c ≡ 0
unfolding place_refusal
biases_free c k m = rw k

-- ---- 14, 15 and 19, in the order in which they are looked for
module _ (m : HeldMask) (kind : ℕ) (p : ClockPart) where
  pub place_free : needs_mask kind p ≡ false → place_refusal m kind p ≡ 0
  unfolding place_refusal
  place_free e = rw e

  module _ (n : needs_mask kind p ≡ true) where
    pub place_other : other_mask m p.ssr p.iodp ≡ true → place_refusal m kind p ≡ 14
    unfolding place_refusal
    place_other o = rw (n, o)

    module _ (o : other_mask m p.ssr p.iodp ≡ false) where
      pub place_past : set_count m.bits < place_to_check kind p → place_refusal m kind p ≡ place_number kind
      unfolding place_refusal
      place_past l = rw (n, o, lt-ltb _ _ l)

      pub place_good : place_to_check kind p ≤ set_count m.bits → place_refusal m kind p ≡ 0
      unfolding place_refusal
      place_good l = rw (n, o, le-ltb _ _ l)

  -- it is none of a frame's own numbers
  pub place_own : place_refusal m kind p ≢ 6
  unfolding place_refusal
  place_own =
      let past = needs_mask kind p && ltb (set_count m.bits) (place_to_check kind p) in
      let number = pick_all (λ (n : ℕ). n ≢ 6) (eqb kind 4) 15 19 (omega arith) (omega arith) in
      let second = pick_all (λ (n : ℕ). n ≢ 6) past (place_number kind) 0 number (omega arith) in
      pick_all (λ (n : ℕ). n ≢ 6) (needs_mask kind p && other_mask m p.ssr p.iodp) 14 (pick past (place_number kind) 0) (omega arith) second

-- of a type 5
module _ (m : HeldMask) (u : CodePart) where
  pub code_other : other_mask m u.ssr u.iodp ≡ true → code_refusal m u ≡ 14
  unfolding code_refusal
  code_other o = rw o

  module _ (o : other_mask m u.ssr u.iodp ≡ false) where
    pub code_past : ltb (set_count m.bits) (first_code u) ≡ true → code_refusal m u ≡ 15
    unfolding code_refusal
    code_past l = rw (o, l)

    pub code_good : ltb (set_count m.bits) (first_code u) ≡ false → code_refusal m u ≡ 0
    unfolding code_refusal
    code_good l = rw (o, l)

  -- it is none that says more than its number
  code_plain : (n : ℕ) → n ≢ 14 → n ≢ 15 → n ≢ 0 → code_refusal m u ≢ n
  unfolding code_refusal
  code_plain n a b z =
      let past = ltb (set_count m.bits) (first_code u) in
      let second = pick_all (λ (k : ℕ). k ≢ n) past 15 0 (λ e. b (sym e)) (λ e. z (sym e)) in
      pick_all (λ (k : ℕ). k ≢ n) (other_mask m u.ssr u.iodp) 14 (pick past 15 0) (λ e. a (sym e)) second

  pub code_own : code_refusal m u ≢ 6
  code_own = code_plain 6 (omega arith) (omega arith) (omega arith)

  pub code_alone : code_refusal m u ≢ 19
  code_alone = code_plain 19 (omega arith) (omega arith) (omega arith)

-- of contents
module _ (m : HeldMask) (c : Contents) where
  pub refusal_5 : c.kind ≡ 5 → mask_refusal m c ≡ code_refusal m c.code
  refusal_5 k = rw (eq-eqb c.kind 5 k)

  pub refusal_other : c.kind ≢ 5 → mask_refusal m c ≡ place_refusal m c.kind c.clock
  refusal_other k = rw (ne_eqb c.kind 5 k)

  pub refusal_own : mask_refusal m c ≢ 6
  refusal_own = pick_all (λ (n : ℕ). n ≢ 6) (eqb c.kind 5) (code_refusal m c.code) (place_refusal m c.kind c.clock) (code_own m c.code) (place_own m c.kind c.clock)

-- ---- a place that no satellite has
pub count_le : (bs : List Bool) → set_count bs ≤ length bs
unfolding set_count
count_le [] = omega arith
count_le (true ∷ bs) = omega (arith, count_le bs)
count_le (false ∷ bs) = omega (arith, count_le bs)

-- a place is the number that it is of, where a mask of 255 bits can have it, and is above the set bits where that is
pub as_near : (n : ℕ) → n ≤ 255 → as_place n ≡ n
as_near n h = rw (lt-ltb n 65536 (omega arith))

pub as_far : (n : ℕ) → 255 < n → 255 < as_place n
as_far n h = pick_all (λ (k : ℕ). 255 < k) (ltb n 65536) n 65535 h (omega arith)

pub as_past : (c n : ℕ) → c ≤ 255 → c < as_place n → c < n
as_past c n l h = dite (dec_lt 255 n) (λ q. omega arith) (λ q. rw (as_near n (omega arith)) at h)

pub as_within : (c n : ℕ) → c ≤ 255 → as_place n ≤ c → n ≤ c
as_within c n l h = dite (dec_lt 255 n) (λ q. absurd (let z : ⊥ = omega (arith, as_far n q) in z)) (λ q. rw (as_near n (omega arith)) at h)

-- no satellite has the one or the other
pub as_same : (bits : List Bool) (n : ℕ) → length bits ≡ 255 → nth_set bits (as_place n) ≡ nth_set bits n
as_same bits n long =
    dite (dec_lt 255 n)
    (λ q. nth_none bits 1 (as_place n) (inr (omega (arith, as_far n q, count_le bits))) ∙ sym (nth_none bits 1 n (inr (omega (arith, count_le bits)))))
    (λ q. ap (nth_set bits) (as_near n (omega arith)))

-- so records from the one or the other on name the same slots
pub place_same : {R A : Type 0} (f : R → A) (bits : List Bool) (rs : List R) (n : ℕ) → length bits ≡ 255 → by_place f bits rs (as_place n) ≡ by_place f bits rs n
unfolding by_place
place_same f bits rs n long =
    dite (dec_lt 255 n)
    (λ q. go rs (as_place n) n (as_far n q) q)
    (λ q. ap (by_place f bits rs) (as_near n (omega arith)))
  where
    none : (k : ℕ) → 255 < k → nth_set bits k ≡ 0
    none k l = nth_none bits 1 k (inr (omega (arith, count_le bits)))

    go : (rs : List _) (a b : ℕ) → 255 < a → 255 < b → by_place f bits rs a ≡ by_place f bits rs b
    go [] a b l m = refl
    go (r ∷ rs) a b l m = rw (none a l, none b m, go rs (a + 1) (b + 1) (omega arith) (omega arith))

-- ---- what is named is held
module _ {R A : Type 0} (has : A → Bool) (f : R → A) (every : (r : R) → has (f r) ≡ true) where
  slot_held : (slot : R → ℕ) (rs : List R) → AllHeld has (by_slot slot f rs)
  unfolding by_slot
  slot_held slot [] = tt
  slot_held slot (r ∷ rs) = (every r, slot_held slot rs)

  place_held : (bits : List Bool) (rs : List R) (n : ℕ) → AllHeld has (by_place f bits rs n)
  unfolding by_place
  place_held bits [] n = tt
  place_held bits (r ∷ rs) n = (every r, place_held bits rs (n + 1))

pub clocks_held : (m : HeldMask) (kind : ℕ) (p : ClockPart) → ClocksHeld (clocks_of m kind p)
unfolding clocks_of
clocks_held m kind p = go (eqb kind 7) (needs_mask kind p)
  where
    go : (a b : Bool) → ClocksHeld (pick a (by_slot (λ (k : Clock). k.slot) (held_clock false p.epoch p.ssr) p.clocks) (pick b (by_place (held_clock true p.epoch p.ssr) m.bits (take p.count p.clocks) (first_place kind p)) []))
    go true b = slot_held (λ (h : HeldClock). h.has) (held_clock false p.epoch p.ssr) (λ k. refl) (λ (k : Clock). k.slot) p.clocks
    go false true = place_held (λ (h : HeldClock). h.has) (held_clock true p.epoch p.ssr) (λ k. refl) m.bits (take p.count p.clocks) (first_place kind p)
    go false false = tt

pub orbits_held : (kind : ℕ) (p : OrbitPart) → OrbitsHeld (orbits_of kind p)
unfolding orbits_of
orbits_held kind p = go (has_orbits kind)
  where
    go : (b : Bool) → OrbitsHeld (pick b (by_slot (λ (o : Orbit). o.slot) (held_orbit p.epoch p.ssr) p.orbits) [])
    go true = slot_held (λ (h : HeldOrbit). h.has) (held_orbit p.epoch p.ssr) (λ o. refl) (λ (o : Orbit). o.slot) p.orbits
    go false = tt

pub codes_held : (m : HeldMask) (kind : ℕ) (u : CodePart) → AllHeld (λ (h : HeldCode). h.has) (codes_of m kind u)
unfolding codes_of
codes_held m kind u = go (eqb kind 5)
  where
    go : (b : Bool) → AllHeld (λ (h : HeldCode). h.has) (pick b (by_place held_code m.bits u.codes (first_code u)) [])
    go true = place_held (λ (h : HeldCode). h.has) held_code (λ k. refl) m.bits u.codes (first_code u)
    go false = tt
