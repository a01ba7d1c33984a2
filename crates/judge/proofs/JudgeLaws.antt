-- Laws of what is judged: where no record names a slot, no slot is above 255 and none stands twice.
use mathlib.Core.Path.{◌≡◌, refl, sym, ap, ◌∙◌}
use mathlib.Core.Logic.{◌≢◌, dite}
use mathlib.Core.Bool.{Bool, true, false, ◌||◌}
use mathlib.Core.List.{List, [], ◌∷◌}
use Prim.Native.Nat.{ℕ, ◌+◌}
use native.Mathlib.Decide.{ℕ_discrete}
use native.Mathlib.Omega.{arith}
use borrow.Author.Tests.{ne_eqb}
use Rattle.bits.specs.Pick.{pick}
use Rattle.bits.specs.Table.{table}
use Rattle.bits.specs.Some.{any_of}
use Rattle.layout.specs.Layout.{layout_of, end_of}
use Rattle.biases.specs.Biases.{no_biases, bias_part_at, bias_heads_at}
use Rattle.biases.specs.declared.BiasPart.{BiasPart}
use Rattle.ura_codes.specs.Codes.{no_codes}
use Rattle.ura_codes.specs.declared.CodePart.{CodePart}
use Rattle.contents.specs.Parts.{no_mask, no_clocks, no_orbits, contents_at, end_at}
use Rattle.contents.proofs.PartLaws.{mask_absent, clocks_absent, orbits_absent, biases_absent, biases_there, codes_absent, end_layout, layout_back}
use Rattle.contents.specs.declared.parts.MaskPart.{MaskPart}
use Rattle.contents.specs.declared.parts.ClockPart.{ClockPart}
use Rattle.contents.specs.declared.parts.OrbitPart.{OrbitPart}
use Rattle.contents.specs.declared.parts.Contents.{Contents}
use Rattle.judge.specs.Judge.{is_late, is_high, is_named, is_again, clock_slots, orbit_slots, sat_slots, high_slot, twice, refusal_by, refusal_of, refusal_at, mask_refusal_of, parts_refusal_of, biases_refusal_of, codes_refusal_of}

-- where no slot is named, no slot has a property that 0 does not have
none_named : (p : ℕ → List ℕ → Bool) → ((xs : List ℕ) → p 0 xs ≡ false) → (xs : List ℕ) → any_of is_named xs ≡ false → any_of p xs ≡ false
unfolding any_of
none_named p o [] e = refl
none_named p o (x ∷ xs) e =
    dite (ℕ_discrete x 0)
    (λ z. rw (z, o xs) (none_named p o xs (rw z at e)))
    (λ n. absurd (let h : true ≡ false = rw (ne_eqb x 0 n) at e in let z : ◌≡◌ {A = ℕ} 0 1 = cc in omega arith))

pub high_none : (xs : List ℕ) → any_of is_named xs ≡ false → any_of is_high xs ≡ false
high_none = none_named is_high (λ xs. refl)

pub twice_none : (xs : List ℕ) → any_of is_named xs ≡ false → any_of is_again xs ≡ false
twice_none = none_named is_again (λ xs. refl)

-- ---- what is absent is neither late, nor too high, nor there twice
or_false : (b : Bool) → (b || false) ≡ b
or_false true = refl
or_false false = refl

no_sat_high : (b : Bool) → (b || any_of is_high (sat_slots no_biases.sats)) ≡ b
unfolding no_biases sat_slots table any_of
no_sat_high b = or_false b

no_sat_twice : (b : Bool) → (b || any_of is_again (sat_slots no_biases.sats)) ≡ b
unfolding no_biases sat_slots table any_of
no_sat_twice b = or_false b

-- equal answers to the tests, equal numbers
judged_same : (kind end : ℕ) {l l' h h' t t' : Bool} → l ≡ l' → h ≡ h' → t ≡ t' → refusal_by kind end l h t ≡ refusal_by kind end l' h' t'
judged_same kind end p q r = rw (p, q, r)

-- a type 1 can be refused 10 alone
pub mask_judged : (m : MaskPart) → mask_refusal_of m ≡ pick (is_late m.epoch) 10 0
unfolding mask_refusal_of refusal_of layout_of no_clocks no_orbits no_biases no_codes clock_slots orbit_slots sat_slots table any_of
mask_judged m = ap (λ (b : Bool). pick b 10 0) (or_false _ ∙ or_false _ ∙ or_false _ ∙ or_false (is_late m.epoch))

-- so can a type 5
pub codes_judged : (u : CodePart) → codes_refusal_of u ≡ pick (is_late u.epoch) 10 0
unfolding codes_refusal_of refusal_of layout_of no_mask no_clocks no_orbits no_biases clock_slots orbit_slots sat_slots table any_of
codes_judged u = refl

-- a type 3 is judged by its biases
pub biases_judged : (end : ℕ) (b : BiasPart)
    → biases_refusal_of end b ≡ refusal_by 3 end (is_late b.epoch) (any_of is_high (sat_slots b.sats)) (any_of is_again (sat_slots b.sats))
unfolding biases_refusal_of refusal_of no_mask no_clocks no_orbits no_codes clock_slots orbit_slots table any_of
biases_judged end b = ap (λ (l : Bool). refusal_by 3 end l (any_of is_high (sat_slots b.sats)) (any_of is_again (sat_slots b.sats))) (or_false (is_late b.epoch))

-- types with clocks and orbits are judged by those
pub parts_judged : (kind : ℕ) (k : ClockPart) (o : OrbitPart)
    → parts_refusal_of kind k o
    ≡ refusal_by kind (end_of (layout_of kind k.count o.count)) (is_late k.epoch || is_late o.epoch) (high_slot kind k o) (twice k o)
unfolding parts_refusal_of refusal_of no_mask no_biases no_codes
parts_judged kind k o =
    judged_same kind (end_of (layout_of kind k.count o.count))
    (or_false _ ∙ or_false (is_late k.epoch || is_late o.epoch))
    (no_sat_high (high_slot kind k o))
    (no_sat_twice (twice k o))

-- ---- contents are judged by the parts that their type has
module _ (end : ℕ) (c : Contents) where
  mask_refusal : c.kind ≡ 1 → end ≡ end_of (layout_of 1 0 0) → c.clock ≡ no_clocks → c.orbit ≡ no_orbits → c.bias ≡ no_biases → c.code ≡ no_codes
      → mask_refusal_of c.mask ≡ refusal_of end c
  unfolding mask_refusal_of refusal_of
  mask_refusal k e f g h i = rw (k, e, f, g, h, i)

  codes_refusal : c.kind ≡ 5 → end ≡ end_of (layout_of 5 0 0) → c.mask ≡ no_mask → c.clock ≡ no_clocks → c.orbit ≡ no_orbits → c.bias ≡ no_biases
      → codes_refusal_of c.code ≡ refusal_of end c
  unfolding codes_refusal_of refusal_of
  codes_refusal k e f g h i = rw (k, e, f, g, h, i)

  biases_refusal : c.kind ≡ 3 → c.mask ≡ no_mask → c.clock ≡ no_clocks → c.orbit ≡ no_orbits → c.code ≡ no_codes → biases_refusal_of end c.bias ≡ refusal_of end c
  unfolding biases_refusal_of refusal_of
  biases_refusal k f g h i = rw (k, f, g, h, i)

  parts_refusal : end ≡ end_of (layout_of c.kind c.clock.count c.orbit.count) → c.mask ≡ no_mask → c.bias ≡ no_biases → c.code ≡ no_codes
      → parts_refusal_of c.kind c.clock c.orbit ≡ refusal_of end c
  unfolding parts_refusal_of refusal_of
  parts_refusal e f g h = rw (e, f, g, h)

-- ---- so is the message that begins at bit `at`
module _ (s : List ℕ) (at : ℕ) where
  abbrev c : Contents
  c = contents_at s at

  -- a type is no other
  other : (k : ℕ) → c.kind ≡ k → (j : ℕ) → k ≢ j → c.kind ≢ j
  other k e j n f = n (sym e ∙ f)

  -- the type's own layout ends where it ends for any counts, as it has none
  end_alone : (k : ℕ) → k ≢ 3 → ((n m : ℕ) → end_of (layout_of k n m) ≡ end_of (layout_of k 0 0)) → c.kind ≡ k → end_at s at ≡ end_of (layout_of k 0 0)
  end_alone k n same e =
      end_layout s at (other k e 3 n)
      ∙ ap end_of (sym (layout_back s at))
      ∙ ap (λ (x : ℕ). end_of (layout_of x c.clock.count c.orbit.count)) e
      ∙ same c.clock.count c.orbit.count

  end_1 : (n m : ℕ) → end_of (layout_of 1 n m) ≡ end_of (layout_of 1 0 0)
  unfolding layout_of
  end_1 n m = refl

  end_5 : (n m : ℕ) → end_of (layout_of 5 n m) ≡ end_of (layout_of 5 0 0)
  unfolding layout_of
  end_5 n m = refl

  -- clocks and orbits are absent from types 1, 3 and 5
  no_clocks_lem : (k : ℕ) → c.kind ≡ k → k ≢ 4 → k ≢ 6 → k ≢ 7 → c.clock ≡ no_clocks
  no_clocks_lem k e n4 n6 n7 = clocks_absent s at (other k e 4 n4) (other k e 6 n6) (other k e 7 n7)

  no_orbits_lem : (k : ℕ) → c.kind ≡ k → k ≢ 2 → k ≢ 6 → k ≢ 7 → c.orbit ≡ no_orbits
  no_orbits_lem k e n2 n6 n7 = orbits_absent s at (other k e 2 n2) (other k e 6 n6) (other k e 7 n7)

  pub mask_refusal_at : c.kind ≡ 1 → mask_refusal_of c.mask ≡ refusal_at s at
  unfolding refusal_at
  mask_refusal_at e =
      mask_refusal (end_at s at) c e (end_alone 1 (omega arith) end_1 e)
      (no_clocks_lem 1 e (omega arith) (omega arith) (omega arith))
      (no_orbits_lem 1 e (omega arith) (omega arith) (omega arith))
      (biases_absent s at (other 1 e 3 (omega arith)))
      (codes_absent s at (other 1 e 5 (omega arith)))

  pub codes_refusal_at : c.kind ≡ 5 → codes_refusal_of c.code ≡ refusal_at s at
  unfolding refusal_at
  codes_refusal_at e =
      codes_refusal (end_at s at) c e (end_alone 5 (omega arith) end_5 e)
      (mask_absent s at (other 5 e 1 (omega arith)))
      (no_clocks_lem 5 e (omega arith) (omega arith) (omega arith))
      (no_orbits_lem 5 e (omega arith) (omega arith) (omega arith))
      (biases_absent s at (other 5 e 3 (omega arith)))

  pub biases_refusal_at : c.kind ≡ 3 → biases_refusal_of (end_at s at) c.bias ≡ refusal_at s at
  unfolding refusal_at
  biases_refusal_at e =
      biases_refusal (end_at s at) c e
      (mask_absent s at (other 3 e 1 (omega arith)))
      (no_clocks_lem 3 e (omega arith) (omega arith) (omega arith))
      (no_orbits_lem 3 e (omega arith) (omega arith) (omega arith))
      (codes_absent s at (other 3 e 5 (omega arith)))

  -- and by their heads, since no verdict looks at a bias itself
  pub heads_refusal_at : c.kind ≡ 3 → biases_refusal_of (end_at s at) (bias_heads_at s (at + 6)) ≡ refusal_at s at
  heads_refusal_at e =
      biases_judged (end_at s at) (bias_heads_at s (at + 6))
      ∙ sym (biases_judged (end_at s at) (bias_part_at s (at + 6)))
      ∙ ap (biases_refusal_of (end_at s at)) (sym (biases_there s at e))
      ∙ biases_refusal_at e

  pub parts_refusal_at : c.kind ≢ 1 → c.kind ≢ 3 → c.kind ≢ 5 → parts_refusal_of c.kind c.clock c.orbit ≡ refusal_at s at
  unfolding refusal_at
  parts_refusal_at n1 n3 n5 =
      parts_refusal (end_at s at) c (end_layout s at n3 ∙ ap end_of (sym (layout_back s at))) (mask_absent s at n1) (biases_absent s at n3) (codes_absent s at n5)
