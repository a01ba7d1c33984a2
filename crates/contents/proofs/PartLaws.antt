-- Laws of the parts that a message has by its type (01, Message fields, in order; 02, CR 2), and of where they end.
use mathlib.Core.Path.{◌≡◌, refl, sym}
use mathlib.Core.Logic.{◌≢◌, dite}
use mathlib.Core.Bool.{false}
use mathlib.Core.List.{List}
use Prim.Native.Nat.{ℕ, zero, suc, ◌+◌, ◌-◌, ◌≤◌}
use native.Mathlib.Omega.{arith}
use lib.Dec.{eqb}
use native.Mathlib.Decide.{ℕ_discrete}
use borrow.Author.Tests.{eq-eqb, ne_eqb}
use Rattle.bits.specs.Bits.{field_at}
use Rattle.biases.specs.Biases.{sat_place, sat_count, bias_part_at, bias_end, no_biases}
use Rattle.ura_codes.specs.Codes.{code_part_at, no_codes}
use Rattle.layout.specs.Layout.{layout_of, end_of}
use Rattle.contents.specs.Parts.{no_mask, no_clocks, no_orbits, mask_in, clocks_in, orbits_in, biases_in, codes_in, layout_at, contents_at, end_at}
use Rattle.layout.specs.declared.Layout.{Layout}
use Rattle.layout.proofs.LayoutLaws.{pick_all, layout_same}

-- ---- what a layout lacks
-- type 1 alone has a mask
pub no_mask_layout : (kind numc numo : ℕ) → kind ≢ 1 → (layout_of kind numc numo).mask ≡ false
unfolding layout_of
no_mask_layout kind numc numo n =
    rw (ne_eqb kind 1 n)
    (pick_all (λ (l : Layout). l.mask ≡ false) (eqb kind 2) _ _ refl
    (pick_all (λ (l : Layout). l.mask ≡ false) (eqb kind 4) _ _ refl
    (pick_all (λ (l : Layout). l.mask ≡ false) (eqb kind 6) _ _ refl
    (pick_all (λ (l : Layout). l.mask ≡ false) (eqb kind 7) _ _ refl refl))))

-- types 4, 6 and 7 alone have clock records
no_clocks_layout : (kind numc numo : ℕ) → kind ≢ 4 → kind ≢ 6 → kind ≢ 7 → (layout_of kind numc numo).clocks ≡ 0
unfolding layout_of
no_clocks_layout kind numc numo n4 n6 n7 =
    rw (ne_eqb kind 4 n4, ne_eqb kind 6 n6, ne_eqb kind 7 n7)
    (pick_all (λ (l : Layout). l.clocks ≡ 0) (eqb kind 1) _ _ refl (pick_all (λ (l : Layout). l.clocks ≡ 0) (eqb kind 2) _ _ refl refl))

-- types 2, 6 and 7 alone have orbit records
no_orbits_layout : (kind numc numo : ℕ) → kind ≢ 2 → kind ≢ 6 → kind ≢ 7 → (layout_of kind numc numo).orbits ≡ 0
unfolding layout_of
no_orbits_layout kind numc numo n2 n6 n7 =
    rw (ne_eqb kind 2 n2, ne_eqb kind 6 n6, ne_eqb kind 7 n7)
    (pick_all (λ (l : Layout). l.orbits ≡ 0) (eqb kind 1) _ _ refl (pick_all (λ (l : Layout). l.orbits ≡ 0) (eqb kind 4) _ _ refl refl))

-- ---- biases end after they begin
place_past : (s : List ℕ) (at i : ℕ) → at ≤ sat_place s at i
unfolding sat_place
place_past s at zero = omega arith
place_past s at (suc i) = omega (arith, place_past s at i)

pub end_past : (s : List ℕ) (at : ℕ) → at ≤ bias_end s at
end_past s at = omega (arith, place_past s (at + 28) (sat_count s at))

-- ---- the parts of a message
module _ (s : List ℕ) (at : ℕ) where
  -- type 1 alone has a mask
  pub mask_absent : (contents_at s at).kind ≢ 1 → (contents_at s at).mask ≡ no_mask
  unfolding contents_at mask_in
  mask_absent n = rw (no_mask_layout (field_at s at 6) (field_at s (at + 6) 5) (field_at s (at + 6 + 5) 3) n)

  -- types 4, 6 and 7 alone have clocks
  pub clocks_absent : (contents_at s at).kind ≢ 4 → (contents_at s at).kind ≢ 6 → (contents_at s at).kind ≢ 7 → (contents_at s at).clock ≡ no_clocks
  unfolding contents_at clocks_in
  clocks_absent n4 n6 n7 = rw (no_clocks_layout (field_at s at 6) (field_at s (at + 6) 5) (field_at s (at + 6 + 5) 3) n4 n6 n7)

  -- types 2, 6 and 7 alone have orbits
  pub orbits_absent : (contents_at s at).kind ≢ 2 → (contents_at s at).kind ≢ 6 → (contents_at s at).kind ≢ 7 → (contents_at s at).orbit ≡ no_orbits
  unfolding contents_at orbits_in
  orbits_absent n2 n6 n7 = rw (no_orbits_layout (field_at s at 6) (field_at s (at + 6) 5) (field_at s (at + 6 + 5) 3) n2 n6 n7)

  -- type 3 alone has biases
  pub biases_absent : (contents_at s at).kind ≢ 3 → (contents_at s at).bias ≡ no_biases
  unfolding contents_at biases_in
  biases_absent n = rw (ne_eqb (field_at s at 6) 3 n)

  pub biases_there : (contents_at s at).kind ≡ 3 → (contents_at s at).bias ≡ bias_part_at s (at + 6)
  unfolding contents_at biases_in
  biases_there e = rw (eq-eqb (field_at s at 6) 3 e)

  -- type 5 alone has URA codes by place
  pub codes_absent : (contents_at s at).kind ≢ 5 → (contents_at s at).code ≡ no_codes
  unfolding contents_at codes_in
  codes_absent n = rw (ne_eqb (field_at s at 6) 5 n)

  pub codes_there : (contents_at s at).kind ≡ 5 → (contents_at s at).code ≡ code_part_at s (at + 6)
  unfolding contents_at codes_in
  codes_there e = rw (eq-eqb (field_at s at 6) 5 e)

  -- ---- where they end
  pub end_layout : (contents_at s at).kind ≢ 3 → end_at s at ≡ end_of (layout_at s at)
  unfolding contents_at end_at
  end_layout n = rw (ne_eqb (field_at s at 6) 3 n)

  pub end_biases : (contents_at s at).kind ≡ 3 → end_at s at ≡ bias_end s (at + 6) - at
  unfolding contents_at end_at
  end_biases e = rw (eq-eqb (field_at s at 6) 3 e)

  -- ---- the layout of what was read is that of the message
  clocks_count : (l : Layout) → (clocks_in s at l).count ≡ l.clocks
  unfolding clocks_in no_clocks
  clocks_count l = dite (ℕ_discrete l.clocks 0) (λ e. rw (eq-eqb _ _ e) (sym e)) (λ n. rw (ne_eqb _ _ n))

  orbits_count : (l : Layout) → (orbits_in s at l).count ≡ l.orbits
  unfolding orbits_in no_orbits
  orbits_count l = dite (ℕ_discrete l.orbits 0) (λ e. rw (eq-eqb _ _ e) (sym e)) (λ n. rw (ne_eqb _ _ n))

  pub layout_back : layout_of (contents_at s at).kind (contents_at s at).clock.count (contents_at s at).orbit.count ≡ layout_at s at
  unfolding contents_at
  layout_back =
      let l = layout_at s at in
      layout_same (field_at s at 6) (clocks_in s at l).count (orbits_in s at l).count (field_at s (at + 6) 5) (field_at s (at + 6 + 5) 3) (λ e. (clocks_count l, orbits_count l))
