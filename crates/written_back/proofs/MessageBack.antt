-- A whole message: the contents are read back as they were put.
use mathlib.Core.Path.{◌≡◌, refl, sym, ap, ◌∙◌, subst}
use mathlib.Core.Logic.{◌≢◌, dite, ⊎_elim}
use mathlib.Core.Bool.{true, true≢false, Bool-discrete}
use mathlib.Core.List.{List, [], ◌∷◌}
use Prim.Native.Nat.{ℕ, ◌+◌, ◌-◌, ◌≤◌, ◌<◌}
use lib.Dec.{eqb}
use lib.ListN.{get_or, length}
use native.Mathlib.Nat.{zero-add}
use native.Mathlib.Decide.{ℕ_discrete}
use native.Mathlib.Omega.{arith}
use borrow.Author.Tests.{eqb-true, eq-eqb, ne_eqb}
use Rattle.bits.specs.Pick.{pick}
use Rattle.bits.specs.Bits.{field_at, put_at, fields_at, puts_at, Within}
use Rattle.bits.proofs.RowLaws.{fields_puts}
use Rattle.records.specs.Orbit.{orbit_widths}
use Rattle.records.specs.Clock.{clock_widths}
use Rattle.biases.specs.Biases.{bias_end, no_biases}
use Rattle.ura_codes.specs.Codes.{no_codes}
use Rattle.canonical_biases.specs.Canon.{canon_biases, bias_bits}
use Rattle.bias_writing.specs.Put.{biases_put}
use Rattle.biases_back.proofs.BiasesBack.{put_beside, biases_back, end_back}
use Rattle.code_writing.specs.Codes.{codes_put}
use Rattle.code_writing.proofs.CodesBack.{codes_beside, codes_back}
use Rattle.layout.specs.Layout.{part_widths, layout_of, orbits_from, end_of}
use Rattle.contents.specs.Parts.{no_mask, mask_in, clocks_in, orbits_in, biases_in, codes_in, layout_at, contents_at, end_at}
use Rattle.contents.proofs.PartLaws.{no_mask_layout, end_layout}
use Rattle.judge.specs.Judge.{refusal_of}
use Rattle.layout.specs.declared.Layout.{Layout}
use Rattle.contents.specs.declared.parts.Contents.{Contents}
use Rattle.canonical.specs.Canon.{canon_clocks, canon_orbits, canon_codes, layout_for, canon}
use Rattle.canonical.proofs.CodeCanon.{codes_same}
use Rattle.layout.proofs.LayoutLaws.{layout_same}
use Rattle.canonical.proofs.KindLaws.{Headed, headed, Alone, alone}
use Rattle.writing.specs.Fits.{clock_row, orbit_row, fits_all}
use Rattle.writing.specs.Write.{head_put, mask_put, clocks_put, orbits_put, bias_put, code_put, parts_put, check_put, end_for}
use Rattle.fitting.proofs.FitLaws.{not_so, all_fit_lem}
use Rattle.fitting.proofs.WithinLaws.{fits_within}
use Rattle.written_back.proofs.WithinLaws.{Parts, fit_parts, fit_biases, fit_codes}
use Rattle.writing.proofs.TakenLaws.{judged, few}
use Rattle.written_back.specs.Limits.{Octets}
use Rattle.fitting.proofs.BesideLaws.{Beside, beside_same, beside_then, beside_wide, beside_fields}
use Rattle.written_back.proofs.StepsBeside.{head_beside, mask_beside, clocks_beside, orbits_beside}
use Rattle.written_back.proofs.CheckBack.{check_beside}
use Rattle.written_back.proofs.PartsBack.{mask_back, clocks_back, orbits_back}

-- 02, CR 2: the parts of types 3 and 5 are in canonical form
abbrev pub Own : Contents → Type 0
Own c = (c.kind ≡ 3 → canon_biases c.bias ≡ c.bias) × (c.kind ≡ 5 → length c.code.codes ≡ 70)

-- 01: types 3 and 5 have the type alone in front of their parts, and neither mask, clocks nor orbits
end_type : (kind numc numo k : ℕ) → kind ≡ k → end_of (layout_of k numc numo) ≡ 6 → end_of (layout_of kind numc numo) ≡ 6
end_type kind numc numo k e h = rw e h

end_3 : (numc numo : ℕ) → end_of (layout_of 3 numc numo) ≡ 6
unfolding layout_of
end_3 numc numo = refl

end_5 : (numc numo : ℕ) → end_of (layout_of 5 numc numo) ≡ 6
unfolding layout_of
end_5 numc numo = refl

module _ (s : List ℕ) (c : Contents) (len : length s ≡ 61) (octets : Octets 32 c.mask.bytes) (own : Own c) (ok : refusal_of (end_for c) c ≡ 0) (fit : fits_all c ≡ true) where
  l : Layout
  l = layout_for c

  m₁ : List ℕ
  m₁ = head_put s c.kind l

  m₂ : List ℕ
  m₂ = mask_put m₁ l c.mask

  m₃ : List ℕ
  m₃ = clocks_put m₂ l c.clock

  m₄ : List ℕ
  m₄ = orbits_put m₃ l c.orbit

  m₅ : List ℕ
  m₅ = bias_put m₄ c.kind c.bias

  m₆ : List ℕ
  m₆ = code_put m₅ c.kind c.code

  t : List ℕ
  t = check_put m₆

  ends : end_of l ≤ 462
  unfolding l
  ends = (judged c ok).1

  ends_written : end_for c ≤ 462
  ends_written = (judged c ok).2

  -- where the parts of types 3 and 5 begin
  from_6 : (k : ℕ) → c.kind ≡ k → ((n m : ℕ) → end_of (layout_of k n m) ≡ 6) → end_of l ≡ 6
  unfolding l
  from_6 k e h = end_type c.kind c.clock.count c.orbit.count k e (h c.clock.count c.orbit.count)

  -- a type 3 would end where its biases do
  short_3 : c.kind ≡ 3 → 6 + bias_bits c.bias ≤ 462
  short_3 e = rw (eq-eqb c.kind 3 e) at ends_written

  l_headed : Headed l
  unfolding l
  l_headed = headed c.kind c.clock.count c.orbit.count

  l_alone : Alone l
  unfolding l
  l_alone = alone c.kind c.clock.count c.orbit.count

  short : (6 ≤ l.head) × (l.head ≤ 14)
  short = ⊎_elim (λ (e : l.head ≡ 6). (omega arith, omega arith)) (λ (e : l.head ≡ 14). (omega arith, omega arith)) l_headed

  l_few : (l.orbits ≤ 6) × (l.clocks ≤ 23)
  unfolding l
  l_few = few c ends

  -- each step leaves what the steps before it wrote
  step₁ : Beside 0 l.head s m₁
  unfolding m₁
  step₁ = head_beside s c.kind l l_headed

  step₂ : Beside l.head (l.head + 27 + 255) m₁ m₂
  unfolding m₂
  step₂ = mask_beside m₁ l c.mask

  step₃ : Beside l.head (orbits_from l) m₂ m₃
  unfolding m₃
  step₃ = clocks_beside m₂ l c.clock

  step₄ : Beside (orbits_from l) (end_of l) m₃ m₄
  unfolding m₄
  step₄ = orbits_beside m₃ l c.orbit

  is_3 : c.kind ≡ 3 → m₅ ≡ biases_put m₄ 6 c.bias
  unfolding m₅ bias_put
  is_3 e = rw (eq-eqb c.kind 3 e)

  not_3 : c.kind ≢ 3 → m₅ ≡ m₄
  unfolding m₅ bias_put
  not_3 n = rw (ne_eqb c.kind 3 n)

  is_5 : c.kind ≡ 5 → m₆ ≡ codes_put m₅ 6 c.code
  unfolding m₆ code_put
  is_5 e = rw (eq-eqb c.kind 5 e)

  not_5 : c.kind ≢ 5 → m₆ ≡ m₅
  unfolding m₆ code_put
  not_5 n = rw (ne_eqb c.kind 5 n)

  step₅ : Beside (end_of l) 462 m₄ m₅
  step₅ =
      dite (ℕ_discrete c.kind 3)
      (λ e.
      rw (is_3 e)
      (beside_wide 6 (6 + bias_bits c.bias) (end_of l) 462 m₄ (biases_put m₄ 6 c.bias) (omega (arith, from_6 3 e end_3)) (short_3 e)
      (put_beside m₄ 6 c.bias (own.0 e) (fit_biases c fit e))))
      (λ n. rw (not_3 n) (beside_same (end_of l) 462 m₄))

  step₆ : Beside (end_of l) 462 m₅ m₆
  step₆ =
      dite (ℕ_discrete c.kind 5)
      (λ e.
      rw (is_5 e)
      (beside_wide 6 (6 + 450) (end_of l) 462 m₅ (codes_put m₅ 6 c.code) (omega (arith, from_6 5 e end_5)) (omega arith) (codes_beside m₅ 6 c.code)))
      (λ n. rw (not_5 n) (beside_same (end_of l) 462 m₅))

  kept₆ : Beside 462 486 m₆ t
  unfolding t
  kept₆ = check_beside m₆

  kept₅ : Beside (end_of l) 486 m₅ t
  kept₅ =
      beside_then (end_of l) 486 m₅ m₆ t
      (beside_wide (end_of l) 462 (end_of l) 486 m₅ m₆ (omega arith) (omega arith) step₆)
      (beside_wide 462 486 (end_of l) 486 m₆ t ends (omega arith) kept₆)

  kept₄ : Beside (end_of l) 486 m₄ t
  kept₄ = beside_then (end_of l) 486 m₄ m₅ t (beside_wide (end_of l) 462 (end_of l) 486 m₄ m₅ (omega arith) (omega arith) step₅) kept₅

  kept₃ : Beside (orbits_from l) 486 m₃ t
  kept₃ =
      beside_then (orbits_from l) 486 m₃ m₄ t
      (beside_wide (orbits_from l) (end_of l) (orbits_from l) 486 m₃ m₄ (omega arith) (omega (arith, ends)) step₄)
      (beside_wide (end_of l) 486 (orbits_from l) 486 m₄ t (omega arith) (omega arith) kept₄)

  kept₂ : Beside l.head 486 m₂ t
  kept₂ =
      beside_then l.head 486 m₂ m₃ t
      (beside_wide l.head (orbits_from l) l.head 486 m₂ m₃ (omega arith) (omega (arith, ends)) step₃)
      (beside_wide (orbits_from l) 486 l.head 486 m₃ t (omega arith) (omega arith) kept₃)

  kept₁ : Beside l.head 486 m₁ t
  kept₁ =
      beside_then l.head 486 m₁ m₂ t
      (beside_wide l.head (l.head + 27 + 255) l.head 486 m₁ m₂ (omega arith) (omega (arith, short)) step₂)
      kept₂

  -- nothing from bit 462 on is touched by the parts
  made : Beside 0 462 s m₆
  made =
      beside_then 0 462 s m₁ m₆ (beside_wide 0 l.head 0 462 s m₁ (omega arith) (omega (arith, short)) step₁)
      (beside_then 0 462 m₁ m₂ m₆ (beside_wide l.head (l.head + 27 + 255) 0 462 m₁ m₂ (omega arith) (omega (arith, short)) step₂)
      (beside_then 0 462 m₂ m₃ m₆ (beside_wide l.head (orbits_from l) 0 462 m₂ m₃ (omega arith) (omega (arith, ends)) step₃)
      (beside_then 0 462 m₃ m₄ m₆ (beside_wide (orbits_from l) (end_of l) 0 462 m₃ m₄ (omega arith) ends step₄)
      (beside_then 0 462 m₄ m₅ m₆ (beside_wide (end_of l) 462 0 462 m₄ m₅ (omega arith) (omega arith) step₅)
      (beside_wide (end_of l) 462 0 462 m₅ m₆ (omega arith) (omega arith) step₆)))))

  tests : Parts l c
  unfolding l
  tests = fit_parts c fit

  fit_clocks : (i : ℕ) → i < l.clocks → Within (clock_widths l.slotted) (clock_row c.clock.clocks i)
  fit_clocks i h = fits_within (clock_widths l.slotted) (clock_row c.clock.clocks i) tt (all_fit_lem (clock_widths l.slotted) (clock_row c.clock.clocks) 23 tests.3 i (omega (arith, l_few)))

  fit_orbits : (i : ℕ) → i < l.orbits → Within orbit_widths (orbit_row c.orbit.orbits i)
  fit_orbits i h = fits_within orbit_widths (orbit_row c.orbit.orbits i) tt (all_fit_lem orbit_widths (orbit_row c.orbit.orbits) 6 tests.4 i (omega (arith, l_few)))

  -- type and counts
  row₆ : l.head ≡ 6 → fields_at t 0 (6 ∷ []) ≡ c.kind ∷ []
  unfolding m₁ head_put puts_at put_at
  row₆ e =
      let g : m₁ ≡ puts_at s 0 (6 ∷ []) (c.kind ∷ []) = rw e in
      beside_fields l.head 486 m₁ t 0 (6 ∷ []) kept₁ (omega arith)
      ∙ ap (λ (x : List ℕ). fields_at x 0 (6 ∷ [])) g
      ∙ fields_puts s 0 (6 ∷ []) (c.kind ∷ []) (omega arith) ((judged c ok).0, tt)

  row₁₄ : l.head ≡ 14 → fields_at t 0 (6 ∷ 5 ∷ 3 ∷ []) ≡ c.kind ∷ l.clocks ∷ l.orbits ∷ []
  unfolding m₁ head_put
  row₁₄ e =
      let g : m₁ ≡ puts_at s 0 (6 ∷ 5 ∷ 3 ∷ []) (c.kind ∷ l.clocks ∷ l.orbits ∷ []) = rw e in
      beside_fields l.head 486 m₁ t 0 (6 ∷ 5 ∷ 3 ∷ []) kept₁ (omega arith)
      ∙ ap (λ (x : List ℕ). fields_at x 0 (6 ∷ 5 ∷ 3 ∷ [])) g
      ∙ fields_puts s 0 (6 ∷ 5 ∷ 3 ∷ []) (c.kind ∷ l.clocks ∷ l.orbits ∷ []) (omega arith) ((judged c ok).0, (omega (arith, l_few), (omega (arith, l_few), tt)))

  kind_back : field_at t 0 6 ≡ c.kind
  kind_back =
      ⊎_elim
      (λ (e : l.head ≡ 6). ap (λ (xs : List ℕ). get_or xs 0 0) (row₆ e))
      (λ (e : l.head ≡ 14). ap (λ (xs : List ℕ). get_or xs 0 0) (row₁₄ e))
      l_headed

  layout_back : layout_at t 0 ≡ l
  unfolding l
  layout_back =
      rw kind_back
      (layout_same c.kind (field_at t (0 + 6) 5) (field_at t (0 + 6 + 5) 3) c.clock.count c.orbit.count
      (λ e. (ap (λ (xs : List ℕ). get_or xs 1 0) (row₁₄ e), ap (λ (xs : List ℕ). get_or xs 2 0) (row₁₄ e))))

  -- the parts
  none₃ : l.clocks ≡ 0 → m₃ ≡ m₂
  unfolding m₃ clocks_put
  none₃ e = rw (eq-eqb _ _ e)

  none₄ : l.orbits ≡ 0 → m₄ ≡ m₃
  unfolding m₄ orbits_put
  none₄ e = rw (eq-eqb _ _ e)

  -- a mask is of type 1
  mask_1 : l.mask ≡ true → c.kind ≡ 1
  unfolding l
  mask_1 h =
      dite (ℕ_discrete c.kind 1) (λ e. e)
      (λ n. absurd (true≢false (sym h ∙ no_mask_layout c.kind c.clock.count c.orbit.count n)))

  kept_mask : l.mask ≡ true → Beside (l.head + 27 + 255) 486 (mask_put m₁ l c.mask) t
  unfolding m₂
  kept_mask h =
      let a = l_alone h in
      let k = mask_1 h in
      let e : m₆ ≡ m₂ = not_5 (λ x. omega arith) ∙ not_3 (λ x. omega arith) ∙ none₄ a.2 ∙ none₃ a.1 in
      beside_wide 462 486 (l.head + 27 + 255) 486 m₂ t (omega arith) (omega arith) (subst (λ (x : List ℕ). Beside 462 486 x t) e kept₆)

  mask_in_back : mask_in t 0 l ≡ pick l.mask c.mask no_mask
  unfolding mask_in
  mask_in_back =
      dite (Bool-discrete l.mask true)
      (λ h.
      let a = l_alone h in
      rw (h, zero-add l.head)
      (mask_back m₁ t 486 l c.mask h octets (eqb-true _ 0 tests.5) (omega (arith, step₁.long)) (kept_mask h) (fits_within (part_widths 4 0) _ tt tests.0)))
      (λ h. rw (not_so l.mask h))

  clocks_none : l.clocks ≡ 0 → clocks_in t 0 l ≡ canon_clocks l c.clock
  unfolding clocks_in canon_clocks
  clocks_none e = rw (eq-eqb _ _ e)

  clocks_in_back : clocks_in t 0 l ≡ canon_clocks l c.clock
  unfolding clocks_in m₃
  clocks_in_back =
      dite (ℕ_discrete l.clocks 0)
      clocks_none
      (λ n.
      rw (ne_eqb _ _ n, zero-add l.head)
      (clocks_back m₂ t 486 l c.clock n (omega (arith, ends, step₁.long, step₂.long)) kept₃ (fits_within (part_widths l.iodp l.start) _ tt tests.1) fit_clocks))

  orbits_none : l.orbits ≡ 0 → orbits_in t 0 l ≡ canon_orbits l c.orbit
  unfolding orbits_in canon_orbits
  orbits_none e = rw (eq-eqb _ _ e)

  orbits_in_back : orbits_in t 0 l ≡ canon_orbits l c.orbit
  unfolding orbits_in m₄
  orbits_in_back =
      dite (ℕ_discrete l.orbits 0)
      orbits_none
      (λ n.
      rw (ne_eqb _ _ n, zero-add (orbits_from l))
      (orbits_back m₃ t 486 l c.orbit n (omega (arith, ends, step₁.long, step₂.long, step₃.long))
      kept₄ (fits_within (part_widths 0 0) _ tt tests.2) fit_orbits))

  -- the biases of a type 3
  kept_biases : c.kind ≡ 3 → Beside (6 + bias_bits c.bias) 486 (biases_put m₄ 6 c.bias) t
  kept_biases e =
      let same : m₆ ≡ biases_put m₄ 6 c.bias = not_5 (λ x. omega arith) ∙ is_3 e in
      beside_wide 462 486 (6 + bias_bits c.bias) 486 (biases_put m₄ 6 c.bias) t (short_3 e) (omega arith) (subst (λ (x : List ℕ). Beside 462 486 x t) same kept₆)

  long₄ : length m₄ ≡ 61
  long₄ = step₄.long ∙ step₃.long ∙ step₂.long ∙ step₁.long ∙ len

  biases_in_back : biases_in t 0 c.kind ≡ pick (eqb c.kind 3) (canon_biases c.bias) no_biases
  unfolding biases_in
  biases_in_back =
      dite (ℕ_discrete c.kind 3)
      (λ e.
      rw (eq-eqb c.kind 3 e)
      (biases_back m₄ t 6 486 c.bias (own.0 e) (fit_biases c fit e) (omega (arith, short_3 e, long₄)) (kept_biases e) ∙ sym (own.0 e)))
      (λ n. rw (ne_eqb c.kind 3 n))

  -- the URA codes of a type 5
  codes_in_back : codes_in t 0 c.kind ≡ pick (eqb c.kind 5) (canon_codes c.code) no_codes
  unfolding codes_in
  codes_in_back =
      dite (ℕ_discrete c.kind 5)
      (λ e.
      let kept = beside_wide 462 486 (6 + 450) 486 (codes_put m₅ 6 c.code) t (omega arith) (omega arith) (subst (λ (x : List ℕ). Beside 462 486 x t) (is_5 e) kept₆) in
      rw (eq-eqb c.kind 5 e)
      (codes_back m₅ t 6 486 c.code (fit_codes c fit e) (omega (arith, long₄, step₅.long)) kept (own.1 e) ∙ sym (codes_same c.code (own.1 e))))
      (λ n. rw (ne_eqb c.kind 5 n))

  message_back : contents_at t 0 ≡ canon c
  unfolding contents_at canon l
  message_back = rw (layout_back, kind_back, mask_in_back, clocks_in_back, orbits_in_back, biases_in_back, codes_in_back)

  -- and it ends where it was put to end
  other_ends : c.kind ≢ 3 → end_at t 0 ≡ end_for c
  unfolding contents_at l
  other_ends n = end_layout t 0 (λ e. n (sym kind_back ∙ e)) ∙ ap end_of layout_back ∙ rw (ne_eqb c.kind 3 n)

  end_of_3 : field_at t 0 6 ≡ 3 → end_at t 0 ≡ bias_end t 6 - 0
  unfolding end_at
  end_of_3 e = rw (eq-eqb (field_at t 0 6) 3 e)

  ends_3 : c.kind ≡ 3 → end_at t 0 ≡ end_for c
  ends_3 e =
      let q = end_back m₄ t 6 486 c.bias (own.0 e) (fit_biases c fit e) (omega (arith, short_3 e, long₄)) (kept_biases e) in
      let r : bias_end t 6 - 0 ≡ 6 + bias_bits c.bias = omega (arith, q) in
      end_of_3 (kind_back ∙ e) ∙ r ∙ rw (eq-eqb c.kind 3 e)

  ends_back : end_at t 0 ≡ end_for c
  ends_back =
      dite (ℕ_discrete c.kind 3)
      (λ e. ends_3 e)
      other_ends

-- reading what was written gives the contents in canonical form
pub contents_back : (s : List ℕ) (c : Contents) → length s ≡ 61 → Octets 32 c.mask.bytes → Own c → refusal_of (end_for c) c ≡ 0 → fits_all c ≡ true → contents_at (check_put (parts_put s c (layout_for c))) 0 ≡ canon c
unfolding parts_put l m₁ m₂ m₃ m₄ m₅ m₆ t
contents_back s c len octets own ok fit = message_back s c len octets own ok fit

-- which end where they were put to end
pub written_ends : (s : List ℕ) (c : Contents) → length s ≡ 61 → Octets 32 c.mask.bytes → Own c → refusal_of (end_for c) c ≡ 0 → fits_all c ≡ true → end_at (check_put (parts_put s c (layout_for c))) 0 ≡ end_for c
unfolding parts_put l m₁ m₂ m₃ m₄ m₅ m₆ t
written_ends s c len octets own ok fit = ends_back s c len octets own ok fit

-- and nothing from bit 462 on is touched by the parts
pub parts_beside : (s : List ℕ) (c : Contents) → length s ≡ 61 → Octets 32 c.mask.bytes → Own c → refusal_of (end_for c) c ≡ 0 → fits_all c ≡ true → Beside 0 462 s (parts_put s c (layout_for c))
unfolding parts_put l m₁ m₂ m₃ m₄ m₅ m₆
parts_beside s c len octets own ok fit = made s c len octets own ok fit
