-- The contents at bit a of s and at bit b of t, and where they end, are the same where the bits agree.
use Prim.Native.Nat.{ℕ, ◌+◌, ◌-◌, ◌<◌, ◌≤◌}
use mathlib.Core.Path.{◌≡◌, refl, sym, ap, ◌∙◌}
use mathlib.Core.Logic.{◌≢◌, ◌⊎◌, inl, inr, dite}
use mathlib.Core.List.{List}
use native.Mathlib.Decide.{ℕ_discrete}
use native.Mathlib.Omega.{arith}
use borrow.Author.Tests.{ne_eqb}
use Rattle.bits.specs.Bits.{field_at}
use Rattle.layout.specs.Layout.{end_of}
use Rattle.layout.proofs.LayoutLaws.{layout_short as never-long}
use Rattle.contents.specs.Parts.{mask_in, clocks_in, orbits_in, biases_in, codes_in, layout_at, contents_at, end_at}
use Rattle.contents.specs.declared.parts.MaskPart.{MaskPart}
use Rattle.contents.specs.declared.parts.ClockPart.{ClockPart}
use Rattle.contents.specs.declared.parts.OrbitPart.{OrbitPart}
use Rattle.contents.specs.declared.parts.Contents.{Contents}
use Rattle.contents.proofs.PartLaws.{end_past, end_layout}
use Rattle.biases.specs.Biases.{bias_end}
use Rattle.biases.specs.declared.BiasPart.{BiasPart}
use Rattle.ura_codes.specs.declared.CodePart.{CodePart}
use Rattle.made_read.specs.MadeRead.{Agree}
use Rattle.made_read.proofs.AgreeLaws.{field_at_lem, short_head, mask_same, clocks_same, orbits_same}
use Rattle.made_read.proofs.BiasAgree.{ends, biases_part, codes_part}

module _ (n : ℕ) (s : List ℕ) (a : ℕ) (t : List ℕ) (b : ℕ) (same : Agree n s a t b) (long : 475 ≤ n) where
  pub kind_same : field_at s a 6 ≡ field_at t b 6
  kind_same = field_at_lem n s a t b same a b 0 6 (omega arith) (omega arith) (omega arith)

  layout_same : layout_at s a ≡ layout_at t b
  layout_same =
      rw (
        kind_same,
        field_at_lem n s a t b same (a + 6) (b + 6) 6 5 refl refl (omega arith),
        field_at_lem n s a t b same (a + 6 + 5) (b + 6 + 5) 11 3 (omega arith) (omega arith) (omega arith),
      )

  -- ---- they end at the same bit, or both after bit 462
  ends_at : (x y : ℕ) → a ≤ x → b ≤ y → (((a ≤ x) × (x + b ≡ y + a)) ⊎ ((a + n < x + 13) × (b + n < y + 13))) → (x - a ≡ y - b) ⊎ ((462 < x - a) × (462 < y - b))
  ends_at x y h g (inl p) = inl (omega arith)
  ends_at x y h g (inr p) = inr (omega arith, omega arith)

  other_end : field_at t b 6 ≢ 3 → end_at s a ≡ end_at t b
  unfolding contents_at
  other_end ne = end_layout s a (λ e. ne (sym kind_same ∙ e)) ∙ ap end_of layout_same ∙ sym (end_layout t b ne)

  pub end_same : (end_at s a ≡ end_at t b) ⊎ ((462 < end_at s a) × (462 < end_at t b))
  unfolding end_at
  end_same =
      dite (ℕ_discrete (field_at t b 6) 3)
      (λ e.
      let x = bias_end s (a + 6) in
      let y = bias_end t (b + 6) in
      rw (kind_same, e) (ends_at x y (omega (arith, end_past s (a + 6))) (omega (arith, end_past t (b + 6))) (ends n s a t b same (omega arith))))
      (λ ne. inl (other_end ne))

  -- ---- contents that end by bit 462
  layout_short : end_at t b ≤ 462 → end_of (layout_at t b) ≤ n
  unfolding end_at
  layout_short h =
      dite (ℕ_discrete (field_at t b 6) 3)
      (λ e. omega (arith, never-long (field_at t b 6) (field_at t (b + 6) 5) (field_at t (b + 6 + 5) 3) (λ x. omega arith) (λ x. omega arith)))
      (λ ne. let g = (rw (ne_eqb (field_at t b 6) 3 ne) at h) in omega arith)

  biases_same : end_at t b ≤ 462 → biases_in s a (field_at t b 6) ≡ biases_in t b (field_at t b 6)
  unfolding end_at biases_in
  biases_same h =
      dite (ℕ_discrete (field_at t b 6) 3)
      (λ e. let g = (rw e at h) in rw e (biases_part n s a t b same (omega arith) (omega (arith, end_past t (b + 6)))))
      (λ ne. rw (ne_eqb (field_at t b 6) 3 ne))

  codes_same : codes_in s a (field_at t b 6) ≡ codes_in t b (field_at t b 6)
  unfolding codes_in
  codes_same = rw (codes_part n s a t b same (omega arith))

  pub contents_same : end_at t b ≤ 462 → contents_at s a ≡ contents_at t b
  unfolding contents_at
  contents_same h =
      let l = layout_at t b in
      let e = layout_same in
      let k = kind_same in
      parts k
      (ap (mask_in s a) e ∙ mask_same n s a t b same l (short_head (field_at t b 6) (field_at t (b + 6) 5) (field_at t (b + 6 + 5) 3)) (omega arith))
      (ap (clocks_in s a) e ∙ clocks_same n s a t b same l (layout_short h))
      (ap (orbits_in s a) e ∙ orbits_same n s a t b same l (layout_short h))
      (ap (biases_in s a) k ∙ biases_same h)
      (ap (codes_in s a) k ∙ codes_same)
    where
      parts : {i j : ℕ} {m m' : MaskPart} {k k' : ClockPart} {o o' : OrbitPart} {d d' : BiasPart} {u u' : CodePart}
          → i ≡ j → m ≡ m' → k ≡ k' → o ≡ o' → d ≡ d' → u ≡ u'
          → ◌≡◌ {A = Contents} (record { kind = i; mask = m; clock = k; orbit = o; bias = d; code = u }) (record { kind = j; mask = m'; clock = k'; orbit = o'; bias = d'; code = u' })
      parts c e f g h i = rw (c, e, f, g, h, i)
