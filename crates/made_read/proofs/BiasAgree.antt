-- The parts of types 3 and 5 at bit a of s and at bit b of t are the same where the bits agree.
use Prim.Native.Nat.{ℕ, zero, suc, ◌+◌, ◌-◌, ◌*◌, ◌<◌, ◌≤◌}
use mathlib.Core.Path.{◌≡◌, refl, ap, ap₂, ◌∙◌}
use mathlib.Core.Logic.{◌⊎◌, inl, inr, ⊎_elim, dite}
use mathlib.Core.Bool.{Bool, true, false}
use mathlib.Core.List.{List, ◌++◌}
use native.Mathlib.Decide.{dec_le, ℕ_discrete}
use native.Mathlib.Omega.{arith}
use lib.Dec.{eqb}
use lib.ListN.{get_or}
use Rattle.bits.specs.Pick.{pick}
use Rattle.bits.specs.Bits.{field_at, fields_at}
use Rattle.bits.specs.Table.{table}
use Rattle.bits.proofs.TableLaws.{table_ext}
use Rattle.records.specs.Signed.{signed_of}
use Rattle.layout.specs.Layout.{part_widths}
use Rattle.biases.specs.Biases.{blank_sat, no_bias, sat_at, next_sat, sat_place, sats_at, bias_nth, biases_at, filled, sat_count, bias_part_at, bias_end}
use Rattle.biases.specs.declared.BiasSat.{BiasSat}
use Rattle.biases.specs.declared.Bias.{Bias}
use Rattle.biases.specs.declared.BiasPart.{BiasPart}
use Rattle.ura_codes.specs.Codes.{codes_at, code_part_at}
use Rattle.ura_codes.specs.declared.CodePart.{CodePart}
use Rattle.made_read.specs.MadeRead.{Agree}
use Rattle.made_read.proofs.AgreeLaws.{field_at_lem, fields_at_lem}

-- satellites stand one after the other
place_rises : (s : List ℕ) (at m i : ℕ) → i ≤ m → sat_place s at i ≤ sat_place s at m
unfolding sat_place
place_rises s at zero i h = let z : i ≡ 0 = omega arith in rw z (omega arith)
place_rises s at (suc m) i h = dite (ℕ_discrete i (suc m)) (λ e. rw e (omega arith)) (λ n. omega (arith, place_rises s at m i (omega arith)))

-- a satellite has at most the biases that are stepped over
count_under : (b : Bool) (x : ℕ) → pick b 0 x ≤ x
count_under true x = omega arith
count_under false x = omega arith

module _ (n : ℕ) (s : List ℕ) (a : ℕ) (t : List ℕ) (b : ℕ) (same : Agree n s a t b) where
  -- two places as many bits on
  abbrev Even : ℕ → ℕ → Type 0
  Even x y = (a ≤ x) × (x + b ≡ y + a)

  -- or both so far on that a satellite there ends after bit n
  abbrev Placed : ℕ → ℕ → Type 0
  Placed x y = Even x y ⊎ ((a + n < x + 13) × (b + n < y + 13))

  field_even : (x y k w : ℕ) → Even x y → x - a + k + w ≤ n → field_at s (x + k) w ≡ field_at t (y + k) w
  field_even x y k w e h = field_at_lem n s a t b same (x + k) (y + k) (x - a + k) w (omega arith) (omega arith) h

  place_next : (x y : ℕ) → Placed x y → Placed (next_sat s x) (next_sat t y)
  place_next x y p =
      ⊎_elim
      (λ e.
      dite (dec_le (x - a + 13) n)
      (λ h. let f = field_even x y 9 4 e (omega arith) in inl (omega arith, omega arith))
      (λ h. inr (omega arith, omega arith)))
      (λ e. inr (omega arith, omega arith))
      p

  places : (x y i : ℕ) → Placed x y → Placed (sat_place s x i) (sat_place t y i)
  unfolding sat_place
  places x y zero p = p
  places x y (suc i) p = place_next (sat_place s x i) (sat_place t y i) (places x y i p)

  -- ---- the head
  count_same : 34 ≤ n → sat_count s (a + 6) ≡ sat_count t (b + 6)
  count_same h = field_at_lem n s a t b same (a + 6 + 17 + 4 + 2 + 0) (b + 6 + 17 + 4 + 2 + 0) 29 5 (omega arith) (omega arith) (omega arith)

  -- ---- where they end: as many bits on, or both after bit n - 13
  pub ends : 34 ≤ n → Placed (bias_end s (a + 6)) (bias_end t (b + 6))
  ends h = rw (count_same h) (places (a + 6 + 28) (b + 6 + 28) (sat_count t (b + 6)) (inl (omega arith, omega arith)))

  -- ---- satellites and biases that end within the bits
  module _ (m : ℕ) (short : sat_place t (b + 6 + 28) m ≤ b + (n - 13)) (long : 13 ≤ n) where
    place_short : (i : ℕ) → i ≤ m → sat_place t (b + 6 + 28) i ≤ b + (n - 13)
    place_short i h = omega (arith, place_rises t (b + 6 + 28) m i h)

    even : (i : ℕ) → i ≤ m → Even (sat_place s (a + 6 + 28) i) (sat_place t (b + 6 + 28) i)
    even i h = go (sat_place s (a + 6 + 28) i) (sat_place t (b + 6 + 28) i) (place_short i h) (places (a + 6 + 28) (b + 6 + 28) i (inl (omega arith, omega arith)))
      where
        go : (x y : ℕ) → y ≤ b + (n - 13) → Placed x y → Even x y
        go x y h (inl p) = p
        go x y h (inr p) = absurd (let z : ⊥ = omega arith in z)

    -- the next satellite begins within the bits, so this one ends there
    next_short : (i : ℕ) → i < m → next_sat t (sat_place t (b + 6 + 28) i) ≤ b + (n - 13)
    unfolding sat_place
    next_short i h = place_short (suc i) h

    sat_same : (i : ℕ) → i < m → sat_at s (sat_place s (a + 6 + 28) i) ≡ sat_at t (sat_place t (b + 6 + 28) i)
    sat_same i h =
        let x = sat_place s (a + 6 + 28) i in
        let y = sat_place t (b + 6 + 28) i in
        let ev = even i (omega arith) in
        let near = next_short i h in
        sat (field_at_lem n s a t b same x y (x - a) 9 (omega arith) (omega arith) (omega arith)) (field_even x y 9 4 ev (omega arith))
      where
        sat : {p p' q q' : ℕ} → p ≡ p' → q ≡ q' → ◌≡◌ {A = BiasSat} (record { slot = p; count = pick (eqb p 0) 0 q }) (record { slot = p'; count = pick (eqb p' 0) 0 q' })
        sat e f = rw (e, f)

    bias_same : (i j : ℕ) → i < m → j < (sat_at t (sat_place t (b + 6 + 28) i)).count
        → bias_nth s (sat_place s (a + 6 + 28) i) j ≡ bias_nth t (sat_place t (b + 6 + 28) i) j
    bias_same i j h l =
        let x = sat_place s (a + 6 + 28) i in
        let y = sat_place t (b + 6 + 28) i in
        let ev = even i (omega arith) in
        let near = next_short i h in
        let u = count_under (eqb (field_at t y 9) 0) (field_at t (y + 9) 4) in
        bias
        (field_at_lem n s a t b same (x + 13 + 16 * j) (y + 13 + 16 * j) (x - a + 13 + 16 * j) 4 (omega arith) (omega arith) (omega arith))
        (field_at_lem n s a t b same (x + 13 + 16 * j + 4) (y + 13 + 16 * j + 4) (x - a + 13 + 16 * j + 4) 12 (omega arith) (omega arith) (omega arith))
      where
        bias : {p p' q q' : ℕ} → p ≡ p' → q ≡ q' → ◌≡◌ {A = Bias} (record { mode = p; value = signed_of 12 q }) (record { mode = p'; value = signed_of 12 q' })
        bias e f = rw (e, f)

    sats_same : sats_at s (a + 6 + 28) m ≡ sats_at t (b + 6 + 28) m
    unfolding sats_at
    sats_same =
        table_ext (λ (i : ℕ). sat_at s (sat_place s (a + 6 + 28) i)) (λ (i : ℕ). sat_at t (sat_place t (b + 6 + 28) i)) m (λ i h. sat_same i h)

    biases_same : (i : ℕ) → i ≤ m → biases_at s (a + 6 + 28) i ≡ biases_at t (b + 6 + 28) i
    unfolding biases_at
    biases_same zero h = refl
    biases_same (suc i) h =
        let x = sat_place s (a + 6 + 28) i in
        let y = sat_place t (b + 6 + 28) i in
        ap₂ (λ (p q : List Bias). p ++ q) (biases_same i (omega arith))
        (ap (λ (r : BiasSat). table (bias_nth s x) r.count) (sat_same i h)
        ∙ table_ext (bias_nth s x) (bias_nth t y) (sat_at t y).count (λ j l. bias_same i j h l))

  -- a part that ends within the bits is the same
  abbrev part : List ℕ → List BiasSat → List Bias → BiasPart
  part f ss bs = record { epoch = get_or f 0 0; ssr = get_or f 2 0; count = get_or f 4 0; sats = ss; biases = bs }

  pub biases_part : 34 ≤ n → bias_end t (b + 6) ≤ b + (n - 13) → bias_part_at s (a + 6) ≡ bias_part_at t (b + 6)
  biases_part h short =
      let m = sat_count t (b + 6) in
      let e = count_same h in
      let ss = ap (sats_at s (a + 6 + 28)) e ∙ sats_same m short (omega arith) in
      let bs = ap (biases_at s (a + 6 + 28)) e ∙ biases_same m short (omega arith) m (omega arith) in
      ap₂ (λ (f : List ℕ) (p : List BiasSat). part f p (filled 25 no_bias (biases_at s (a + 6 + 28) (sat_count s (a + 6)))))
      (fields_at_lem n s a t b same (a + 6) (b + 6) 6 (part_widths 0 5) refl refl (omega arith))
      (ap (filled 31 blank_sat) ss)
      ∙ ap (part (fields_at t (b + 6) (part_widths 0 5)) (filled 31 blank_sat (sats_at t (b + 6 + 28) m))) (ap (filled 25 no_bias) bs)

  -- ---- the codes of a type 5 end at bit 456
  abbrev codes : List ℕ → List ℕ → CodePart
  codes f cs = record { epoch = get_or f 0 0; ssr = get_or f 2 0; iodp = get_or f 3 0; sub = get_or f 4 0; codes = cs }

  pub codes_part : 456 ≤ n → code_part_at s (a + 6) ≡ code_part_at t (b + 6)
  unfolding codes_at
  codes_part h =
      ap₂ (λ (f cs : List ℕ). codes f cs)
      (fields_at_lem n s a t b same (a + 6) (b + 6) 6 (part_widths 4 3) refl refl (omega arith))
      (table_ext _ _ 70 (λ i l. field_at_lem n s a t b same (a + 6 + 30 + 6 * i) (b + 6 + 30 + 6 * i) (36 + 6 * i) 6 (omega arith) (omega arith) (omega arith)))
