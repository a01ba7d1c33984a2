-- The part of a type 3 is read back as it was put, and ends where it was put to end.
use mathlib.Core.Path.{◌≡◌, sym, ap, ◌∙◌}
use mathlib.Core.Logic.{dite}
use mathlib.Core.Bool.{true, ◌&&◌}
use mathlib.Core.List.{List}
use Prim.Native.Nat.{ℕ, ◌+◌, ◌*◌, ◌^◌, ◌≤◌, ◌<◌}
use lib.ListN.{get_or, length, get_or-eq_default}
use lib.Seq.{ext_get_or}
use native.Mathlib.Decide.{dec_lt, ℕ_discrete}
use native.Mathlib.Omega.{arith}
use borrow.Author.Tests.{lt-ltb, le-ltb, eq-eqb}
use Rattle.bits.specs.Bits.{fields_at, puts_at, Within}
use Rattle.bits.specs.Table.{table}
use Rattle.bits.proofs.RowLaws.{fields_puts, length_puts}
use Rattle.bits.proofs.TableLaws.{length_table, get_or_table}
use Rattle.layout.specs.Layout.{part_widths}
use Rattle.biases.specs.Biases.{sat_widths, bias_widths, blank_sat, no_bias, sat_place, sats_at, biases_at, filled, bias_part_at, bias_end}
use Rattle.biases.specs.declared.BiasSat.{BiasSat}
use Rattle.biases.specs.declared.Bias.{Bias}
use Rattle.biases.specs.declared.BiasPart.{BiasPart}
use Rattle.biases.proofs.FilledLaws.{length_filled, filled_at}
use Rattle.biases.proofs.PlaceLaws.{length_sats}
use Rattle.canonical_biases.specs.Canon.{canon_sat, canon_sats, bias_count, canon_row, canon_biases, bias_bits}
use Rattle.fitting.specs.Fits.{fits, all_fit}
use Rattle.fitting.proofs.FitLaws.{and_left, and_right, all_fit_lem}
use Rattle.fitting.proofs.WithinLaws.{fits_within}
use Rattle.fitting.proofs.BesideLaws.{Beside, beside_same, beside_fields}
use Rattle.bias_writing.specs.Put.{sat_row, bias_row, head_of, sat_from, sats_put, biases_fit, biases_put}
use Rattle.biases_back.proofs.ListLaws.{count_all}
use Rattle.biases_back.proofs.PutLaws.{biases_beside}
use Rattle.biases_back.proofs.SatsBack.{after, place_back, sat_read, biases_read}

-- ---- what a canonical part is
module _ (p : BiasPart) (canonical : canon_biases p ≡ p) where
  sats_canon : canon_sats p.count p.sats ≡ p.sats
  unfolding canon_biases
  sats_canon = ap (λ (q : BiasPart). q.sats) canonical

  row_canon : canon_row (bias_count p.sats 31) p.biases ≡ p.biases
  unfolding canon_biases
  row_canon = rw sats_canon at (ap (λ (q : BiasPart). q.biases) canonical)

  long_sats : length p.sats ≡ 31
  unfolding canon_sats
  long_sats = sym (ap length sats_canon) ∙ length_table _ 31

  long_row : length p.biases ≡ 25
  unfolding canon_row
  long_row = sym (ap length row_canon) ∙ length_table _ 25

  sat_canon : (i : ℕ) → i < 31 → get_or p.sats i blank_sat ≡ canon_sat p.count p.sats i
  unfolding canon_sats
  sat_canon i h = sym (ap (λ (l : List BiasSat). get_or l i blank_sat) sats_canon) ∙ get_or_table _ 31 i blank_sat h

  -- satellites past the count are blank
  pub sat_past : (i : ℕ) → p.count ≤ i → get_or p.sats i blank_sat ≡ blank_sat
  sat_past i h =
      dite (dec_lt i 31)
      (λ l. sat_canon i l ∙ rw (le-ltb i p.count h))
      (λ l. get_or-eq_default p.sats blank_sat (omega (arith, long_sats)))

  -- and those of slot 0
  sat_blank : (i : ℕ) → (get_or p.sats i blank_sat).slot ≡ 0 → get_or p.sats i blank_sat ≡ blank_sat
  sat_blank i e =
      dite (dec_lt i p.count)
      (λ l.
      dite (dec_lt i 31)
      (λ k. sat_canon i k ∙ rw (lt-ltb i p.count l, eq-eqb (get_or p.sats i blank_sat).slot 0 e))
      (λ k. get_or-eq_default p.sats blank_sat (omega (arith, long_sats))))
      (λ l. sat_past i (omega arith))

  pub sat_none : (i : ℕ) → (get_or p.sats i blank_sat).slot ≡ 0 → (get_or p.sats i blank_sat).count ≡ 0
  sat_none i e = ap (λ (r : BiasSat). r.count) (sat_blank i e)

  -- biases past those of the satellites are none
  pub bias_past : (i : ℕ) → bias_count p.sats 31 ≤ i → get_or p.biases i no_bias ≡ no_bias
  unfolding canon_row
  bias_past i h =
      dite (dec_lt i 25)
      (λ l.
      sym (ap (λ (b : List Bias). get_or b i no_bias) row_canon)
      ∙ get_or_table _ 25 i no_bias l
      ∙ rw (le-ltb i (bias_count p.sats 31) h))
      (λ l. get_or-eq_default p.biases no_bias (omega (arith, long_row)))

-- ---- what the test of 16 says of it
module _ (p : BiasPart) (fit : biases_fit p ≡ true) where
  pub head_in : Within (part_widths 0 5) (head_of p)
  unfolding biases_fit
  head_in = fits_within (part_widths 0 5) (head_of p) tt (and_left _ _ (and_left _ _ fit))

  pub sat_in : (i : ℕ) → i < 31 → Within sat_widths (sat_row p.sats i)
  unfolding biases_fit
  sat_in i h = fits_within sat_widths (sat_row p.sats i) tt (all_fit_lem sat_widths (sat_row p.sats) 31 (and_right (fits (part_widths 0 5) (head_of p)) _ (and_left _ _ fit)) i h)

  pub bias_in : (i : ℕ) → i < 25 → Within bias_widths (bias_row p.biases i)
  unfolding biases_fit
  bias_in i h = fits_within bias_widths (bias_row p.biases i) tt (all_fit_lem bias_widths (bias_row p.biases) 25 (and_right (fits (part_widths 0 5) (head_of p) && all_fit sat_widths (sat_row p.sats) 31) _ fit) i h)

  pub few_sats : p.count ≤ 31
  few_sats = let h : p.count < 2 ^ 5 = head_in.1.1.1.1.0 in omega arith

-- each bias within its widths, those past the end too
bias_all : (p : BiasPart) → canon_biases p ≡ p → biases_fit p ≡ true → (i : ℕ) → Within bias_widths (bias_row p.biases i)
bias_all p canonical fit i =
    dite (dec_lt i 25)
    (λ l. bias_in p fit i l)
    (λ l. rw (get_or-eq_default p.biases no_bias {n = i} (omega (arith, long_row p canonical))) (omega arith, (omega arith, tt)))

-- ---- where a canonical part that fits is put
module _ (s : List ℕ) (at : ℕ) (p : BiasPart) (canonical : canon_biases p ≡ p) (fit : biases_fit p ≡ true) where
  -- where it ends
  pub put_end : at + bias_bits p ≡ sat_from (at + 28) p.sats p.count
  unfolding bias_bits
  put_end = omega (arith, count_all p.sats p.count (few_sats p fit) (λ i h. ap (λ (r : BiasSat). r.count) (sat_past p canonical i h)))

  -- only bits from `at` up to its end change
  pub put_beside : Beside at (at + bias_bits p) s (biases_put s at p)
  put_beside = rw put_end (biases_beside s at p)

-- ---- the part put into s; and t, which has it but for bits from its end up to hi
module _ (s t : List ℕ) (at hi : ℕ) (p : BiasPart) (canonical : canon_biases p ≡ p) (fit : biases_fit p ≡ true) (room : at + bias_bits p ≤ 8 * length s) (kept : Beside (at + bias_bits p) hi (biases_put s at p) t) where
  head : List ℕ
  head = puts_at s at (part_widths 0 5) (head_of p)

  room_sats : sat_from (at + 28) p.sats p.count ≤ 8 * length head
  unfolding head
  room_sats = omega (arith, put_end s at p canonical fit, length_puts s at (part_widths 0 5) (head_of p))

  kept_sats : Beside (sat_from (at + 28) p.sats p.count) hi (sats_put head (at + 28) p.sats p.biases p.count) t
  unfolding head biases_put
  kept_sats = rw (put_end s at p canonical fit) at kept

  sat_fits : (i : ℕ) → i < p.count → Within sat_widths (sat_row p.sats i)
  sat_fits i h = sat_in p fit i (omega (arith, few_sats p fit))

  head_fields : fields_at t at (part_widths 0 5) ≡ head_of p
  unfolding head sats_put
  head_fields =
      beside_fields _ _ head t at (part_widths 0 5)
      (after head t (at + 28) hi p.sats p.biases p.count room_sats kept_sats sat_fits (bias_all p canonical fit) (sat_none p canonical) 0 (omega arith))
      (omega arith)
      ∙ fields_puts s at (part_widths 0 5) (head_of p) (omega (arith, put_end s at p canonical fit)) (head_in p fit)

  field : (j : ℕ) → get_or (fields_at t at (part_widths 0 5)) j 0 ≡ get_or (head_of p) j 0
  field j = ap (λ (xs : List ℕ). get_or xs j 0) head_fields

  sats_back : filled 31 blank_sat (sats_at t (at + 28) p.count) ≡ p.sats
  unfolding sats_at
  sats_back =
      let n = p.count in
      let xs = sats_at t (at + 28) n in
      ext_get_or blank_sat (filled 31 blank_sat xs) p.sats (omega (arith, length_filled 31 blank_sat xs, long_sats p canonical))
      (λ i h.
      filled_at 31 blank_sat xs i (omega (arith, length_filled 31 blank_sat xs))
      ∙ dite (dec_lt i n)
      (λ l.
      get_or_table _ n i blank_sat l
      ∙ sat_read head t (at + 28) hi p.sats p.biases n room_sats kept_sats sat_fits (bias_all p canonical fit) (sat_none p canonical) i l)
      (λ l. get_or-eq_default xs blank_sat {n = i} (omega (arith, length_sats t (at + 28) n)) ∙ sym (sat_past p canonical i (omega arith))))

  row_back : filled 25 no_bias (biases_at t (at + 28) p.count) ≡ p.biases
  row_back =
      let n = p.count in
      let bs = p.biases in
      let k = bias_count p.sats n in
      let g : ℕ → Bias = (λ i. get_or bs i no_bias) in
      let e : biases_at t (at + 28) n ≡ table g k =
      biases_read head t (at + 28) hi p.sats bs n room_sats kept_sats sat_fits (bias_all p canonical fit) (sat_none p canonical) n (omega arith) in
      let all : bias_count p.sats 31 ≡ k = count_all p.sats n (few_sats p fit) (λ i h. ap (λ (r : BiasSat). r.count) (sat_past p canonical i h)) in
      rw e
      (ext_get_or no_bias (filled 25 no_bias (table g k)) bs (omega (arith, length_filled 25 no_bias (table g k), long_row p canonical))
      (λ i h.
      filled_at 25 no_bias (table g k) i (omega (arith, length_filled 25 no_bias (table g k)))
      ∙ dite (dec_lt i k)
      (λ l. get_or_table g k i no_bias l)
      (λ l. get_or-eq_default (table g k) no_bias {n = i} (omega (arith, length_table g k)) ∙ sym (bias_past p canonical i (omega arith)))))

  -- 02: what was put is read
  pub biases_back : bias_part_at t at ≡ p
  biases_back = rw (field 0, field 2, field 4, sats_back, row_back)

  -- and ends where it was put to end
  pub end_back : bias_end t at ≡ at + bias_bits p
  end_back =
      ap (sat_place t (at + 28)) (field 4)
      ∙ place_back head t (at + 28) hi p.sats p.biases p.count room_sats kept_sats sat_fits (bias_all p canonical fit) (sat_none p canonical) p.count (omega arith)
      ∙ sym (put_end s at p canonical fit)

-- ---- with nothing put after it
module _ (s : List ℕ) (at : ℕ) (p : BiasPart) (canonical : canon_biases p ≡ p) (fit : biases_fit p ≡ true) (room : at + bias_bits p ≤ 8 * length s) where
  pub put_read : bias_part_at (biases_put s at p) at ≡ p
  put_read = biases_back s (biases_put s at p) at 0 p canonical fit room (beside_same _ _ _)

  pub put_ends : bias_end (biases_put s at p) at ≡ at + bias_bits p
  put_ends = end_back s (biases_put s at p) at 0 p canonical fit room (beside_same _ _ _)

-- 02: what is written to end by bit 462 has at most 25 biases
pub put_few : (at : ℕ) (p : BiasPart) → canon_biases p ≡ p → 6 ≤ at → at + bias_bits p ≤ 462 → bias_count p.sats 31 ≤ 25
unfolding bias_bits bias_count
put_few at p canonical h l =
    dite (ℕ_discrete p.count 0)
    (λ e. omega (arith, count_all p.sats 0 (omega arith) (λ i k. ap (λ (r : BiasSat). r.count) (sat_past p canonical i (omega arith)))))
    (λ e. omega arith)
