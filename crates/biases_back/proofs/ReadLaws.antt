-- What is read: it is canonical, it fits, it is written in no more bits than it was read in, and what ends by bit 462 has at most 25 biases.
use mathlib.Core.Path.{◌≡◌, refl, sym, ap, ◌∙◌}
use mathlib.Core.Logic.{dite}
use mathlib.Core.Bool.{true}
use mathlib.Core.List.{List}
use Prim.Native.Nat.{ℕ, zero, suc, ◌+◌, ◌*◌, ◌≤◌, ◌<◌}
use lib.ListN.{get_or, length, length-append, get_or-eq_default}
use native.Mathlib.Decide.{dec_lt, ℕ_discrete}
use native.Mathlib.Omega.{arith}
use borrow.Author.Tests.{lt-ltb, le-ltb, eq-eqb, ne_eqb}
use Rattle.bits.specs.Bits.{field_at, Within}
use Rattle.bits.specs.Table.{table}
use Rattle.bits.proofs.FieldLaws.{field_lt}
use Rattle.bits.proofs.TableLaws.{length_table, get_or_table, table_ext, table_same}
use Rattle.layout.specs.Layout.{part_widths}
use Rattle.biases.specs.Biases.{sat_widths, bias_widths, sat_at, bias_at, bias_nth, blank_sat, no_bias, sat_place, sats_at, biases_at, filled, sat_count, bias_part_at, bias_end}
use Rattle.biases.specs.declared.BiasSat.{BiasSat}
use Rattle.biases.specs.declared.Bias.{Bias}
use Rattle.biases.proofs.FilledLaws.{length_filled, filled_at}
use Rattle.biases.proofs.PlaceLaws.{count_near, length_sats}
use Rattle.canonical_biases.specs.Canon.{canon_sat, canon_sats, bias_count, canon_bias, canon_row, canon_biases, bias_bits}
use Rattle.fitting.proofs.RawBack.{raw_or_read}
use Rattle.fitting.proofs.WithinLaws.{within_fits, all_fits}
use Rattle.bias_writing.specs.Put.{sat_vals, bias_vals, sat_row, bias_row, head_of, biases_fit}
use Rattle.biases_back.proofs.ListLaws.{all_table, all_append, all_filled, count_all}

-- ---- satellites and biases, as they are read, are canonical
-- a satellite of slot 0 has no biases
pub sat_blank : (s : List ℕ) (a : ℕ) → (sat_at s a).slot ≡ 0 → sat_at s a ≡ blank_sat
sat_blank s a e = rw (eq-eqb (field_at s a 9) 0 e) (ap (λ (x : ℕ). record { slot = x; count = 0 }) e)

pub canon_sats_lem : (n : ℕ) (rs : List BiasSat) → length rs ≡ 31 → ((i : ℕ) → (get_or rs i blank_sat).slot ≡ 0 → get_or rs i blank_sat ≡ blank_sat)
    → ((i : ℕ) → n ≤ i → get_or rs i blank_sat ≡ blank_sat) → canon_sats n rs ≡ rs
unfolding canon_sats
canon_sats_lem n rs e b p =
    table_ext (canon_sat n rs) (λ (i : ℕ). get_or rs i blank_sat) 31
    (λ i h.
    dite (dec_lt i n)
    (λ l.
    dite (ℕ_discrete (get_or rs i blank_sat).slot 0)
    (λ z. rw (lt-ltb i n l, eq-eqb (get_or rs i blank_sat).slot 0 z) (sym (b i z)))
    (λ z. rw (lt-ltb i n l, ne_eqb (get_or rs i blank_sat).slot 0 z)))
    (λ l. rw (le-ltb i n (omega arith)) (sym (p i (omega arith)))))
    ∙ table_same rs 31 blank_sat e

pub canon_row_lem : (n : ℕ) (bs : List Bias) → length bs ≡ 25 → ((i : ℕ) → n ≤ i → get_or bs i no_bias ≡ no_bias) → canon_row n bs ≡ bs
unfolding canon_row
canon_row_lem n bs e p =
    table_ext (canon_bias n bs) (λ (i : ℕ). get_or bs i no_bias) 25
    (λ i h.
    dite (dec_lt i n)
    (λ l. rw (lt-ltb i n l))
    (λ l. rw (le-ltb i n (omega arith)) (sym (p i (omega arith)))))
    ∙ table_same bs 25 no_bias e

-- past its end a list that is filled up is d
filled_past : {A : Type 0} (n : ℕ) (d : A) (xs : List A) (i : ℕ) → length xs ≤ i → get_or (filled n d xs) i d ≡ d
filled_past n d xs i h =
    dite (dec_lt i n)
    (λ l. filled_at n d xs i l ∙ get_or-eq_default xs d h)
    (λ l. get_or-eq_default (filled n d xs) d {n = i} (omega (arith, length_filled n d xs)))

-- ---- n satellites in a row from bit `at` on
module _ (s : List ℕ) (at n : ℕ) where
  rows : List BiasSat
  rows = filled 31 blank_sat (sats_at s at n)

  rows_blank : (i : ℕ) → (get_or rows i blank_sat).slot ≡ 0 → get_or rows i blank_sat ≡ blank_sat
  unfolding rows sats_at
  rows_blank =
      all_filled (λ (r : BiasSat). r.slot ≡ 0 → r ≡ blank_sat) blank_sat (λ e. refl) 31 (sats_at s at n)
      (all_table (λ (r : BiasSat). r.slot ≡ 0 → r ≡ blank_sat) blank_sat (λ e. refl) _ n (λ i. sat_blank s (sat_place s at i)))

  rows_past : (i : ℕ) → n ≤ i → get_or rows i blank_sat ≡ blank_sat
  unfolding rows
  rows_past i h = filled_past 31 blank_sat (sats_at s at n) i (omega (arith, length_sats s at n))

  row_at_lem : (i : ℕ) → i < n → n ≤ 31 → get_or rows i blank_sat ≡ sat_at s (sat_place s at i)
  unfolding rows sats_at
  row_at_lem i h l = filled_at 31 blank_sat (sats_at s at n) i (omega arith) ∙ get_or_table _ n i blank_sat h

  -- as many biases as the satellites say
  count_first : (m : ℕ) → m ≤ n → n ≤ 31 → bias_count rows m ≡ length (biases_at s at m)
  unfolding bias_count biases_at
  count_first zero h l = refl
  count_first (suc m) h l =
      rw (count_first m (omega arith) l, row_at_lem m (omega arith) l)
      (sym (length-append (biases_at s at m) _ ∙ ap (λ (k : ℕ). length (biases_at s at m) + k) (length_table _ (sat_at s (sat_place s at m)).count)))

  count_rows : n ≤ 31 → bias_count rows 31 ≡ length (biases_at s at n)
  count_rows l =
      count_all rows n l (λ i h. ap (λ (r : BiasSat). r.count) (rows_past i h)) ∙ count_first n (omega arith) l

  -- each satellite's fields, and each bias's, are within their widths
  rows_within : (i : ℕ) → Within sat_widths (sat_row rows i)
  unfolding rows sats_at
  rows_within =
      all_filled (λ (r : BiasSat). Within sat_widths (sat_vals r)) blank_sat (omega arith, (omega arith, tt)) 31 (sats_at s at n)
      (all_table (λ (r : BiasSat). Within sat_widths (sat_vals r)) blank_sat (omega arith, (omega arith, tt)) _ n
      (λ i. (field_lt s (sat_place s at i) 9, (omega (arith, count_near s (sat_place s at i)), tt))))

  -- satellites and biases end no later than they were read
  place_used : (m : ℕ) → at + (13 * m + 16 * length (biases_at s at m)) ≤ sat_place s at m
  unfolding sat_place biases_at
  place_used zero = omega arith
  place_used (suc m) =
      let a = sat_place s at m in
      let k = (sat_at s a).count in
      let q : k ≤ field_at s (a + 9) 4 =
      dite (ℕ_discrete (field_at s a 9) 0) (λ e. rw (eq-eqb _ 0 e) (omega arith)) (λ ne. rw (ne_eqb _ 0 ne) (omega arith)) in
      omega (arith, place_used m, length-append (biases_at s at m) (table (bias_nth s a) k), length_table (bias_nth s a) k)

  used_near : (m : ℕ) → length (biases_at s at m) ≤ 15 * m
  unfolding biases_at
  used_near zero = omega arith
  used_near (suc m) =
      let a = sat_place s at m in
      let k = (sat_at s a).count in
      omega (arith, used_near m, count_near s a, length-append (biases_at s at m) (table (bias_nth s a) k), length_table (bias_nth s a) k)

bias_within : (s : List ℕ) (a : ℕ) → Within bias_widths (bias_vals (bias_at s a))
bias_within s a = (field_lt s a 4, (rw (raw_or_read 2048 (field_at s (a + 4) 12) (field_lt s (a + 4) 12)) (field_lt s (a + 4) 12), tt))

row_within : (s : List ℕ) (at n i : ℕ) → Within bias_widths (bias_vals (get_or (biases_at s at n) i no_bias))
unfolding biases_at
row_within s at zero i = (omega arith, (omega arith, tt))
row_within s at (suc n) i =
    all_append (λ (b : Bias). Within bias_widths (bias_vals b)) no_bias (omega arith, (omega arith, tt)) (biases_at s at n) _
    (row_within s at n)
    (all_table (λ (b : Bias). Within bias_widths (bias_vals b)) no_bias (omega arith, (omega arith, tt)) _ (sat_at s (sat_place s at n)).count
    (λ j. bias_within s (sat_place s at n + 13 + 16 * j)))
    i

-- ---- the part
module _ (s : List ℕ) (at : ℕ) where
  count_lt : sat_count s at ≤ 31
  count_lt = omega (arith, field_lt s (at + 17 + 4 + 2 + 0) 5)

  -- satellite i as it was read, and how many biases the first m have
  pub sat_of : (i : ℕ) → i < sat_count s at → get_or (bias_part_at s at).sats i blank_sat ≡ sat_at s (sat_place s (at + 28) i)
  unfolding rows
  sat_of i h = row_at_lem s (at + 28) (sat_count s at) i h count_lt

  pub count_of : (m : ℕ) → m ≤ sat_count s at → bias_count (bias_part_at s at).sats m ≡ length (biases_at s (at + 28) m)
  unfolding rows
  count_of m h = count_first s (at + 28) (sat_count s at) m h count_lt

  -- the first m are written in no more bits than they were read in
  pub used_of : (m : ℕ) → at + 28 + (13 * m + 16 * length (biases_at s (at + 28) m)) ≤ sat_place s (at + 28) m
  used_of m = place_used s (at + 28) (sat_count s at) m

  -- how many biases are read
  pub count_read : bias_count (bias_part_at s at).sats 31 ≡ length (biases_at s (at + 28) (sat_count s at))
  unfolding rows
  count_read = count_rows s (at + 28) (sat_count s at) count_lt

  -- 02: what is read is canonical
  pub read_canonical : canon_biases (bias_part_at s at) ≡ bias_part_at s at
  unfolding canon_biases rows
  read_canonical =
      let n = sat_count s at in
      let f = at + 28 in
      let p = bias_part_at s at in
      let a : canon_sats n p.sats ≡ p.sats =
      canon_sats_lem n p.sats (length_filled 31 blank_sat (sats_at s f n)) (rows_blank s f n) (rows_past s f n) in
      let b : canon_row (bias_count p.sats 31) p.biases ≡ p.biases =
      canon_row_lem (bias_count p.sats 31) p.biases (length_filled 25 no_bias (biases_at s f n))
      (λ i h. filled_past 25 no_bias (biases_at s f n) i (omega (arith, count_read))) in
      rw (a, b)

  -- 01, 16: and fits
  pub read_fits : biases_fit (bias_part_at s at) ≡ true
  unfolding biases_fit rows
  read_fits =
      let n = sat_count s at in
      let f = at + 28 in
      rw (
        within_fits (part_widths 0 5) (head_of (bias_part_at s at))
            (field_lt s at 17, (omega arith, (field_lt s (at + 17 + 4) 2, (omega arith, (field_lt s (at + 17 + 4 + 2 + 0) 5, tt))))),
        all_fits sat_widths (sat_row (bias_part_at s at).sats) 31 (λ i h. rows_within s f n i),
        all_fits bias_widths (bias_row (bias_part_at s at).biases) 25
            (λ i h.
            all_filled (λ (b : Bias). Within bias_widths (bias_vals b)) no_bias (omega arith, (omega arith, tt)) 25 (biases_at s f n) (row_within s f n) i),
      )

  -- 02: what is written of it ends no later: blanks' biases are left out
  pub read_bits : at + bias_bits (bias_part_at s at) ≤ bias_end s at
  unfolding bias_bits
  read_bits = omega (arith, count_read, place_used s (at + 28) (sat_count s at) (sat_count s at))

  -- 02: by bit 462 there are at most 25 biases
  pub read_few : 6 ≤ at → bias_end s at ≤ 462 → bias_count (bias_part_at s at).sats 31 ≤ 25
  read_few h l =
      omega (
        arith,
        count_read,
        place_used s (at + 28) (sat_count s at) (sat_count s at),
        used_near s (at + 28) (sat_count s at) (sat_count s at),
      )
