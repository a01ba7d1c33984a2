-- The parts of types 3 and 5, written again: each bit is that of the message read, or 0. Biases are written where they were read if no blank has any.
use mathlib.Core.Path.{◌≡◌, refl, sym, ap, ◌∙◌}
use mathlib.Core.Logic.{dite, inl, inr}
use mathlib.Core.List.{List, ◌++◌}
use Prim.Native.Nat.{ℕ, zero, suc, ◌+◌, ◌-◌, ◌*◌, ◌≤◌, ◌<◌}
use lib.ListN.{get_or, length, length-append, get_or-append}
use lib.Seq.{get_or-append-add}
use native.Mathlib.Decide.{ℕ_discrete}
use native.Mathlib.Omega.{arith}
use borrow.Author.Tests.{eq-eqb, ne_eqb}
use Rattle.bits.specs.Bits.{field_at, puts_at}
use Rattle.bits.specs.Table.{table}
use Rattle.bits.proofs.FieldLaws.{field_lt}
use Rattle.bits.proofs.TableLaws.{length_table, get_or_table}
use Rattle.layout.specs.Layout.{part_widths}
use Rattle.biases.specs.Biases.{sat_widths, bias_widths, blank_sat, no_bias, sat_at, bias_at, bias_nth, sat_place, biases_at, sat_count, bias_part_at, bias_end}
use Rattle.biases.specs.declared.BiasSat.{BiasSat}
use Rattle.biases.specs.declared.Bias.{Bias}
use Rattle.biases.proofs.FilledLaws.{filled_at}
use Rattle.canonical_biases.specs.Canon.{bias_count, bias_bits}
use Rattle.ura_codes.specs.Codes.{code_nth, codes_at, code_part_at}
use Rattle.fitting.proofs.RawBack.{raw_or_read}
use Rattle.bias_writing.specs.Put.{sat_vals, bias_vals, bias_row, head_of, sat_put, sat_from, sats_put, biases_put}
use Rattle.biases_back.proofs.ReadLaws.{sat_of, count_of, used_of, count_read, read_few}
use Rattle.code_writing.specs.Codes.{code_widths, code_row, code_head, codes_put}
use Rattle.written_back.proofs.ReadSaid.{Said}
use Rattle.written_back.proofs.UnderLaws.{Under, under_puts, under_rows}

-- ---- URA codes
pub under_codes : (s t : List ℕ) → Under s t → Under s (codes_put t 6 (code_part_at s 6))
unfolding codes_put codes_at
under_codes s t u =
    under_rows s (puts_at t 6 (part_widths 4 3) (code_head (code_part_at s 6))) (6 + 30) code_widths (code_row (codes_at s 36)) 70
    (λ i h. (inl (get_or_table (code_nth s 36) 70 i 0 h), tt))
    (under_puts s t 6 (part_widths 4 3) (code_head (code_part_at s 6)) (inl refl, (inr refl, (inl refl, (inl refl, (inl refl, tt))))) u)

-- ---- a satellite and its biases, put where they were read
bias_said : (s : List ℕ) (a : ℕ) → Said s a bias_widths (bias_vals (bias_at s a))
bias_said s a = (inl refl, (inl (raw_or_read 2048 (field_at s (a + 4) 12) (field_lt s (a + 4) 12)), tt))

sat_under : (s u : List ℕ) (b a : ℕ) (r : BiasSat) (bs : List Bias) (k : ℕ) → b ≡ a → r ≡ sat_at s a → (sat_at s a).count ≡ field_at s (a + 9) 4
    → ((i : ℕ) → i < (sat_at s a).count → get_or bs (k + i) no_bias ≡ bias_nth s a i) → Under s u → Under s (sat_put u b r bs k)
unfolding sat_put
sat_under s u b a r bs k e f g h v =
    let q = sat_at s a in
    rw (e, f)
    (under_rows s (puts_at u a sat_widths (sat_vals q)) (a + 13) bias_widths (λ (i : ℕ). bias_row bs (k + i)) q.count
    (λ i l. rw (h i l) (bias_said s (a + 13 + 16 * i)))
    (under_puts s u a sat_widths (sat_vals q) (inl refl, (inl g, tt)) v))

-- ---- the biases of the first m satellites are the first of all
front : (s : List ℕ) (at n m j : ℕ) → m ≤ n → j < length (biases_at s at m) → (j < length (biases_at s at n)) × (get_or (biases_at s at n) j no_bias ≡ get_or (biases_at s at m) j no_bias)
unfolding biases_at
front s at zero m j h l = let e : m ≡ 0 = omega arith in (rw e at l, ap (λ (x : ℕ). get_or (biases_at s at x) j no_bias) (sym e))
front s at (suc n) m j h l =
    dite (ℕ_discrete m (suc n))
    (λ e. (rw e at l, ap (λ (x : ℕ). get_or (biases_at s at x) j no_bias) (sym e)))
    (λ ne.
    let p = front s at n m j (omega arith) l in
    let more = table (bias_nth s (sat_place s at n)) (sat_at s (sat_place s at n)).count in
    (omega (arith, p.0, length-append (biases_at s at n) more), get_or-append (biases_at s at n) more no_bias j p.0 ∙ p.1))

-- ---- a part that would be written in the bits it was read in
module _ (s : List ℕ) (same : 6 + bias_bits (bias_part_at s 6) ≡ bias_end s 6) (short : bias_end s 6 ≤ 462) where
  abbrev used : ℕ → ℕ
  used m = length (biases_at s 34 m)

  -- so is each of its satellites
  step_down : (m : ℕ) → sat_place s 34 (suc m) ≡ 34 + (13 * suc m + 16 * used (suc m))
      → (sat_place s 34 m ≡ 34 + (13 * m + 16 * used m)) × ((sat_at s (sat_place s 34 m)).count ≡ field_at s (sat_place s 34 m + 9) 4)
  unfolding sat_place biases_at
  step_down m e =
      let a = sat_place s 34 m in
      let k = (sat_at s a).count in
      let under : k ≤ field_at s (a + 9) 4 = dite (ℕ_discrete (field_at s a 9) 0) (λ z. rw (eq-eqb (field_at s a 9) 0 z) (omega arith)) (λ z. rw (ne_eqb (field_at s a 9) 0 z) (omega arith)) in
      let len : length (biases_at s 34 m ++ table (bias_nth s a) k) ≡ used m + k = length-append (biases_at s 34 m) (table (bias_nth s a) k) ∙ ap (λ (x : ℕ). used m + x) (length_table (bias_nth s a) k) in
      let no_less = used_of s 6 m in
      (omega arith, omega arith)

  at_end : sat_place s 34 (sat_count s 6) ≡ 34 + (13 * sat_count s 6 + 16 * used (sat_count s 6))
  unfolding bias_bits
  at_end = omega (arith, count_read s 6, same)

  exact : (k m : ℕ) → m + k ≡ sat_count s 6 → sat_place s 34 m ≡ 34 + (13 * m + 16 * used m)
  exact zero m e = let q : m ≡ sat_count s 6 = omega arith in rw q at_end
  exact (suc k) m e = (step_down m (exact k (suc m) (omega arith))).0

  whole : (k m : ℕ) → suc m + k ≡ sat_count s 6 → (sat_at s (sat_place s 34 m)).count ≡ field_at s (sat_place s 34 m + 9) 4
  whole k m e = (step_down m (exact k (suc m) e)).1

  -- bias i of satellite m
  bias_of : (m i : ℕ) → m < sat_count s 6 → i < (sat_at s (sat_place s 34 m)).count → get_or (bias_part_at s 6).biases (used m + i) no_bias ≡ bias_nth s (sat_place s 34 m) i
  unfolding biases_at
  bias_of m i h l =
      let n = sat_count s 6 in
      let a = sat_place s 34 m in
      let more = table (bias_nth s a) (sat_at s a).count in
      let p = front s 34 n (suc m) (used m + i) h (omega (arith, length-append (biases_at s 34 m) more, length_table (bias_nth s a) (sat_at s a).count)) in
      filled_at 25 no_bias (biases_at s 34 n) (used m + i) (omega (arith, p.0, count_read s 6, read_few s 6 (omega arith) short))
      ∙ p.1
      ∙ get_or-append-add (biases_at s 34 m) more i no_bias
      ∙ get_or_table (bias_nth s a) (sat_at s a).count i no_bias l

  under_sats : (t : List ℕ) (m : ℕ) → m ≤ sat_count s 6 → Under s t → Under s (sats_put t 34 (bias_part_at s 6).sats (bias_part_at s 6).biases m)
  unfolding sats_put
  under_sats t zero h u = u
  under_sats t (suc m) h u =
      let p = bias_part_at s 6 in
      let c = count_of s 6 m (omega arith) in
      let place : sat_from 34 p.sats m ≡ sat_place s 34 m = omega (arith, c, exact (sat_count s 6 - m) m (omega arith)) in
      sat_under s (sats_put t 34 p.sats p.biases m) (sat_from 34 p.sats m) (sat_place s 34 m) (get_or p.sats m blank_sat) p.biases (bias_count p.sats m)
      place (sat_of s 6 m h) (whole (sat_count s 6 - suc m) m (omega arith)) (λ i l. rw c (bias_of m i h l)) (under_sats t m (omega arith) u)

  pub under_biases : (t : List ℕ) → Under s t → Under s (biases_put t 6 (bias_part_at s 6))
  unfolding biases_put
  under_biases t u =
      let p = bias_part_at s 6 in
      under_sats (puts_at t 6 (part_widths 0 5) (head_of p)) (sat_count s 6) (omega arith)
      (under_puts s t 6 (part_widths 0 5) (head_of p) (inl refl, (inr refl, (inl refl, (inr refl, (inl refl, tt))))) u)
