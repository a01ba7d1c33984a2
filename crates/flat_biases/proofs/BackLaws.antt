-- Where the bytes of a bias part and a code part stand, they say the parts.
use mathlib.Core.Path.{◌≡◌, refl, ap, ◌∙◌}
use Prim.Native.Nat.{ℕ, ◌+◌, ◌*◌, ◌<◌}
use mathlib.Core.List.{List, ◌++◌}
use lib.ListN.{get_or, length, get_or-append}
use lib.Signed.{mag}
use native.Mathlib.Nat.{zero-add}
use native.Mathlib.Omega.{arith}
use Rattle.bits.specs.Bytes.{row_at}
use Rattle.bits.proofs.ByteLaws.{get_or_row}
use Rattle.bits.proofs.TableLaws.{table_ext, table_same}
use Rattle.lent.proofs.DigitLaws.{pair_back, quad_back}
use Rattle.records.proofs.SignedLaws.{signed_raw}
use Rattle.biases.specs.Biases.{blank_sat, no_bias}
use Rattle.biases.specs.declared.Bias.{Bias}
use Rattle.biases.specs.declared.BiasPart.{BiasPart}
use Rattle.ura_codes.specs.declared.CodePart.{CodePart}
use Rattle.flat_numbers.specs.Rows.{word, rows_to}
use Rattle.flat_numbers.proofs.RowLaws.{right, row_at_lem}
use Rattle.flat_biases.specs.Biases.{flat_sat_row, flat_bias_row, flat_bias_head, biases_bytes, flat_sat_nth, flat_sats_at, flat_bias_nth, flat_biases_at, flat_biases_in}
use Rattle.flat_biases.specs.Codes.{flat_code_head, codes_bytes, flat_codes_in}
use Rattle.flat_biases.proofs.FlatLaws.{sats_long}

-- a bias fits two bytes
abbrev pub BiasFits : Bias → Type 0
BiasFits b = mag b.value < 32768

-- a bias part as the code has it: its arrays have their lengths, its biases fit
pub record BiasesSound (p : BiasPart) : Type 0 where
  pub sats : length p.sats ≡ 31
  pub biases : length p.biases ≡ 25
  pub bias : (i : ℕ) → i < 25 → BiasFits (get_or p.biases i no_bias)

module _ (t : List ℕ) (p : BiasPart) (there : (k at : ℕ) → k < 174 → at ≡ 265 + k → get_or t at 0 ≡ get_or (biases_bytes p) k 0) where
  -- what follows the head
  abbrev rest : List ℕ
  rest = rows_to (flat_sat_row p.sats) 31 ++ rows_to (flat_bias_row p.biases) 25

  head_byte : (k at : ℕ) → k < 6 → at ≡ 265 + k → get_or t at 0 ≡ get_or (flat_bias_head p.epoch p.ssr p.count) k 0
  unfolding biases_bytes
  head_byte k at h e = there k at (omega arith) e ∙ get_or-append (flat_bias_head p.epoch p.ssr p.count) rest 0 k h

  sat_row : (i k at : ℕ) → i < 31 → k < 3 → at ≡ 271 + 3 * i + k → get_or t at 0 ≡ get_or (flat_sat_row p.sats i) k 0
  unfolding biases_bytes
  sat_row i k at h l e =
      there (6 + (3 * i + k)) at (omega arith) (omega arith)
      ∙ right (flat_bias_head p.epoch p.ssr p.count) rest 6 (3 * i + k) _ refl refl
      ∙ get_or-append (rows_to (flat_sat_row p.sats) 31) (rows_to (flat_bias_row p.biases) 25) 0 (3 * i + k) (omega (arith, sats_long p.sats))
      ∙ row_at_lem (flat_sat_row p.sats) 3 (λ j. refl) 31 i k h l

  bias_row : (i k at : ℕ) → i < 25 → k < 3 → at ≡ 364 + 3 * i + k → get_or t at 0 ≡ get_or (flat_bias_row p.biases i) k 0
  unfolding biases_bytes
  bias_row i k at h l e =
      there (6 + (93 + (3 * i + k))) at (omega arith) (omega arith)
      ∙ right (flat_bias_head p.epoch p.ssr p.count) rest 6 (93 + (3 * i + k)) _ refl refl
      ∙ right (rows_to (flat_sat_row p.sats) 31) (rows_to (flat_bias_row p.biases) 25) 93 (3 * i + k) _ (sats_long p.sats) refl
      ∙ row_at_lem (flat_bias_row p.biases) 3 (λ j. refl) 25 i k h l

  -- each record is read as it was written
  sat_nth : (i : ℕ) → i < 31 → flat_sat_nth t i ≡ get_or p.sats i blank_sat
  sat_nth i h =
      let at = 271 + 3 * i in
      rw (
        sat_row i 0 at h (omega arith) (omega arith),
        sat_row i 1 (at + 1) h (omega arith) (omega arith),
        sat_row i 2 (at + 2) h (omega arith) (omega arith),
        pair_back (get_or p.sats i blank_sat).slot,
      )

  bias_nth : (i : ℕ) → i < 25 → BiasFits (get_or p.biases i no_bias) → flat_bias_nth t i ≡ get_or p.biases i no_bias
  bias_nth i h fits =
      let b = get_or p.biases i no_bias in
      let at = 364 + 3 * i in
      rw (
        bias_row i 0 at h (omega arith) (omega arith),
        bias_row i 1 (at + 1) h (omega arith) (omega arith),
        bias_row i 2 (at + 1 + 1) h (omega arith) (omega arith),
        pair_back (word b.value),
        signed_raw 32768 b.value fits,
      )

  sats_same : length p.sats ≡ 31 → flat_sats_at t ≡ p.sats
  unfolding flat_sats_at
  sats_same e = table_ext (flat_sat_nth t) (λ (i : ℕ). get_or p.sats i blank_sat) 31 sat_nth ∙ table_same p.sats 31 blank_sat e

  biases_same : BiasesSound p → flat_biases_at t ≡ p.biases
  unfolding flat_biases_at
  biases_same s =
      table_ext (flat_bias_nth t) (λ (i : ℕ). get_or p.biases i no_bias) 25 (λ i h. bias_nth i h (s.bias i h)) ∙ table_same p.biases 25 no_bias s.biases

  -- the bytes of a bias part say the part
  pub bias_part_back : BiasesSound p → flat_biases_in t ≡ p
  unfolding flat_biases_in
  bias_part_back s =
      rw (
        head_byte 0 265 (omega arith) refl,
        head_byte 1 266 (omega arith) refl,
        head_byte 2 267 (omega arith) refl,
        head_byte 3 268 (omega arith) refl,
        head_byte 4 269 (omega arith) refl,
        head_byte 5 270 (omega arith) refl,
        sats_same s.sats,
        biases_same s,
        quad_back p.epoch,
      )

module _ (t : List ℕ) (u : CodePart) (there : (k at : ℕ) → k < 77 → at ≡ 439 + k → get_or t at 0 ≡ get_or (codes_bytes u) k 0) where
  code_head_byte : (k at : ℕ) → k < 7 → at ≡ 439 + k → get_or t at 0 ≡ get_or (flat_code_head u.epoch u.ssr u.iodp u.sub) k 0
  unfolding codes_bytes
  code_head_byte k at h e = there k at (omega arith) e ∙ get_or-append (flat_code_head u.epoch u.ssr u.iodp u.sub) (row_at u.codes 0 70) 0 k h

  code_byte : (i : ℕ) → i < 70 → get_or t (446 + i) 0 ≡ get_or u.codes i 0
  unfolding codes_bytes
  code_byte i h =
      there (7 + i) (446 + i) (omega arith) (omega arith)
      ∙ right (flat_code_head u.epoch u.ssr u.iodp u.sub) (row_at u.codes 0 70) 7 i (7 + i) refl refl
      ∙ get_or_row u.codes 0 70 i h
      ∙ ap (λ (j : ℕ). get_or u.codes j 0) (zero-add i)

  codes_same : length u.codes ≡ 70 → row_at t 446 70 ≡ u.codes
  unfolding row_at
  codes_same e = table_ext _ (λ (i : ℕ). get_or u.codes i 0) 70 code_byte ∙ table_same u.codes 70 0 e

  -- the bytes of a code part say the part
  pub code_part_back : length u.codes ≡ 70 → flat_codes_in t ≡ u
  unfolding flat_codes_in
  code_part_back e =
      rw (
        code_head_byte 0 439 (omega arith) refl,
        code_head_byte 1 440 (omega arith) refl,
        code_head_byte 2 441 (omega arith) refl,
        code_head_byte 3 442 (omega arith) refl,
        code_head_byte 4 443 (omega arith) refl,
        code_head_byte 5 444 (omega arith) refl,
        code_head_byte 6 445 (omega arith) refl,
        codes_same e,
        quad_back u.epoch,
      )
