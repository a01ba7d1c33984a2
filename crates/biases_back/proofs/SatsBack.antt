-- Satellites and their biases are read back as they were put, whatever is put after them.
use mathlib.Core.Path.{◌≡◌, refl, sym, ap, ◌∙◌}
use mathlib.Core.Logic.{dite}
use mathlib.Core.List.{List}
use Prim.Native.Nat.{ℕ, zero, suc, ◌+◌, ◌-◌, ◌*◌, ◌≤◌, ◌<◌}
use lib.ListN.{get_or, length}
use native.Mathlib.Decide.{ℕ_discrete}
use native.Mathlib.Omega.{arith}
use borrow.Author.Tests.{eq-eqb, ne_eqb}
use Rattle.bits.specs.Bits.{field_at, fields_at, Within}
use Rattle.bits.specs.Table.{table}
use Rattle.bits.proofs.TableLaws.{table_ext}
use Rattle.biases.specs.Biases.{sat_widths, bias_widths, sat_at, bias_at, bias_nth, blank_sat, no_bias, next_sat, sat_place, biases_at}
use Rattle.biases.specs.declared.BiasSat.{BiasSat}
use Rattle.biases.specs.declared.Bias.{Bias}
use Rattle.canonical_biases.specs.Canon.{bias_count}
use Rattle.fitting.proofs.RawBack.{raw_back}
use Rattle.fitting.proofs.BesideLaws.{Beside, beside_then, beside_wide}
use Rattle.fitting.proofs.PartBack.{head_back, row_back}
use Rattle.bias_writing.specs.Put.{sat_vals, bias_vals, sat_row, bias_row, sat_put, sat_from, sats_put}
use Rattle.biases_back.proofs.ListLaws.{table_join}
use Rattle.biases_back.proofs.PutLaws.{from_step, from_rises, sats_later}

-- a bias out of its values
bias_back : (t : List ℕ) (a : ℕ) (b : Bias) → Within bias_widths (bias_vals b) → fields_at t a bias_widths ≡ bias_vals b → bias_at t a ≡ b
bias_back t a b w e =
    let m : field_at t a 4 ≡ b.mode = ap (λ (xs : List ℕ). get_or xs 0 0) e in
    let v = ap (λ (xs : List ℕ). get_or xs 1 0) e in
    rw (m, v, raw_back 2048 b.value w.1.0)

-- a satellite out of its values, where one of slot 0 has no biases
sat_back : (t : List ℕ) (a : ℕ) (r : BiasSat) → (r.slot ≡ 0 → r.count ≡ 0) → fields_at t a sat_widths ≡ sat_vals r → sat_at t a ≡ r
sat_back t a r blank e =
    let x : field_at t a 9 ≡ r.slot = ap (λ (xs : List ℕ). get_or xs 0 0) e in
    let n : field_at t (a + 9) 4 ≡ r.count = ap (λ (xs : List ℕ). get_or xs 1 0) e in
    dite (ℕ_discrete r.slot 0)
    (λ z. rw (x, eq-eqb r.slot 0 z) (ap (λ (k : ℕ). record { slot = r.slot; count = k }) (sym (blank z))))
    (λ z. rw (x, ne_eqb r.slot 0 z, n))

-- ---- n satellites put from bit `at` on into s; and t, which has these but for bits from their end up to hi
module _ (s t : List ℕ) (at hi : ℕ) (rs : List BiasSat) (bs : List Bias) (n : ℕ) (room : sat_from at rs n ≤ 8 * length s) (kept : Beside (sat_from at rs n) hi (sats_put s at rs bs n) t) (fr : (i : ℕ) → i < n → Within sat_widths (sat_row rs i)) (fb : (i : ℕ) → Within bias_widths (bias_row bs i)) (blank : (i : ℕ) → (get_or rs i blank_sat).slot ≡ 0 → (get_or rs i blank_sat).count ≡ 0) where
  -- what is put after satellite i
  pub after : (i : ℕ) → i ≤ n → Beside (sat_from at rs i) (sat_from at rs n + hi) (sats_put s at rs bs i) t
  after i h =
      let e : i + (n - i) ≡ n = omega arith in
      let l : sat_from at rs i ≤ sat_from at rs n = rw e at (from_rises at rs i (n - i)) in
      beside_then (sat_from at rs i) (sat_from at rs n + hi) (sats_put s at rs bs i) (sats_put s at rs bs n) t
      (beside_wide (sat_from at rs i) (sat_from at rs n) (sat_from at rs i) (sat_from at rs n + hi) _ _ (omega arith) (omega arith)
      (rw e at (sats_later s at rs bs i (n - i))))
      (beside_wide (sat_from at rs n) hi (sat_from at rs i) (sat_from at rs n + hi) _ _ l (omega arith) kept)

  -- there is room for satellite i
  fits_in : (i : ℕ) → i < n → sat_from at rs (suc i) ≤ 8 * length (sats_put s at rs bs i)
  unfolding sats_put
  fits_in i h =
      let e : suc i + (n - suc i) ≡ n = omega arith in
      let l : sat_from at rs (suc i) ≤ sat_from at rs n = rw e at (from_rises at rs (suc i) (n - suc i)) in
      omega (arith, (sats_later s at rs bs 0 i).long, ap (λ (k : ℕ). length (sats_put s at rs bs k)) (let z : 0 + i ≡ i = omega arith in z))

  sat_end : (i : ℕ) → sat_from at rs (suc i) ≡ sat_from at rs i + 13 + 16 * (get_or rs i blank_sat).count
  sat_end i = omega (arith, from_step at rs i)

  sat_fields : (i : ℕ) → i < n → fields_at t (sat_from at rs i) sat_widths ≡ sat_row rs i
  unfolding sats_put sat_put
  sat_fields i h =
      head_back (sats_put s at rs bs i) t (sats_put s at rs bs (suc i)) (sat_from at rs i) (sat_from at rs i + 13) (sat_from at rs (suc i)) (sat_from at rs n + hi)
      sat_widths (sat_row rs i) bias_widths (λ (j : ℕ). bias_row bs (bias_count rs i + j)) (get_or rs i blank_sat).count refl (sat_end i) (fits_in i h) refl (after (suc i) h) (fr i h)

  bias_fields : (i : ℕ) → i < n → (j : ℕ) → j < (get_or rs i blank_sat).count → fields_at t (sat_from at rs i + 13 + 16 * j) bias_widths ≡ bias_row bs (bias_count rs i + j)
  unfolding sats_put sat_put
  bias_fields i h j l =
      row_back (sats_put s at rs bs i) t (sats_put s at rs bs (suc i)) (sat_from at rs i) (sat_from at rs i + 13) (sat_from at rs (suc i)) (sat_from at rs n + hi)
      sat_widths (sat_row rs i) bias_widths (λ (k : ℕ). bias_row bs (bias_count rs i + k)) (get_or rs i blank_sat).count refl (sat_end i) (fits_in i h) refl (after (suc i) h)
      j l (fb (bias_count rs i + j))

  -- each begins where it was put
  pub place_back : (i : ℕ) → i ≤ n → sat_place t at i ≡ sat_from at rs i
  unfolding sat_place bias_count
  place_back zero h = omega arith
  place_back (suc i) h =
      let e : field_at t (sat_from at rs i + 9) 4 ≡ (get_or rs i blank_sat).count = ap (λ (xs : List ℕ). get_or xs 1 0) (sat_fields i h) in
      ap (next_sat t) (place_back i (omega arith)) ∙ omega (arith, from_step at rs i)

  pub sat_read : (i : ℕ) → i < n → sat_at t (sat_place t at i) ≡ get_or rs i blank_sat
  sat_read i h = ap (sat_at t) (place_back i (omega arith)) ∙ sat_back t (sat_from at rs i) (get_or rs i blank_sat) (blank i) (sat_fields i h)

  -- and its biases are those that were put
  bias_read : (i : ℕ) → i < n → (j : ℕ) → j < (get_or rs i blank_sat).count → bias_nth t (sat_from at rs i) j ≡ get_or bs (bias_count rs i + j) no_bias
  bias_read i h j l = bias_back t (sat_from at rs i + 13 + 16 * j) (get_or bs (bias_count rs i + j) no_bias) (fb (bias_count rs i + j)) (bias_fields i h j l)

  pub biases_read : (m : ℕ) → m ≤ n → biases_at t at m ≡ table (λ (i : ℕ). get_or bs i no_bias) (bias_count rs m)
  unfolding biases_at bias_count table
  biases_read zero h = refl
  biases_read (suc m) h =
      let g : ℕ → Bias = (λ i. get_or bs i no_bias) in
      let k : (sat_at t (sat_place t at m)).count ≡ (get_or rs m blank_sat).count = ap (λ (r : BiasSat). r.count) (sat_read m h) in
      let own : table (bias_nth t (sat_place t at m)) (sat_at t (sat_place t at m)).count ≡ table (λ (j : ℕ). g (bias_count rs m + j)) (get_or rs m blank_sat).count =
      rw (k, place_back m (omega arith)) (table_ext _ _ (get_or rs m blank_sat).count (bias_read m h)) in
      rw (biases_read m (omega arith), own) (table_join g (bias_count rs m) (get_or rs m blank_sat).count)
