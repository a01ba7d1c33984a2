-- Where satellites begin, and how many biases they have.
use mathlib.Core.Path.{◌≡◌, refl, sym, ap, ◌∙◌}
use mathlib.Core.Logic.{dite}
use Prim.Native.Nat.{ℕ, zero, suc, ◌+◌, ◌*◌, ◌/◌, ◌%◌, ◌≤◌}
use mathlib.Core.List.{List, [], ◌∷◌, ◌++◌}
use lib.IntN.{ℤ}
use lib.ListN.{length, length-append}
use native.Mathlib.Decide.{ℕ_discrete}
use native.Mathlib.Numerals.{add-one}
use native.Mathlib.Omega.{arith}
use borrow.Author.Tests.{eq-eqb, ne_eqb}
use Rattle.bits.specs.Bits.{field_at}
use Rattle.bits.specs.Table.{table}
use Rattle.bits.proofs.FieldLaws.{field_lt}
use Rattle.bits.proofs.TableLaws.{length_table}
use Rattle.bits.proofs.WindowLaws.{field_high, field_low}
use Rattle.records.specs.Signed.{signed_of}
use Rattle.biases.specs.declared.BiasSat.{BiasSat}
use Rattle.biases.specs.declared.Bias.{Bias}
use Rattle.biases.specs.Biases.{sat_at, bias_at, bias_nth, next_sat, sat_place, sats_at, biases_at}

-- a satellite has at most 15 biases
pub count_near : (s : List ℕ) (at : ℕ) → (sat_at s at).count ≤ 15
count_near s at =
    dite (ℕ_discrete (field_at s at 9) 0)
    (λ e. rw (eq-eqb _ 0 e) (omega arith))
    (λ ne. rw (ne_eqb _ 0 ne) (omega (arith, field_lt s (at + 9) 4)))

module _ (s : List ℕ) (at : ℕ) where
  pub place_start : at ≡ sat_place s at 0
  unfolding sat_place
  place_start = refl

  pub place_step : (i : ℕ) → next_sat s (sat_place s at i) ≡ sat_place s at (i + 1)
  unfolding sat_place
  place_step i = rw (add-one i)

  -- a satellite takes at most 253 bits
  pub place_near : (i : ℕ) → sat_place s at i ≤ at + 253 * i
  unfolding sat_place
  place_near zero = omega arith
  place_near (suc i) = omega (arith, place_near i, field_lt s (sat_place s at i + 9) 4, count_near s (sat_place s at i))

  pub sats_start : sats_at s at 0 ≡ []
  unfolding sats_at table
  sats_start = refl

  pub sats_step : (i : ℕ) → sats_at s at (i + 1) ≡ sats_at s at i ++ (sat_at s (sat_place s at i) ∷ [])
  unfolding sats_at table
  sats_step i = rw (add-one i)

  pub length_sats : (n : ℕ) → length (sats_at s at n) ≡ n
  unfolding sats_at
  length_sats n = length_table _ n

  pub biases_start : biases_at s at 0 ≡ []
  unfolding biases_at
  biases_start = refl

  pub biases_step : (n : ℕ) → biases_at s at (n + 1) ≡ biases_at s at n ++ table (bias_nth s (sat_place s at n)) (sat_at s (sat_place s at n)).count
  unfolding biases_at
  biases_step n = rw (add-one n)

-- the number of biases, a satellite more
pub length_step : (s : List ℕ) (at n : ℕ) → length (biases_at s at (n + 1)) ≡ length (biases_at s at n) + (sat_at s (sat_place s at n)).count
length_step s at n =
    ap length (biases_step s at n)
    ∙ length-append (biases_at s at n) _
    ∙ ap (λ (k : ℕ). length (biases_at s at n) + k) (length_table _ (sat_at s (sat_place s at n)).count)

-- a satellite's two fields out of the one that is read: a blank, and one with a slot
module _ (s : List ℕ) (at x : ℕ) (e : x ≡ field_at s at 13) where
  slot_in : x / 16 ≡ field_at s at 9
  slot_in = ap (λ (y : ℕ). y / 16) e ∙ field_high s at 9 4

  pub sat_blank : x / 16 ≡ 0 → ◌≡◌ {A = BiasSat} (record { slot = x / 16; count = 0 }) (sat_at s at)
  sat_blank h = rw (slot_in, eq-eqb _ 0 (sym slot_in ∙ h))

  pub sat_named : (x / 16 ≡ 0 → ⊥) → ◌≡◌ {A = BiasSat} (record { slot = x / 16; count = x % 16 }) (sat_at s at)
  sat_named n = rw (slot_in, ne_eqb (field_at s at 9) 0 (λ h. n (slot_in ∙ h)), e, field_low s at 9 4)

-- a bias's two fields out of the one that is read
pub bias_named : (s : List ℕ) (at x : ℕ) (v : ℤ) → x ≡ field_at s at 16 → v ≡ signed_of 12 (x % 4096) → ◌≡◌ {A = Bias} (record { mode = x / 4096; value = v }) (bias_at s at)
bias_named s at x v e q = rw (q, e, field_high s at 4 12, field_low s at 4 12)
