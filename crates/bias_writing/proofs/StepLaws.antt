-- A satellite put in two steps, and satellites put in a row, one more at a time.
use mathlib.Core.Path.{◌≡◌, refl}
use mathlib.Core.List.{List}
use Prim.Native.Nat.{ℕ, ◌+◌}
use lib.ListN.{get_or}
use native.Mathlib.Numerals.{add-one}
use Rattle.bits.specs.Bits.{puts_at, put_rows}
use Rattle.biases.specs.Biases.{sat_widths, bias_widths, blank_sat}
use Rattle.biases.specs.declared.BiasSat.{BiasSat}
use Rattle.biases.specs.declared.Bias.{Bias}
use Rattle.canonical_biases.specs.Canon.{bias_count}
use Rattle.fitting.specs.Fits.{eight}
use Rattle.bias_writing.specs.Put.{sat_vals, bias_row, sat_put, sat_from, sats_put}
use Rattle.bias_writing.proofs.EightLaws.{sat_put_lem}

-- its fields, then its biases
pub sat_made : (s t u : List ℕ) (at : ℕ) (r : BiasSat) (bs : List Bias) (k : ℕ) (vs : List ℕ) → vs ≡ eight (sat_vals r) → t ≡ puts_at s at (eight sat_widths) vs
    → u ≡ put_rows t (at + 13) bias_widths (λ (i : ℕ). bias_row bs (k + i)) r.count → u ≡ sat_put s at r bs k
unfolding sat_put
sat_made s t u at r bs k vs e f g = rw (g, f, e, sat_put_lem s at r)

module _ (s : List ℕ) (at : ℕ) (rs : List BiasSat) (bs : List Bias) where
  pub sats_none : s ≡ sats_put s at rs bs 0
  unfolding sats_put
  sats_none = refl

  pub sats_step : (n : ℕ) → sats_put s at rs bs (n + 1) ≡ sat_put (sats_put s at rs bs n) (sat_from at rs n) (get_or rs n blank_sat) bs (bias_count rs n)
  unfolding sats_put
  sats_step n = rw (add-one n)
