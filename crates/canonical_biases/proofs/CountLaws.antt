-- How many biases satellites have.
use mathlib.Core.Path.{◌≡◌, refl}
use Prim.Native.Nat.{ℕ, ◌+◌}
use mathlib.Core.List.{List}
use lib.ListN.{get_or}
use native.Mathlib.Numerals.{add-one}
use Rattle.biases.specs.Biases.{blank_sat}
use Rattle.biases.specs.declared.BiasSat.{BiasSat}
use Rattle.canonical_biases.specs.Canon.{bias_count}

module _ (rs : List BiasSat) where
  pub count_none : 0 ≡ bias_count rs 0
  unfolding bias_count
  count_none = refl

  pub count_step : (n : ℕ) → bias_count rs n + (get_or rs n blank_sat).count ≡ bias_count rs (n + 1)
  unfolding bias_count
  count_step n = rw (add-one n)
