-- The biases of satellites in a row, as they are read: a satellite more.
use mathlib.Core.Path.{◌≡◌, sym, ap, ◌∙◌}
use Prim.Native.Nat.{ℕ, ◌+◌, ◌*◌, ◌≤◌}
use mathlib.Core.List.{List}
use lib.ListN.{length}
use native.Mathlib.Omega.{arith}
use Rattle.biases.specs.Biases.{sat_at, bias_nth, no_bias, sat_place, biases_at, filled, stored}
use Rattle.biases.specs.declared.Bias.{Bias}
use Rattle.biases.proofs.FilledLaws.{stored_filled}
use Rattle.biases.proofs.PlaceLaws.{biases_step, count_near, length_step}

module _ (s : List ℕ) (at i p used n : ℕ) (hp : p ≡ sat_place s at i) (hu : used ≡ length (biases_at s at i)) (hn : n ≡ (sat_at s p).count) where
  pub row_more : (row out : List Bias) → row ≡ filled 25 no_bias (biases_at s at i) → out ≡ stored row used (bias_nth s p) n
      → out ≡ filled 25 no_bias (biases_at s at (i + 1))
  row_more row out hr ho =
      ho
      ∙ rw (hr, hn, hu, hp) (stored_filled 25 no_bias (biases_at s at i) _ _)
      ∙ ap (filled 25 no_bias) (sym (biases_step s at i))

  -- and how many there are
  pub used_more : used + n ≡ length (biases_at s at (i + 1))
  used_more = rw (hn, hu, hp) (sym (length_step s at i))

  pub used_near : used ≤ 15 * i → used + n ≤ 15 * (i + 1)
  used_near h = omega (arith, count_near s p)
