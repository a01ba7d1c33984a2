-- A satellite's and a bias's row filled up to eight with fields of no width, held against its widths and put.
use mathlib.Core.Path.{◌≡◌, refl}
use mathlib.Core.List.{List}
use Prim.Native.Nat.{ℕ}
use Rattle.bits.specs.Bits.{put_at, puts_at}
use Rattle.biases.specs.Biases.{sat_widths, bias_widths}
use Rattle.biases.specs.declared.BiasSat.{BiasSat}
use Rattle.biases.specs.declared.Bias.{Bias}
use Rattle.fitting.specs.Fits.{eight, fits}
use Rattle.bias_writing.specs.Put.{sat_vals, bias_vals}

pub sat_eight : (r : BiasSat) → fits (eight sat_widths) (eight (sat_vals r)) ≡ fits sat_widths (sat_vals r)
unfolding fits
sat_eight r = refl

pub bias_eight : (b : Bias) → fits (eight bias_widths) (eight (bias_vals b)) ≡ fits bias_widths (bias_vals b)
unfolding fits
bias_eight b = refl

pub sat_put_lem : (s : List ℕ) (at : ℕ) (r : BiasSat) → puts_at s at (eight sat_widths) (eight (sat_vals r)) ≡ puts_at s at sat_widths (sat_vals r)
unfolding puts_at put_at
sat_put_lem s at r = refl

pub bias_put : (s : List ℕ) (at : ℕ) (b : Bias) → puts_at s at (eight bias_widths) (eight (bias_vals b)) ≡ puts_at s at bias_widths (bias_vals b)
unfolding puts_at put_at
bias_put s at b = refl
