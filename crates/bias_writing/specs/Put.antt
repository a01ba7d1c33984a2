-- 02, CR 2: the part of a type 3 written: whether its fields are within their widths, and what is put.
use Rattle.std.specs.Prelude.{ℕ, zero, suc, ◌+◌, ◌*◌, Bool, ◌&&◌, List, [], ◌∷◌, get_or}
use Rattle.bits.specs.Bits.{puts_at, put_rows}
use Rattle.layout.specs.Layout.{part_widths}
use Rattle.biases.specs.Biases.{sat_widths, bias_widths, blank_sat, no_bias}
use Rattle.biases.specs.declared.BiasSat.{BiasSat}
use Rattle.biases.specs.declared.Bias.{Bias}
use Rattle.biases.specs.declared.BiasPart.{BiasPart}
use Rattle.canonical_biases.specs.Canon.{bias_count}
use Rattle.fitting.specs.Fits.{raw_or, head_vals, fits, all_fit}

-- 000, table 6-4: Sat Slot, number of biases
abbrev pub sat_vals : BiasSat → List ℕ
sat_vals r = r.slot ∷ r.count ∷ []

-- 000, table 6-4: signal and tracking mode, bias
abbrev pub bias_vals : Bias → List ℕ
bias_vals b = b.mode ∷ raw_or 2048 b.value ∷ []

-- the values of satellite i
abbrev pub sat_row : List BiasSat → ℕ → List ℕ
sat_row rs i = sat_vals (get_or rs i blank_sat)

-- the values of bias i
abbrev pub bias_row : List Bias → ℕ → List ℕ
bias_row bs i = bias_vals (get_or bs i no_bias)

-- 000, table 6-4: epoch, reserved (zero), IOD SSR, number of satellites
abbrev pub head_of : BiasPart → List ℕ
head_of p = head_vals p.epoch p.ssr 0 p.count

-- 01, 16: every field of a canonical part is within its width
unfoldable pub biases_fit : BiasPart → Bool
biases_fit p = fits (part_widths 0 5) (head_of p) && all_fit sat_widths (sat_row p.sats) 31 && all_fit bias_widths (bias_row p.biases) 25

-- a satellite put from bit `at` on, and its biases behind it: those of bs from entry k on
unfoldable pub sat_put : List ℕ → ℕ → BiasSat → List Bias → ℕ → List ℕ
sat_put s at r bs k = put_rows (puts_at s at sat_widths (sat_vals r)) (at + 13) bias_widths (λ (i : ℕ). bias_row bs (k + i)) r.count

-- where satellite i, from 0, is put, the first being at bit `at`
abbrev pub sat_from : ℕ → List BiasSat → ℕ → ℕ
sat_from at rs i = at + (13 * i + 16 * bias_count rs i)

-- n satellites put in a row from bit `at` on, each with its biases
unfoldable pub sats_put : List ℕ → ℕ → List BiasSat → List Bias → ℕ → List ℕ
sats_put s at rs bs zero = s
sats_put s at rs bs (suc n) = sat_put (sats_put s at rs bs n) (sat_from at rs n) (get_or rs n blank_sat) bs (bias_count rs n)

-- the part put from bit `at` on, the bit after the type
unfoldable pub biases_put : List ℕ → ℕ → BiasPart → List ℕ
biases_put s at p = sats_put (puts_at s at (part_widths 0 5) (head_of p)) (at + 28) p.sats p.biases p.count
