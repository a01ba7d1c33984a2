-- The C boundary; 02, CR 2: the bias part of contents, bytes 265 to 438. Numbers are high byte first, biases in two's complement.
use Rattle.std.specs.Prelude.{ℕ, ◌+◌, ◌*◌, ◌/◌, ◌%◌, List, [], ◌∷◌, ◌++◌, get_or}
use Rattle.bits.specs.Table.{table}
use Rattle.lent.specs.Digits.{two_at, four_at}
use Rattle.records.specs.Signed.{signed_half}
use Rattle.flat_numbers.specs.Rows.{word, rows_to}
use Rattle.biases.specs.Biases.{blank_sat, no_bias}
use Rattle.biases.specs.declared.BiasSat.{BiasSat}
use Rattle.biases.specs.declared.Bias.{Bias}
use Rattle.biases.specs.declared.BiasPart.{BiasPart}

-- satellite: slot (2), number of its biases (1)
abbrev pub flat_sat_bytes : BiasSat → List ℕ
flat_sat_bytes r = r.slot / 256 ∷ r.slot % 256 ∷ r.count ∷ []

-- satellite i of a part
abbrev pub flat_sat_row : List BiasSat → ℕ → List ℕ
flat_sat_row rs i = flat_sat_bytes (get_or rs i blank_sat)

-- bias: mode (1), value (2)
abbrev pub flat_bias_bytes : Bias → List ℕ
flat_bias_bytes b = b.mode ∷ word b.value / 256 ∷ word b.value % 256 ∷ []

-- bias i of a part
abbrev pub flat_bias_row : List Bias → ℕ → List ℕ
flat_bias_row bs i = flat_bias_bytes (get_or bs i no_bias)

-- epoch (4), IOD SSR (1), number of satellites (1)
abbrev pub flat_bias_head : ℕ → ℕ → ℕ → List ℕ
flat_bias_head epoch ssr count =
    epoch / 65536 / 256 ∷ epoch / 65536 % 256 ∷ epoch % 65536 / 256 ∷ epoch % 65536 % 256 ∷ ssr ∷ count ∷ []

-- the bias part: 174 bytes
unfoldable pub biases_bytes : BiasPart → List ℕ
biases_bytes p = flat_bias_head p.epoch p.ssr p.count ++ (rows_to (flat_sat_row p.sats) 31 ++ rows_to (flat_bias_row p.biases) 25)

-- the satellite from byte `at` on
abbrev pub flat_sat_at : List ℕ → ℕ → BiasSat
flat_sat_at s at = record { slot = two_at s at; count = get_or s (at + 2) 0 }

-- satellite i of 31, from byte 271 on
abbrev pub flat_sat_nth : List ℕ → ℕ → BiasSat
flat_sat_nth s i = flat_sat_at s (271 + 3 * i)

-- the satellites
unfoldable pub flat_sats_at : List ℕ → List BiasSat
flat_sats_at s = table (flat_sat_nth s) 31

-- the bias from byte `at` on
abbrev pub flat_bias_at : List ℕ → ℕ → Bias
flat_bias_at s at = record { mode = get_or s at 0; value = signed_half 32768 (two_at s (at + 1)) }

-- bias i of 25, from byte 364 on
abbrev pub flat_bias_nth : List ℕ → ℕ → Bias
flat_bias_nth s i = flat_bias_at s (364 + 3 * i)

-- the biases
unfoldable pub flat_biases_at : List ℕ → List Bias
flat_biases_at s = table (flat_bias_nth s) 25

-- the bias part that bytes say
unfoldable pub flat_biases_in : List ℕ → BiasPart
flat_biases_in s = record { epoch = four_at s 265; ssr = get_or s 269 0; count = get_or s 270 0; sats = flat_sats_at s; biases = flat_biases_at s }
