-- 02, CR 2; 000, section 6.2.4, table 6-4: the part of a type 3, satellites each with its code biases.
use Rattle.std.specs.Prelude.{ℕ, zero, suc, ◌+◌, ◌*◌, List, [], ◌∷◌, ◌++◌, pos, eqb, get_or, set, take, replicate}
use Rattle.bits.specs.Pick.{pick}
use Rattle.bits.specs.Bits.{field_at, fields_at}
use Rattle.bits.specs.Table.{table}
use Rattle.records.specs.Signed.{signed_at}
use Rattle.layout.specs.Layout.{part_widths}
use Rattle.biases.specs.declared.BiasSat.{BiasSat}
use Rattle.biases.specs.declared.Bias.{Bias}
use Rattle.biases.specs.declared.BiasPart.{BiasPart}

-- 000, table 6-4: Sat Slot [9], number of biases [4]
abbrev pub sat_widths : List ℕ
sat_widths = 9 ∷ 4 ∷ []

-- 000, table 6-4: signal and tracking mode [4], bias [12]
abbrev pub bias_widths : List ℕ
bias_widths = 4 ∷ 12 ∷ []

-- 01: a Sat Slot of 0 is a blank, all zero
abbrev pub blank_sat : BiasSat
blank_sat = record { slot = 0; count = 0 }

-- a bias that is not there is all zero
abbrev pub no_bias : Bias
no_bias = record { mode = 0; value = pos 0 }

-- 02: the satellite from bit `at` on; a blank has no biases, whatever its number says
abbrev pub sat_at : List ℕ → ℕ → BiasSat
sat_at s at = record { slot = field_at s at 9; count = pick (eqb (field_at s at 9) 0) 0 (field_at s (at + 9) 4) }

-- the bias from bit `at` on
abbrev pub bias_at : List ℕ → ℕ → Bias
bias_at s at = record { mode = field_at s at 4; value = signed_at 12 s (at + 4) }

-- where the satellite after the one at bit `at` begins: a blank's biases are stepped over too
abbrev pub next_sat : List ℕ → ℕ → ℕ
next_sat s at = at + (13 + 16 * field_at s (at + 9) 4)

-- where satellite i, from 0, begins, the first being at bit `at`
unfoldable pub sat_place : List ℕ → ℕ → ℕ → ℕ
sat_place s at zero = at
sat_place s at (suc i) = next_sat s (sat_place s at i)

-- n satellites in a row
unfoldable pub sats_at : List ℕ → ℕ → ℕ → List BiasSat
sats_at s at n = table (λ (i : ℕ). sat_at s (sat_place s at i)) n

-- bias i, from 0, of the satellite at bit `at`
abbrev pub bias_nth : List ℕ → ℕ → ℕ → Bias
bias_nth s at i = bias_at s (at + 13 + 16 * i)

-- the biases of n satellites in a row, one behind the other; none of a blank
unfoldable pub biases_at : List ℕ → ℕ → ℕ → List Bias
biases_at s at zero = []
biases_at s at (suc n) = biases_at s at n ++ table (bias_nth s (sat_place s at n)) (sat_at s (sat_place s at n)).count

-- the first n of xs, filled up with d
unfoldable pub filled : {A : Type 0} → ℕ → A → List A → List A
filled n d xs = take n (xs ++ replicate n d)

-- xs with f 0, f 1, .. f (n - 1) stored from entry k on; past the end nothing is stored
unfoldable pub stored : {A : Type 0} → List A → ℕ → (ℕ → A) → ℕ → List A
stored xs k f zero = xs
stored xs k f (suc n) = set (stored xs k f n) (k + n) (f n)

-- 000, table 6-4: epoch [17], reserved [4], IOD SSR [2], number of satellites [5]; `at` is the bit after the type
abbrev pub bias_head : List ℕ → ℕ → List ℕ
bias_head s at = fields_at s at (part_widths 0 5)

-- the number of satellites
abbrev pub sat_count : List ℕ → ℕ → ℕ
sat_count s at = get_or (bias_head s at) 4 0

-- the part from bit `at` on: its satellites, and their biases one behind the other
abbrev pub bias_part_at : List ℕ → ℕ → BiasPart
bias_part_at s at =
    record {
      epoch = get_or (bias_head s at) 0 0;
      ssr = get_or (bias_head s at) 2 0;
      count = sat_count s at;
      sats = filled 31 blank_sat (sats_at s (at + 28) (sat_count s at));
      biases = filled 25 no_bias (biases_at s (at + 28) (sat_count s at));
    }

-- the same without its biases: what a verdict looks at
abbrev pub bias_heads_at : List ℕ → ℕ → BiasPart
bias_heads_at s at =
    record {
      epoch = get_or (bias_head s at) 0 0;
      ssr = get_or (bias_head s at) 2 0;
      count = sat_count s at;
      sats = filled 31 blank_sat (sats_at s (at + 28) (sat_count s at));
      biases = table (λ (i : ℕ). no_bias) 25;
    }

-- 02: the bit after the last bias, those of blanks too
abbrev pub bias_end : List ℕ → ℕ → ℕ
bias_end s at = sat_place s (at + 28) (sat_count s at)

-- an absent part is all zero
unfoldable pub no_biases : BiasPart
no_biases =
    record {
      epoch = 0;
      ssr = 0;
      count = 0;
      sats = table (λ (i : ℕ). blank_sat) 31;
      biases = table (λ (i : ℕ). no_bias) 25;
    }
