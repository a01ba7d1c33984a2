-- 02, CR 2: the part of a type 3 as it is written: a blank has no biases; satellites past the count, and biases that no satellite has, are zeros.
use Rattle.std.specs.Prelude.{ℕ, zero, suc, ◌+◌, ◌*◌, List, eqb, ltb, get_or}
use Rattle.bits.specs.Pick.{pick}
use Rattle.bits.specs.Table.{table}
use Rattle.biases.specs.Biases.{blank_sat, no_bias}
use Rattle.biases.specs.declared.BiasSat.{BiasSat}
use Rattle.biases.specs.declared.Bias.{Bias}
use Rattle.biases.specs.declared.BiasPart.{BiasPart}

-- 01: satellite i, from 0, of n; past the count, and where its slot is 0, blank: its number of biases is not looked at
abbrev pub canon_sat : ℕ → List BiasSat → ℕ → BiasSat
canon_sat n rs i = pick (ltb i n) (pick (eqb (get_or rs i blank_sat).slot 0) blank_sat (get_or rs i blank_sat)) blank_sat

-- the satellites of a part
unfoldable pub canon_sats : ℕ → List BiasSat → List BiasSat
canon_sats n rs = table (canon_sat n rs) 31

-- how many biases the first n satellites have
unfoldable pub bias_count : List BiasSat → ℕ → ℕ
bias_count rs zero = 0
bias_count rs (suc n) = bias_count rs n + (get_or rs n blank_sat).count

-- bias i, from 0, of n; past them none
abbrev pub canon_bias : ℕ → List Bias → ℕ → Bias
canon_bias n bs i = pick (ltb i n) (get_or bs i no_bias) no_bias

-- the biases of a part: those of the satellites that are not blank, one behind the other
unfoldable pub canon_row : ℕ → List Bias → List Bias
canon_row n bs = table (canon_bias n bs) 25

-- 02: the part as it is written
unfoldable pub canon_biases : BiasPart → BiasPart
canon_biases p =
    record {
      epoch = p.epoch;
      ssr = p.ssr;
      count = p.count;
      sats = canon_sats p.count p.sats;
      biases = canon_row (bias_count (canon_sats p.count p.sats) 31) p.biases;
    }

-- how many bits a canonical part is written in: 28 of its head, 13 for each satellite, 16 for each bias
unfoldable pub bias_bits : BiasPart → ℕ
bias_bits p = 28 + (13 * p.count + 16 * bias_count p.sats 31)
