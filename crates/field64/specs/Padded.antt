-- The field's product by logarithms with no test (02, CR 5): zero has a logarithm past all others, and the powers go on as far as two logarithms reach.
use Rattle.std.specs.Prelude.{ℕ, ◌%◌, List, eqb, ltb}
use Rattle.bits.specs.Pick.{pick}
use Rattle.bits.specs.Table.{table}
use Rattle.field64.specs.Logarithms.{power, log_from}

-- the exponent of a number's six low digits; 126 for zero
unfoldable pub pad_log : ℕ → ℕ
pad_log a = pick (eqb (a % 64) 0) 126 (log_from (a % 64) 1 0 63)

-- x to the power n below 126, and zero from there on
unfoldable pub pad_power : ℕ → ℕ
pad_power n = pick (ltb n 126) (power n) 0

-- the table for every byte
unfoldable pub pad_logs : List ℕ
pad_logs = table pad_log 256

-- the table for the sum of any two exponents, which is within a byte
unfoldable pub pad_powers : List ℕ
pad_powers = table pad_power 256
