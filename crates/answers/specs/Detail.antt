-- 02, CR 1: all that is said of a frame, in one number for C.
use Rattle.std.specs.Prelude.{ℕ, ◌+◌, ◌*◌, List, get_or}
use Rattle.verdict.specs.Verdict.{number_in}

-- the refusal number; for 6 also 256 × the first failing group and 65536 × how many fail; for 19 also 256 × the number of set bits
abbrev pub detail_in : List ℕ → ℕ
detail_in said = number_in said + 256 * get_or said 1 0 + 65536 * get_or said 2 0
