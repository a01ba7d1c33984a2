-- The C boundary: numbers with a sign in two bytes, and records one after the other.
use Rattle.std.specs.Prelude.{ℕ, zero, suc, List, [], ◌++◌, ℤ}
use Rattle.records.specs.Signed.{raw_half}

-- the two bytes' number of a number with its sign
abbrev pub word : ℤ → ℕ
word z = raw_half 32768 z

-- f 0, f 1, .. f (n - 1), one after the other
unfoldable pub rows_to : (ℕ → List ℕ) → ℕ → List ℕ
rows_to f zero = []
rows_to f (suc n) = rows_to f n ++ f n
