-- 02, CR 9: the second half of 000's matrix, and what it means that it has an inverse.
use Rattle.std.specs.Prelude.{ℕ, zero, suc, ◌+◌, ◌<◌, ◌≡◌, List, [], ◌∷◌, eqb, get_or}
use Rattle.std.specs.Int.Bits.{bit_xor}
use Rattle.bits.specs.Pick.{pick}
use Rattle.field64.specs.Field.{product}
use Rattle.parity_tables.specs.Tables.{positions, factors}

-- 01, Parity and check bits: the sum of f 0, f 1, .. f (n - 1) in the field of 64
unfoldable pub sum_to : (ℕ → ℕ) → ℕ → ℕ
sum_to f zero = 0
sum_to f (suc n) = bit_xor (sum_to f n) (f n)

-- 000, section 6.1.3: the factor of a group at position k, 0 where the group has no such position
unfoldable pub factor_at : ℕ → List ℕ → List ℕ → ℕ
factor_at k [] fs = 0
factor_at k (p ∷ ps) [] = 0
factor_at k (p ∷ ps) (f ∷ fs) = bit_xor (pick (eqb p k) f 0) (factor_at k ps fs)

-- 000, section 6.1.3: the matrix, a row for each of the 81 groups and a column for each of the 162 positions
abbrev pub matrix : ℕ → ℕ → ℕ
matrix g k = factor_at k (get_or positions g []) (get_or factors g [])

-- 02, CR 9: its second half, positions 81 to 161
abbrev pub second_half : ℕ → ℕ → ℕ
second_half g j = matrix g (81 + j)

-- 02, CR 9: 1 on the diagonal, else 0
abbrev pub unit : ℕ → ℕ → ℕ
unit i k = pick (eqb i k) 1 0

-- 02, CR 9: entry i, k of the product of two matrices of n rows and n columns
abbrev pub times : ℕ → (ℕ → ℕ → ℕ) → (ℕ → ℕ → ℕ) → ℕ → ℕ → ℕ
times n a b i k = sum_to (λ (j : ℕ). product (a i j) (b j k)) n

-- 02, CR 9: "has an inverse": from the right and from the left the product is 1 on the diagonal, else 0
pub record HasInverse (n : ℕ) (a : ℕ → ℕ → ℕ) : Type 0 where
  pub inverse : ℕ → ℕ → ℕ
  pub right : (i k : ℕ) → i < n → k < n → times n a inverse i k ≡ unit i k
  pub left : (i k : ℕ) → i < n → k < n → times n inverse a i k ≡ unit i k
