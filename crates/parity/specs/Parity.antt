-- The parity check of a frame (01, Parity and check bits): 81 groups of four symbols.
use Rattle.std.specs.Prelude.{ℕ, zero, suc, ◌+◌, ◌*◌, Bool, true, not, ◌&&◌, List, [], ◌∷◌, ◌==◌, bit_xor, slice_index_or}
use Rattle.bits.specs.Bits.{field_at}
use Rattle.bits.specs.Pick.{pick}
use Rattle.field64.specs.Field.{product}
use Rattle.parity_tables.specs.Tables.{positions, factors}
use Rattle.parity.specs.declared.Groups.{Groups}

-- 01, What arrives: symbol k, from 0, of the coded part, which begins at bit 28: six bits, high bit first
unfoldable pub symbol_of : List ℕ → ℕ → ℕ
symbol_of frame k = field_at frame (28 + 6 * k) 6

-- 01, Parity and check bits: a group's sum of factor times symbol at the position
unfoldable pub row_sum : List ℕ → List ℕ → List ℕ → ℕ
row_sum frame [] fs = 0
row_sum frame (p ∷ ps) [] = 0
row_sum frame (p ∷ ps) (f ∷ fs) = bit_xor (product f (symbol_of frame p)) (row_sum frame ps fs)

-- 01, Parity and check bits: the sum is zero in each of n groups from group g on; groups pair by their place in print
unfoldable pub zero_from : List ℕ → ℕ → ℕ → Bool
zero_from frame g zero = true
zero_from frame g (suc n) = row_sum frame (slice_index_or positions g []) (slice_index_or factors g []) == 0 && zero_from frame (g + 1) n

-- 01, Parity and check bits: in each of the 81 groups the sum is zero
unfoldable pub parity_ok : List ℕ → Bool
parity_ok frame = zero_from frame 0 81

-- 02, CR 1: group g, from 0, fails: its sum is not zero
unfoldable pub group_fails : List ℕ → ℕ → Bool
group_fails frame g = not (row_sum frame (slice_index_or positions g []) (slice_index_or factors g []) == 0)

-- 02, CR 1: the first failing group among n groups from group g on, counted from 1; 0 if none fails
unfoldable pub first_from : List ℕ → ℕ → ℕ → ℕ
first_from frame g zero = 0
first_from frame g (suc n) = pick (group_fails frame g) (g + 1) (first_from frame (g + 1) n)

-- 02, CR 1: how many fail among n groups from group g on
unfoldable pub failing_from : List ℕ → ℕ → ℕ → ℕ
failing_from frame g zero = 0
failing_from frame g (suc n) = failing_from frame (g + 1) n + pick (group_fails frame g) 1 0

-- 02, CR 1: the first failing group (1 to 81) and how many of the 81 fail; both 0 if none fails
unfoldable pub failed_groups : List ℕ → Groups
failed_groups frame = record { first = first_from frame 0 81; failing = failing_from frame 0 81 }
