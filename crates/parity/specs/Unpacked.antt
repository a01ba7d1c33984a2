-- The parity check by logarithms of the symbols, which are taken out of the frame once.
use Rattle.std.specs.Prelude.{ℕ, ◌+◌, ◌%◌, Bool, not, List, [], ◌∷◌, ◌++◌, replicate, ◌==◌, bit_xor, slice_index, slice_index_or}
use Rattle.bits.specs.Table.{table}
use Rattle.field64.specs.Padded.{pad_log, pad_logs, pad_powers}
use Rattle.parity.specs.Parity.{symbol_of}
use Rattle.parity_tables.specs.Tables.{positions, factors}

-- the logarithm of symbol k
unfoldable pub symbol_log : List ℕ → ℕ → ℕ
symbol_log frame k = pad_log (symbol_of frame k)

-- the logarithms of the symbols, in fours, and zeros as far as a byte can count
unfoldable pub symbol_logs : List ℕ → List ℕ
symbol_logs frame = table (symbol_log frame) 164 ++ replicate 92 0

-- factor times symbol at a position, by the logarithms ls of the symbols; the sum of two is within a byte
unfoldable pub term_by : List ℕ → List ℕ → List ℕ → ℕ → ℕ → ℕ
term_by log exp ls p f = slice_index exp ((slice_index log f + slice_index ls p) % 256)

-- their sum over a group
unfoldable pub row_by : List ℕ → List ℕ → List ℕ → List ℕ → List ℕ → ℕ
row_by log exp ls [] fs = 0
row_by log exp ls (p ∷ ps) [] = 0
row_by log exp ls (p ∷ ps) (f ∷ fs) = bit_xor (term_by log exp ls p f) (row_by log exp ls ps fs)

-- group g fails
unfoldable pub fails_by_logs : List ℕ → ℕ → Bool
fails_by_logs ls g = not (row_by pad_logs pad_powers ls (slice_index_or positions g []) (slice_index_or factors g []) == 0)
