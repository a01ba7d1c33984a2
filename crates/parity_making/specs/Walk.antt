-- 02, CR 9: the parity of 81 message symbols by a walk: each group has two parity symbols, and the groups link all 81 of these in a ring.
use Rattle.std.specs.Prelude.{ℕ, zero, suc, ◌+◌, ◌*◌, List, [], ◌∷◌, bit_xor, slice_index}
use Rattle.bits.specs.Table.{table}
use Rattle.field64.specs.Field.{product}

-- for each turn: the two message symbols of its group, then the factor of each, divided by that of the parity symbol that is found
unfoldable pub links : List ℕ
links =
    0 ∷ 42 ∷ 25 ∷ 11 ∷ 15 ∷ 65 ∷ 28 ∷ 10 ∷ 1 ∷ 50 ∷ 23 ∷ 28 ∷ 40 ∷ 67 ∷ 7 ∷ 30
    ∷ 26 ∷ 59 ∷ 44 ∷ 53 ∷ 14 ∷ 56 ∷ 28 ∷ 10 ∷ 10 ∷ 52 ∷ 44 ∷ 7 ∷ 24 ∷ 69 ∷ 11 ∷ 7
    ∷ 4 ∷ 63 ∷ 23 ∷ 28 ∷ 38 ∷ 80 ∷ 11 ∷ 7 ∷ 19 ∷ 67 ∷ 44 ∷ 7 ∷ 7 ∷ 49 ∷ 25 ∷ 7
    ∷ 20 ∷ 77 ∷ 13 ∷ 11 ∷ 35 ∷ 72 ∷ 29 ∷ 40 ∷ 22 ∷ 60 ∷ 44 ∷ 7 ∷ 5 ∷ 47 ∷ 28 ∷ 10
    ∷ 28 ∷ 69 ∷ 42 ∷ 45 ∷ 37 ∷ 54 ∷ 11 ∷ 7 ∷ 31 ∷ 78 ∷ 29 ∷ 40 ∷ 9 ∷ 60 ∷ 23 ∷ 28
    ∷ 23 ∷ 76 ∷ 29 ∷ 40 ∷ 8 ∷ 46 ∷ 25 ∷ 11 ∷ 13 ∷ 42 ∷ 53 ∷ 24 ∷ 28 ∷ 73 ∷ 21 ∷ 25
    ∷ 30 ∷ 39 ∷ 11 ∷ 7 ∷ 15 ∷ 57 ∷ 44 ∷ 30 ∷ 34 ∷ 51 ∷ 29 ∷ 40 ∷ 2 ∷ 44 ∷ 53 ∷ 24
    ∷ 17 ∷ 64 ∷ 44 ∷ 35 ∷ 0 ∷ 49 ∷ 21 ∷ 25 ∷ 39 ∷ 66 ∷ 45 ∷ 15 ∷ 25 ∷ 58 ∷ 44 ∷ 7
    ∷ 13 ∷ 55 ∷ 7 ∷ 30 ∷ 9 ∷ 51 ∷ 44 ∷ 30 ∷ 26 ∷ 71 ∷ 53 ∷ 24 ∷ 3 ∷ 65 ∷ 23 ∷ 28
    ∷ 37 ∷ 79 ∷ 25 ∷ 7 ∷ 18 ∷ 66 ∷ 42 ∷ 45 ∷ 6 ∷ 48 ∷ 28 ∷ 48 ∷ 19 ∷ 76 ∷ 21 ∷ 25
    ∷ 34 ∷ 74 ∷ 25 ∷ 7 ∷ 21 ∷ 62 ∷ 44 ∷ 30 ∷ 4 ∷ 46 ∷ 53 ∷ 24 ∷ 27 ∷ 71 ∷ 52 ∷ 29
    ∷ 36 ∷ 56 ∷ 15 ∷ 6 ∷ 30 ∷ 80 ∷ 7 ∷ 30 ∷ 11 ∷ 62 ∷ 44 ∷ 53 ∷ 22 ∷ 75 ∷ 15 ∷ 6
    ∷ 7 ∷ 45 ∷ 52 ∷ 29 ∷ 12 ∷ 44 ∷ 44 ∷ 35 ∷ 27 ∷ 72 ∷ 23 ∷ 28 ∷ 32 ∷ 41 ∷ 29 ∷ 40
    ∷ 17 ∷ 59 ∷ 13 ∷ 11 ∷ 33 ∷ 53 ∷ 44 ∷ 35 ∷ 1 ∷ 43 ∷ 45 ∷ 15 ∷ 16 ∷ 63 ∷ 30 ∷ 24
    ∷ 2 ∷ 48 ∷ 44 ∷ 30 ∷ 41 ∷ 68 ∷ 28 ∷ 10 ∷ 24 ∷ 57 ∷ 44 ∷ 30 ∷ 12 ∷ 54 ∷ 28 ∷ 48
    ∷ 11 ∷ 53 ∷ 44 ∷ 53 ∷ 25 ∷ 70 ∷ 7 ∷ 30 ∷ 5 ∷ 64 ∷ 45 ∷ 15 ∷ 36 ∷ 78 ∷ 30 ∷ 24
    ∷ 20 ∷ 68 ∷ 23 ∷ 28 ∷ 8 ∷ 50 ∷ 11 ∷ 7 ∷ 18 ∷ 75 ∷ 44 ∷ 30 ∷ 33 ∷ 73 ∷ 30 ∷ 24
    ∷ 23 ∷ 61 ∷ 13 ∷ 11 ∷ 3 ∷ 45 ∷ 42 ∷ 45 ∷ 29 ∷ 70 ∷ 45 ∷ 15 ∷ 38 ∷ 55 ∷ 11 ∷ 7
    ∷ 32 ∷ 79 ∷ 11 ∷ 7 ∷ 10 ∷ 61 ∷ 45 ∷ 15 ∷ 21 ∷ 77 ∷ 30 ∷ 24 ∷ 6 ∷ 47 ∷ 31 ∷ 44
    ∷ 14 ∷ 43 ∷ 28 ∷ 48 ∷ 29 ∷ 74 ∷ 52 ∷ 29 ∷ 31 ∷ 40 ∷ 44 ∷ 35 ∷ 16 ∷ 58 ∷ 21 ∷ 25
    ∷ 35 ∷ 52 ∷ 28 ∷ 48
    ∷ []

-- for each turn: the factor of the parity symbol that is known, divided by that of the one that is found
unfoldable pub carries : List ℕ
carries =
    7 ∷ 23 ∷ 10 ∷ 44 ∷ 24 ∷ 23 ∷ 30 ∷ 25 ∷ 48 ∷ 13 ∷ 30 ∷ 21 ∷ 7 ∷ 52 ∷ 30 ∷ 23
    ∷ 15 ∷ 13 ∷ 52 ∷ 48 ∷ 52 ∷ 7 ∷ 44 ∷ 7 ∷ 25 ∷ 24 ∷ 52 ∷ 44 ∷ 31 ∷ 7 ∷ 42 ∷ 30
    ∷ 44 ∷ 24 ∷ 44 ∷ 10 ∷ 21 ∷ 15 ∷ 23 ∷ 7 ∷ 21 ∷ 24 ∷ 44 ∷ 40 ∷ 45 ∷ 44 ∷ 24 ∷ 45
    ∷ 40 ∷ 31 ∷ 48 ∷ 52 ∷ 7 ∷ 31 ∷ 6 ∷ 44 ∷ 24 ∷ 23 ∷ 24 ∷ 23 ∷ 24 ∷ 44 ∷ 6 ∷ 44
    ∷ 10 ∷ 13 ∷ 24 ∷ 44 ∷ 7 ∷ 15 ∷ 6 ∷ 25 ∷ 25 ∷ 6 ∷ 44 ∷ 35 ∷ 23 ∷ 40 ∷ 31 ∷ 7
    ∷ 23
    ∷ []

-- for each parity symbol: the turn at which it is found
unfoldable pub turns : List ℕ
turns =
    0 ∷ 54 ∷ 27 ∷ 70 ∷ 43 ∷ 16 ∷ 39 ∷ 12 ∷ 66 ∷ 33 ∷ 6 ∷ 60 ∷ 25 ∷ 79 ∷ 52 ∷ 19
    ∷ 73 ∷ 46 ∷ 77 ∷ 50 ∷ 23 ∷ 8 ∷ 62 ∷ 35 ∷ 21 ∷ 75 ∷ 48 ∷ 37 ∷ 10 ∷ 64 ∷ 41 ∷ 14
    ∷ 68 ∷ 56 ∷ 29 ∷ 2 ∷ 31 ∷ 4 ∷ 58 ∷ 72 ∷ 45 ∷ 18 ∷ 1 ∷ 55 ∷ 28 ∷ 69 ∷ 42 ∷ 15
    ∷ 38 ∷ 11 ∷ 65 ∷ 34 ∷ 7 ∷ 61 ∷ 59 ∷ 32 ∷ 5 ∷ 26 ∷ 80 ∷ 53 ∷ 20 ∷ 74 ∷ 47 ∷ 76
    ∷ 49 ∷ 22 ∷ 9 ∷ 63 ∷ 36 ∷ 57 ∷ 30 ∷ 3 ∷ 51 ∷ 24 ∷ 78 ∷ 67 ∷ 40 ∷ 13 ∷ 17 ∷ 71
    ∷ 44
    ∷ []

-- what the message m adds at turn k
unfoldable pub adds : List ℕ → ℕ → ℕ
adds m k =
    bit_xor
    (product (slice_index links (4 * k + 2)) (slice_index m (slice_index links (4 * k))))
    (product (slice_index links (4 * k + 3)) (slice_index m (slice_index links (4 * k + 1))))

-- the parity symbol after k turns, where the walk starts at x and the message adds d
unfoldable pub walked : List ℕ → List ℕ → ℕ → ℕ → ℕ
walked cs d x zero = x
walked cs d x (suc k) = bit_xor (slice_index d k) (product (slice_index cs k) (walked cs d x k))

-- what the message adds at each turn
unfoldable pub added : List ℕ → List ℕ
added m = table (adds m) 81

-- the symbol that the walk has to start at to come back to it: once around from 0, times a constant
unfoldable pub start_of : List ℕ → List ℕ → ℕ
start_of cs d = product 34 (walked cs d 0 81)

-- the parity symbols along the ring, the first one twice
unfoldable pub ring_of : List ℕ → List ℕ → List ℕ
ring_of cs d = table (walked cs d (start_of cs d)) 82

-- 02, CR 9: the 81 parity symbols, each as the walk finds it
unfoldable pub walked_parity : List ℕ → List ℕ
walked_parity m = table (λ (j : ℕ). slice_index (ring_of carries (added m)) (slice_index turns j)) 81
