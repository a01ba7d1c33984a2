-- The rows of the slots that have one, walked in rising slot order. For any row type.
use Rattle.std.specs.Prelude.{ℕ, zero, suc, ◌+◌, ◌-◌, List, [], ◌∷◌, ◌++◌, eqb, length}
use Rattle.std.proofs.Math.Option.{Option, none, some}
use Rattle.bits.specs.Pick.{pick}
use Rattle.lookback.specs.Store.{or_else}

-- what may be there, as a list of one or none
abbrev pub to_list : {A : Type 0} → Option A → List A
to_list (some a) = a ∷ []
to_list none = []

-- the rows of n slots from s on, in rising slot order
unfoldable pub rows_from : {A : Type 0} → (ℕ → Option A) → ℕ → ℕ → List A
rows_from f zero s = []
rows_from f (suc n) s = to_list (f s) ++ rows_from f n (s + 1)

-- 01, Slots and places: the rows of slots 1 to 255
abbrev pub rows : {A : Type 0} → (ℕ → Option A) → List A
rows f = rows_from f 255 1

-- how many of n slots from s on have a row
unfoldable pub count_from : {A : Type 0} → (ℕ → Option A) → ℕ → ℕ → ℕ
count_from f zero s = 0
count_from f (suc n) s = count_from f n (s + 1) + length (to_list (f s))

-- 01, What the ledger keeps: the k-th of some rows, from 1
unfoldable pub nth_of : {A : Type 0} → List A → ℕ → Option A
nth_of [] k = none
nth_of (r ∷ rs) k = pick (eqb k 1) (some r) (nth_of rs (k - 1))

-- the k-th row of n slots from s on, from 1, by a walk over the slots
unfoldable pub nth_row_from : {A : Type 0} → (ℕ → Option A) → ℕ → ℕ → ℕ → Option A
nth_row_from f zero s k = none
nth_row_from f (suc n) s k = or_else (nth_of (to_list (f s)) k) (nth_row_from f n (s + 1) (k - length (to_list (f s))))
