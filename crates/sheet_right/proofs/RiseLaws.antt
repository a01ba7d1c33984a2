-- Rows in rising slot order: each above the one before it, and any above all before it.
use Prim.Native.Nat.{ℕ, zero, suc, ◌<◌}
use mathlib.Core.Bool.{Bool, true, false}
use mathlib.Core.List.{List, [], ◌∷◌}
use native.Mathlib.Nat.{not-suc-le-zero}
use native.Mathlib.Omega.{arith}
use lib.ListN.{get_or, length}
use Rattle.row.specs.declared.Row.{Row}

-- the first is above `before`, and each other above the one before it
abbrev pub Rises : ℕ → List Row → Type 0
Rises before [] = Unit {0}
Rises before (r ∷ rs) = (before < r.slot.0) × Rises r.slot.0 rs

-- any is above all before it
abbrev pub Rising : List Row → Type 0
Rising rs = (i j : ℕ) (d : Row) → i < j → j < length rs → (get_or rs i d).slot.0 < (get_or rs j d).slot.0

-- one by one
pub rises_by : (before : ℕ) (rs : List Row) → ((i : ℕ) (d : Row) → i < length rs → before < (get_or rs i d).slot.0) → Rising rs → Rises before rs
rises_by before [] a o = tt
rises_by before (r ∷ rs) a o =
    (a 0 r (omega arith), rises_by r.slot.0 rs (λ i d l. o 0 (suc i) d (omega arith) (omega arith)) (λ i j d p q. o (suc i) (suc j) d (omega arith) (omega arith)))

-- all of them
pub rises_above : (before : ℕ) (rs : List Row) → Rises before rs → (i : ℕ) (d : Row) → i < length rs → before < (get_or rs i d).slot.0
rises_above before [] o i d l = absurd (not-suc-le-zero l)
rises_above before (r ∷ rs) o zero d l = o.0
rises_above before (r ∷ rs) o (suc i) d l = omega (arith, o.0, rises_above r.slot.0 rs o.1 i d (omega arith))

pub rises_rising : (before : ℕ) (rs : List Row) → Rises before rs → Rising rs
rises_rising before [] o i j d p q = absurd (not-suc-le-zero q)
rises_rising before (r ∷ rs) o zero zero d p q = absurd (not-suc-le-zero p)
rises_rising before (r ∷ rs) o zero (suc j) d p q = rises_above r.slot.0 rs o.1 j d (omega arith)
rises_rising before (r ∷ rs) o (suc i) zero d p q = absurd (not-suc-le-zero p)
rises_rising before (r ∷ rs) o (suc i) (suc j) d p q = rises_rising r.slot.0 rs o.1 i j d (omega arith) (omega arith)

-- rows that rise, where they must
abbrev pub Ordered : Bool → ℕ → List Row → Type 0
Ordered true before rs = Rises before rs
Ordered false before rs = Unit {0}
