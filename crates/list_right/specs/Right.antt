-- Demand 3: what it means that a list is right.
use Rattle.std.specs.Prelude.{ℕ, zero, suc, ◌+◌, ◌≤◌, ◌<◌, ◌≡◌, true, get_or, length}
use mathlib.Core.List.{List, Memᴰ}
use Rattle.bits.specs.Pick.{pick}
use Rattle.row.specs.declared.Row.{Row}
use Rattle.list_right.specs.InForce.{qualifies_after, row_after}

-- how many of the n slots from slot on qualify
unfoldable pub qualifying : ℕ → List (List ℕ) → List ℕ → ℕ → ℕ → ℕ
qualifying prn h is zero slot = 0
qualifying prn h is (suc n) slot = qualifying prn h is n (slot + 1) + pick (qualifies_after prn h is slot) 1 0

-- a slot of which a row is the right one
pub record Serves (prn : ℕ) (h : List (List ℕ)) (is : List ℕ) (r : Row) : Type 0 where
  pub slot : ℕ
  pub low : 1 ≤ slot
  pub high : slot ≤ 255
  pub qualified : qualifies_after prn h is slot ≡ true
  pub row : r ≡ row_after prn h slot

-- demand 3: every slot that qualifies has its row, with the numbers in force; no other row; rising slots, so none twice; the count is theirs
pub record Right (prn : ℕ) (h : List (List ℕ)) (is : List ℕ) (l : List Row) : Type 0 where
  pub every : (slot : ℕ) → 1 ≤ slot → slot ≤ 255 → qualifies_after prn h is slot ≡ true → Memᴰ (row_after prn h slot) l
  pub only : (r : Row) → Memᴰ r l → Serves prn h is r
  pub rising : (i j : ℕ) (d : Row) → i < j → j < length l → (get_or l i d).slot.0 < (get_or l j d).slot.0
  pub counted : length l ≡ qualifying prn h is 255 1
