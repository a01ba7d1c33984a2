-- 02, CR 12: the bits from slot 175 on stand last, so no assigned place moves.
use Rattle.std.specs.Prelude.{◌≡◌, ℕ, ◌≤◌, Bool, List, take}
use Rattle.slots.specs.Slots.{nth_set}

-- 02, CR 12: where two masks agree on slots 1 to 174, a place that has one of these slots in the one has it in the other
pub record NoPlaceMoves (xs ys : List Bool) : Type 0 where
  pub there : (n : ℕ) → 1 ≤ nth_set xs n → nth_set xs n ≤ 174 → nth_set ys n ≡ nth_set xs n
  pub back : (n : ℕ) → 1 ≤ nth_set ys n → nth_set ys n ≤ 174 → nth_set xs n ≡ nth_set ys n

-- 02, CR 12: for any two such masks
abbrev pub PlacesStay : Type 0
PlacesStay = (xs ys : List Bool) → take 174 xs ≡ take 174 ys → NoPlaceMoves xs ys
