-- Whether some element of a list has a property, and the first number of a table of conditions.
use Rattle.std.specs.Prelude.{ℕ, Bool, false, ◌||◌, List, [], ◌∷◌}
use Rattle.bits.specs.Pick.{pick}

-- p holds of some element with the elements that follow it
unfoldable pub any_of : {A : Type 0} → (A → List A → Bool) → List A → Bool
any_of p [] = false
any_of p (x ∷ xs) = p x xs || any_of p xs

-- 01, Refusal numbers: the first number whose condition holds, 0 if none does
abbrev pub first : List (ℕ × Bool) → ℕ
first [] = 0
first (r ∷ rs) = pick r.1 r.0 (first rs)
