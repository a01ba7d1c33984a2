-- What each answer says: 01's number, and the values beside it.
use Rattle.std.specs.Prelude.{ℕ, List, [], ◌∷◌, eqb, get_or, Result, Ok, Err}
use Rattle.bits.specs.Pick.{pick}
use Rattle.verdict.specs.declared.Refused.{Refused}
use Rattle.verdict.specs.declared.Refusal.{Refusal}
use Rattle.verdict.specs.declared.Refusal.TheVariants.{Number, Parity, Places}

-- 01, Refusal numbers, and 02, CR 1: the number and the values of each verdict; taken says nothing, failing parity groups are 6 with the
-- first and how many, too few places in the mask are 19 with how many are set
abbrev pub says : Result (Unit {0}) Refusal → List ℕ
says (Ok _) = []
says (Err (Number n)) = n ∷ []
says (Err (Parity first failing)) = 6 ∷ first ∷ failing ∷ []
says (Err (Places set)) = 19 ∷ set ∷ []

-- 01, Refusal numbers: the same of what is refused with a number alone
abbrev pub refused_says : Result (Unit {0}) Refused → List ℕ
refused_says (Ok _) = []
refused_says (Err r) = r.0 ∷ []

-- 01, Refusal numbers: the number in what is said, 0 where nothing is
abbrev pub number_in : List ℕ → ℕ
number_in said = get_or said 0 0

-- 01, Refusal numbers: a number answers only itself; 0 is taken
abbrev pub refused_by : ℕ → List ℕ
refused_by n = pick (eqb n 0) [] (n ∷ [])
