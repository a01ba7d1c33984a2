-- 01, What the ledger keeps: the broadcast list is 255 numbers, entry k for slot k: 0 to 1023, or 65535 for none.
use Rattle.std.specs.Prelude.{ℕ, ◌-◌, Bool, not, ◌&&◌, List, [], ◌∷◌, eqb, ltb, length, get_or}
use Rattle.bits.specs.Some.{any_of, first}

-- 01, 17: an issue is neither 0 to 1023 nor 65535
abbrev pub is_ill : ℕ → List ℕ → Bool
is_ill x rest = ltb 1023 x && not (eqb x 65535)

-- 01, 1 and 17: the lowest that applies to a broadcast list, 0 if none does
unfoldable pub issues_refusal : List ℕ → ℕ
issues_refusal is = first ((1, not (eqb (length is) 255)) ∷ (17, any_of is_ill is) ∷ [])

-- 01: entry k is for slot k
abbrev pub issue_of : List ℕ → ℕ → ℕ
issue_of is slot = get_or is (slot - 1) 0
