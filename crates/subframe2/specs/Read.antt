-- The answer of reading subframe 2 of B-CNAV1 (02, CR 6): 600 bits in 75 bytes, the fields and then 24 check bits.
use Rattle.std.specs.Prelude.{ℕ, not, List, [], ◌∷◌, eqb, ltb, ℤ, pos, length, replicate, Result, Ok, Err}
use Rattle.bits.specs.Pick.{pick}
use Rattle.bits.specs.Bits.{field_at}
use Rattle.bits.specs.Some.{first}
use Rattle.check24.specs.Check.{check_ok}
use Rattle.verdict.specs.Verdict.{says, refused_by}
use Rattle.subframe2.specs.Fields.{fields_of}
use Rattle.verdict.specs.declared.Refusal.{Refusal}

-- 001, table 7-2: HOW, the hour of the week: the 8 bits after WN
abbrev pub hour_of : List ℕ → ℕ
hour_of s = field_at s 13 8

-- 02, CR 6: the lowest number that applies, 0 if none does
unfoldable pub subframe2_refusal : List ℕ → ℕ
subframe2_refusal s =
    first
    ((35, not (eqb (length s) 75))
    ∷ (36, not (check_ok s 0 576))
    ∷ (37, ltb 167 (hour_of s))
    ∷ [])

-- an answer: the number of its verdict, and the fields beside it
pub record Answer : Type 0 where
  pub said : List ℕ
  pub fields : List ℤ

-- the answer that is given; a refusal has no fields
abbrev pub subframe2_says : Result (List ℤ) Refusal → Answer
subframe2_says (Ok fields) = record { said = []; fields = fields }
subframe2_says (Err r) = record { said = says (Err r); fields = replicate 31 (pos 0) }

-- refused with n, and all fields 0; taken with its fields where n is 0
unfoldable pub answer : ℕ → List ℤ → Answer
answer n fields = record { said = refused_by n; fields = pick (eqb n 0) fields (replicate 31 (pos 0)) }

-- 02, CR 6: what reading any bytes answers
abbrev pub read_subframe2 : List ℕ → Answer
read_subframe2 s = answer (subframe2_refusal s) (fields_of s)
