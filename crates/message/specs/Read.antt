-- The answer of reading a message.
use Rattle.std.specs.Prelude.{ℕ, not, List, [], ◌∷◌, eqb, length, Result, Ok, Err}
use Rattle.bits.specs.Pick.{pick}
use Rattle.bits.specs.Bits.{field_at}
use Rattle.bits.specs.Some.{first}
use Rattle.check24.specs.Check.{check_ok}
use Rattle.contents.specs.Parts.{contents_at, no_contents}
use Rattle.judge.specs.Judge.{refusal_at}
use Rattle.contents.specs.declared.parts.Contents.{Contents}
use Rattle.verdict.specs.Verdict.{says, refused_by}
use Rattle.verdict.specs.declared.Refusal.{Refusal}

-- an answer: the number and the values of its verdict, and the contents beside it
pub record Answer : Type 0 where
  pub said : List ℕ
  pub contents : Contents

-- 01, Refusal numbers: the answer that a reading is; a refusal has no contents
abbrev pub reading_says : Result Contents Refusal → Answer
reading_says (Ok c) = record { said = []; contents = c }
reading_says (Err r) = record { said = says (Err r); contents = no_contents }

-- 01: refused with n and nothing else; taken with its contents where n is 0
unfoldable pub answer : ℕ → Contents → Answer
answer n c = record { said = refused_by n; contents = pick (eqb n 0) c no_contents }

-- the message that begins at bit `at`, its check left aside
abbrev pub read_at : List ℕ → ℕ → Answer
read_at s at = answer (refusal_at s at) (contents_at s at)

-- 01: a message of 61 bytes: 1, 2, 7, then 8 to 12
unfoldable pub read_message : List ℕ → Answer
read_message s =
    answer
    (first
    ((1, not (eqb (length s) 61))
    ∷ (2, not (eqb (field_at s 486 2) 0))
    ∷ (7, not (check_ok s 0 462))
    ∷ (refusal_at s 0, not (eqb (refusal_at s 0) 0))
    ∷ []))
    (contents_at s 0)
