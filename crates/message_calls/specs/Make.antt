-- The C boundary of 02, CR 9: what the functions that make and check frames answer. No 39: 1 speaks of every length.
use Rattle.std.specs.Prelude.{ℕ, List}
use Rattle.verdict.specs.Verdict.{number_in, refused_by}
use Rattle.making.specs.Make.{make_refusal}
use Rattle.making.specs.Check.{check_says}
use Rattle.answers.specs.Detail.{detail_in}

-- qvd_make_frame: 1, 2, 4, 16; what the room then holds is `Leaves` of making
abbrev pub make_answer : List ℕ → ℕ → ℕ → List ℕ → ℕ
make_answer message prn flags room = number_in (refused_by (make_refusal message prn flags room))

-- qvd_check_frame: 1, 2, 3, 6 with its groups, 38
abbrev pub check_answer : List ℕ → List ℕ → ℕ
check_answer message frame = detail_in (check_says message frame)
