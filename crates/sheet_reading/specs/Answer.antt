-- 02, CR 7: what the reader of a sheet answers.
use Rattle.std.specs.Prelude.{ℕ, Bool, List, [], ◌∷◌, Result, Ok, Err}
use Rattle.std.proofs.Math.Option.{Option, none, some}
use Rattle.sheet_form.specs.Reading.{wrong_at, header_said}
use Rattle.sheet_form.specs.declared.Header.{Header}
use Rattle.sheet_reading.specs.declared.Wrong.{Wrong}

-- 02, CR 7: the number and the values of each answer; a sheet that is read says nothing but its header, another is 23 with the offset
abbrev pub read_says : Result Header Wrong → List ℕ × Option Header
read_says (Ok h) = ([], some h)
read_says (Err w) = (23 ∷ w.0 ∷ [], none)

-- 23 with the offset, or the header
abbrev pub said_of : List ℕ → Option ℕ → List ℕ × Option Header
said_of s (some at) = (23 ∷ at ∷ [], none)
said_of s none = ([], some (header_said s))

-- 02, CR 7: the answer for a sheet of at most `limit` rows, in rising slot order or in any
unfoldable pub read_answer : ℕ → Bool → List ℕ → List ℕ × Option Header
read_answer limit rising s = said_of s (wrong_at limit rising s)
