-- Demand 2: every content within its limits can be written; reading it back gives that content, with blank records and absent parts as zeros.
use Rattle.std.specs.Prelude.{ℕ, ◌≡◌, List, length, Ok}
use Rattle.verdict.specs.Verdict.{says, refused_by}
use Rattle.message.specs.Read.{Answer, read_message}
use Rattle.canonical.specs.Canon.{canon}
use Rattle.writing.specs.Write.{write_refusal, written}
use Rattle.contents.specs.declared.parts.Contents.{Contents}
use Rattle.written_back.specs.Limits.{Limits}

-- 01, Refusal numbers: nothing is refused, and these are the contents
abbrev pub taken_with : Contents → Answer
taken_with c = record { said = says (Ok tt); contents = c }

-- demand 2, of a room and contents: the writer takes them, and what then stands in the room is read as these contents, with blank records and absent parts as zeros
pub record WrittenAndRead (room : List ℕ) (c : Contents) : Type 0 where
  pub taken : refused_by (write_refusal room c) ≡ says (Ok tt)
  pub back : read_message (written room c) ≡ taken_with (canon c)

-- demand 2: so it is with every room of 61 bytes and all contents within their limits; fields that are not written are not looked at
abbrev pub Demand2 : Type 0
Demand2 = (room : List ℕ) (c : Contents) → length room ≡ 61 → Limits (canon c) → WrittenAndRead room c
