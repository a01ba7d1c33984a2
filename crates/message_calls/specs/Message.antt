-- The C boundary: what the calls over messages and frames answer, and what each lent room then holds. 39 before all else; a refusal leaves the room as it was.
use Rattle.std.specs.Prelude.{ℕ, Bool, List, eqb, length}
use Rattle.bits.specs.Pick.{pick}
use Rattle.verdict.specs.Verdict.{number_in, refused_by}
use Rattle.message.specs.Read.{Answer, read_message}
use Rattle.frame.specs.Frame.{read_frame}
use Rattle.writing.specs.Write.{write_refusal, written}
use Rattle.from_flat.specs.Read.{flat_contents_of}
use Rattle.flat_forms.specs.Write.{contents_bytes}
use Rattle.answers.specs.Size.{contents_size}
use Rattle.answers.specs.Sized.{sized}

-- as long as contents
abbrev pub is_contents : List ℕ → Bool
is_contents s = eqb (length s) contents_size

-- 39 where the room is not that of contents, else what the answer says
abbrev pub reading_answer : (List ℕ → ℕ) → Answer → List ℕ → ℕ
reading_answer say r room = sized (is_contents room) (say r.said)

-- 01, Refusal numbers: the contents that are read; on a refusal the room as it was
unfoldable pub reading_room : Answer → List ℕ → List ℕ
reading_room r room = pick (eqb (reading_answer number_in r room) 0) (contents_bytes r.contents) room

-- qvd_read: 39, then the number of the answer
abbrev pub read_answer : List ℕ → List ℕ → ℕ
read_answer m room = reading_answer number_in (read_message m) room

-- what the message says
abbrev pub read_room : List ℕ → List ℕ → List ℕ
read_room m room = reading_room (read_message m) room

-- qvd_read_frame, qvd_read_frame_detail: 39, then what the answer says: its number, or all of it
abbrev pub frame_answer : (List ℕ → ℕ) → List ℕ → List ℕ → ℕ
frame_answer say f room = reading_answer say (read_frame f) room

-- what the frame's message says
abbrev pub frame_room : List ℕ → List ℕ → List ℕ
frame_room f room = reading_room (read_frame f) room

-- qvd_write: 39, then the number of the writing
unfoldable pub write_answer : List ℕ → List ℕ → ℕ
write_answer k room = sized (is_contents k) (number_in (refused_by (write_refusal room (flat_contents_of k))))

-- the message of the contents
unfoldable pub write_room : List ℕ → List ℕ → List ℕ
write_room k room = pick (is_contents k) (written room (flat_contents_of k)) room
