-- The C boundary of 02, CR 4: what the functions over D1 and D2 subframes answer, and what each lent room then holds. No 39: 31 speaks of both lengths.
use Rattle.std.specs.Prelude.{ℕ, List}
use Rattle.d1_subframes.specs.Subframe.{read_refusal, read_into, subframe_write_refusal, written_into}

-- qvd_d1_read: 31 to 34
abbrev pub d1_read_answer : List ℕ → List ℕ → ℕ
d1_read_answer s room = read_refusal room s

-- 02, CR 4: the information bits of the subframe; on a refusal the room as it was
abbrev pub d1_read_room : List ℕ → List ℕ → List ℕ
d1_read_room s room = read_into room s

-- qvd_d1_write: 31 to 34
abbrev pub d1_write_answer : List ℕ → List ℕ → ℕ
d1_write_answer d room = subframe_write_refusal room d

-- 02, CR 4: the subframe of the information bits; on a refusal the room as it was
abbrev pub d1_write_room : List ℕ → List ℕ → List ℕ
d1_write_room d room = written_into room d
