-- The C boundary of 02, CR 6: what the functions over B-CNAV1 subframes and their issues answer, and what each lent room then holds.
use Rattle.std.specs.Prelude.{ℕ, List}
use Rattle.joining.specs.Join.{join_refusal, joined}
use Rattle.flat_subframe2.specs.Read.{fields_refusal, fields_into}

-- qvd_read_cnav1: 39, then 35 to 37
abbrev pub cnav1_answer : List ℕ → List ℕ → ℕ
cnav1_answer s room = fields_refusal room s

-- 02, CR 6: the fields of the subframe; on a refusal the room as it was
abbrev pub cnav1_room : List ℕ → List ℕ → List ℕ
cnav1_room s room = fields_into room s

-- qvd_join_issue: 1, 11, 17. No 39: 1 speaks of the length
abbrev pub join_answer : List ℕ → ℕ → ℕ → ℕ
join_answer is prn iodc = join_refusal is prn iodc

-- 02, CR 6: the list with the IODC at the slot of the PRN; on a refusal as it was
abbrev pub join_room : List ℕ → ℕ → ℕ → List ℕ
join_room is prn iodc = joined is prn iodc
