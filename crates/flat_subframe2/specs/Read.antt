-- The C boundary of 02, CR 6: reading a subframe into lent room.
use Rattle.std.specs.Prelude.{ℕ, List, eqb, length}
use Rattle.bits.specs.Pick.{pick}
use Rattle.subframe2.specs.Fields.{fields_of}
use Rattle.subframe2.specs.Read.{subframe2_refusal}
use Rattle.flat_subframe2.specs.Write.{fields_bytes}

-- 39 for a room that is not 248 bytes, before all else; then 02's 35 to 37; 0 if none applies
unfoldable pub fields_refusal : List ℕ → List ℕ → ℕ
fields_refusal room s = pick (eqb (length room) 248) (subframe2_refusal s) 39

-- 02, CR 6: the fields of the subframe; on a refusal the room as it was
abbrev pub fields_into : List ℕ → List ℕ → List ℕ
fields_into room s = pick (eqb (fields_refusal room s) 0) (fields_bytes (fields_of s)) room
