-- Laws of reading into lent room: the refusals by the room's length, and a room that the fields fill.
use mathlib.Core.Path.{◌≡◌, refl, sym, ◌∙◌}
use mathlib.Core.Logic.{◌≢◌}
use mathlib.Core.List.{List}
use Prim.Native.Nat.{ℕ}
use lib.IntN.{ℤ}
use lib.ListN.{length}
use borrow.Author.Tests.{eq-eqb, ne_eqb}
use Rattle.bits.specs.Bytes.{store_at}
use Rattle.flat_numbers.proofs.StoreLaws.{store_whole}
use Rattle.flat_numbers.proofs.RowLaws.{length_rows}
use Rattle.subframe2.specs.Read.{subframe2_refusal}
use Rattle.flat_subframe2.specs.Write.{flat_field, fields_bytes}
use Rattle.flat_subframe2.specs.Read.{fields_refusal}

module _ (room s : List ℕ) where
  pub size_wrong : length room ≢ 248 → fields_refusal room s ≡ 39
  unfolding fields_refusal
  size_wrong n = rw (ne_eqb _ _ n)

  pub size_right : length room ≡ 248 → fields_refusal room s ≡ subframe2_refusal s
  unfolding fields_refusal
  size_right e = rw (eq-eqb _ _ e)

-- the fields are 248 bytes, and fill a room of as many
pub fields_long : (fields : List ℤ) → length (fields_bytes fields) ≡ 248
unfolding fields_bytes
fields_long fields = length_rows (flat_field fields) 8 (λ i. refl) 31

pub fields_whole : (room : List ℕ) (fields : List ℤ) → length room ≡ 248 → store_at room 0 (fields_bytes fields) ≡ fields_bytes fields
fields_whole room fields e = store_whole room (fields_bytes fields) (e ∙ sym (fields_long fields))
