-- docs/FORM.md: the bits of the mask that a ledger keeps, as lent bytes (bytes 4 to 35), by slot and by place.
use Rattle.std.specs.Prelude.{ℕ, ◌-◌, ◌*◌, Bool, false, not, ◌&&◌, List, eqb, get_or}
use Rattle.contents.specs.Parts.{mask_bits_at}

-- FORM: the bits held, from byte 4 on, slot 1 the high bit of the first (02, CR 13)
abbrev pub bits_at : List ℕ → List Bool
bits_at s = mask_bits_at s (8 * 4)

-- 01: the mask has the bit of a slot; slot 0 has none
abbrev pub bit_at_slot : List Bool → ℕ → Bool
bit_at_slot bits slot = not (eqb slot 0) && get_or bits (slot - 1) false
