-- The C boundary: the 248 bytes of the fields of subframe 2 of B-CNAV1, eight for each, high byte first, in two's complement.
use Rattle.std.specs.Prelude.{ℕ, ◌/◌, ◌%◌, ◌^◌, List, [], ◌∷◌, ℤ, pos, get_or}
use Rattle.records.specs.Signed.{raw_half}
use Rattle.flat_numbers.specs.Rows.{rows_to}

-- the eight bytes of a number of 64 bits
abbrev pub eight_bytes : ℕ → List ℕ
eight_bytes x =
    x / 2 ^ 56
    ∷ x / 2 ^ 48 % 256
    ∷ x / 2 ^ 40 % 256
    ∷ x / 2 ^ 32 % 256
    ∷ x / 2 ^ 24 % 256
    ∷ x / 2 ^ 16 % 256
    ∷ x / 2 ^ 8 % 256
    ∷ x % 256
    ∷ []

-- field i, from 0
abbrev pub flat_field : List ℤ → ℕ → List ℕ
flat_field fields i = eight_bytes (raw_half (2 ^ 63) (get_or fields i (pos 0)))

-- all 31 fields, in the figure's order
unfoldable pub fields_bytes : List ℤ → List ℕ
fields_bytes fields = rows_to (flat_field fields) 31
