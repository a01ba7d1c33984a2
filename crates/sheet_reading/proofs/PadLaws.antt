-- A row's 24 bytes, with 0 for those past the end, say what the sheet says there.
use Prim.Native.Nat.{ℕ, ◌+◌, ◌<◌}
use mathlib.Core.Path.{◌≡◌, ap, ap₂, ◌∙◌}
use mathlib.Core.List.{List}
use native.Mathlib.Omega.{arith}
use lib.ListN.{get_or}
use Rattle.bits.specs.Bytes.{row_at}
use Rattle.bits.proofs.ByteLaws.{get_or_row}
use Rattle.lent.specs.Digits.{pair_of, quad_of, two_at}
use Rattle.records.specs.Signed.{signed_of}
use Rattle.sheet_form.specs.Reading.{value_at, row_said}

module _ (s : List ℕ) (at : ℕ) where
  -- a byte of the row
  byte_padded : (i j : ℕ) → i < 24 → at + i ≡ j → get_or (row_at s at 24) i 0 ≡ get_or s j 0
  byte_padded i j h e = get_or_row s at 24 i h ∙ ap (λ (k : ℕ). get_or s k 0) e

  -- a number of two bytes
  two_padded : (i j : ℕ) → i + 1 < 24 → at + i ≡ j → two_at (row_at s at 24) i ≡ two_at s j
  two_padded i j h e = ap₂ pair_of (byte_padded i j (omega arith) e) (byte_padded (i + 1) (j + 1) h (omega arith))

  -- a value of four
  value_padded : (i j : ℕ) → i + 3 < 24 → at + i ≡ j → value_at (row_at s at 24) i ≡ value_at s j
  value_padded i j h e =
      ap (signed_of 32)
      (ap₂ quad_of (two_padded i j (omega arith) e)
      (ap₂ pair_of (byte_padded (i + 2) (j + 2) (omega arith) (omega arith)) (byte_padded (i + 3) (j + 3) h (omega arith))))

  -- all of the row
  pub said_padded : row_said (row_at s at 24) 0 ≡ row_said s at
  said_padded =
      rw (
        byte_padded 3 (at + 3) (omega arith) (omega arith),
        two_padded 4 (at + 4) (omega arith) (omega arith),
        byte_padded 6 (at + 6) (omega arith) (omega arith),
        value_padded 7 (at + 7) (omega arith) (omega arith),
        value_padded 11 (at + 11) (omega arith) (omega arith),
        value_padded 15 (at + 15) (omega arith) (omega arith),
        value_padded 19 (at + 19) (omega arith) (omega arith),
        byte_padded 23 (at + 23) (omega arith) (omega arith),
      )
