-- The fields of the orbit record out of the two that are read: the first 22 bits, and the other 47.
use mathlib.Core.Path.{◌≡◌, ap, ◌∙◌}
use Prim.Native.Nat.{ℕ, ◌+◌, ◌*◌, ◌/◌, ◌%◌, ◌^◌}
use mathlib.Core.List.{List}
use native.Mathlib.Omega.{arith}
use Rattle.bits.specs.Bits.{field_at}
use Rattle.bits.proofs.WindowLaws.{field_high, field_low, field_part}
use Rattle.ura.proofs.UraLaws.{code_at}

module _ (s : List ℕ) (at : ℕ) where
  moved : (i j n : ℕ) → i ≡ j → field_at s i n ≡ field_at s j n
  moved i j n e = ap (λ (k : ℕ). field_at s k n) e

  pub slot_in : field_at s at 22 / 2 ^ 13 ≡ field_at s at 9
  slot_in = field_high s at 9 13

  pub iodn_in : field_at s at 22 / 2 ^ 3 % 2 ^ 10 ≡ field_at s (at + 9) 10
  iodn_in = field_part s at 9 10 3

  pub corr_in : field_at s at 22 % 2 ^ 3 ≡ field_at s (at + 9 + 10) 3
  corr_in = field_low s at 19 3 ∙ moved _ (at + 9 + 10) 3 (omega arith)

  pub radial_in : field_at s (at + 22) 47 / 2 ^ 32 ≡ field_at s (at + 9 + 10 + 3) 15
  radial_in = field_high s (at + 22) 15 32 ∙ moved _ (at + 9 + 10 + 3) 15 (omega arith)

  pub along_in : field_at s (at + 22) 47 / 2 ^ 19 % 2 ^ 13 ≡ field_at s (at + 9 + 10 + 3 + 15) 13
  along_in = field_part s (at + 22) 15 13 19 ∙ moved _ (at + 9 + 10 + 3 + 15) 13 (omega arith)

  pub cross_in : field_at s (at + 22) 47 / 2 ^ 6 % 2 ^ 13 ≡ field_at s (at + 9 + 10 + 3 + 15 + 13) 13
  cross_in = field_part s (at + 22) 28 13 6 ∙ moved _ (at + 9 + 10 + 3 + 15 + 13) 13 (omega arith)

  -- class and value side by side are the code
  pub code_in : field_at s (at + 22) 47 % 2 ^ 6 ≡ 8 * field_at s (at + 9 + 10 + 3 + 15 + 13 + 13) 3 + field_at s (at + 9 + 10 + 3 + 15 + 13 + 13 + 3) 3
  code_in =
      field_low s (at + 22) 41 6
      ∙ moved _ (at + 9 + 10 + 3 + 15 + 13 + 13) 6 (omega arith)
      ∙ code_at s (at + 9 + 10 + 3 + 15 + 13 + 13)
