-- 02, CR 13: the mask in 32 bytes is equal to the old form for every mask and every place.
use Rattle.std.specs.Prelude.{◌≡◌, ℕ, zero, suc, ◌+◌, ◌*◌, Bool, false, List, eqb, get_or, length}
use Rattle.bits.specs.Bits.{bit_at}
use Rattle.bits.specs.Pick.{pick}
use Rattle.bits.specs.Table.{table}
use Rattle.contents.specs.Parts.{bits_of}
use Rattle.contents.specs.declared.parts.MaskPart.{MaskPart}
use Rattle.slots.specs.Slots.{set_count, nth_set}
use Rattle.mask_bits.specs.Bits.{bit_at_slot}
use Rattle.held_mask.specs.Size.{size}
use Rattle.held_mask.specs.Mask.{mask_at, put_mask}

-- the old form: a byte a slot, from slot 1 on, 1 if the bit is set
unfoldable pub old_bits : List ℕ → List Bool
old_bits bytes = table (λ (i : ℕ). eqb (get_or bytes i 0) 1) 255

-- the number that n bits say, the first the highest
unfoldable pub number_of : (ℕ → Bool) → ℕ → ℕ
number_of bit zero = 0
number_of bit (suc n) = 2 * number_of bit n + pick (bit n) 1 0

-- 02, CR 13: bit i of byte j, both from 0: slot 1 is the high bit of the first; past the 255 bits, 0
abbrev pub slot_bit : List Bool → ℕ → ℕ → Bool
slot_bit bits j i = get_or bits (8 * j + i) false

-- 02, CR 13: the 32 bytes
unfoldable pub packed : List Bool → List ℕ
packed bits = table (λ (j : ℕ). number_of (slot_bit bits j) 8) 32

-- 02, CR 13: a mask in the old form, its bits packed into 32 bytes
pub record SameAsOldForm (old : List ℕ) : Type 0 where
  pub long : length (packed (old_bits old)) ≡ 32
  pub last : bit_at (packed (old_bits old)) 255 ≡ 0
  pub bits : bits_of (packed (old_bits old)) ≡ old_bits old
  pub slot : (n : ℕ) → bit_at_slot (bits_of (packed (old_bits old))) n ≡ bit_at_slot (old_bits old) n
  pub place : (n : ℕ) → nth_set (bits_of (packed (old_bits old))) n ≡ nth_set (old_bits old) n
  pub count : set_count (bits_of (packed (old_bits old))) ≡ set_count (old_bits old)
  pub kept : (s : List ℕ) (m : MaskPart) → length s ≡ size → m.bytes ≡ packed (old_bits old) → (n : ℕ) → nth_set (mask_at (put_mask s m)).bits n ≡ nth_set (old_bits old) n

-- 02, CR 13: every list of 255 bits is that of a mask in the old form, and any bytes are a mask in the old form
pub record OldForm : Type 0 where
  pub every : (bits : List Bool) → length bits ≡ 255 → (old : List ℕ) × (old_bits old ≡ bits)
  pub same : (old : List ℕ) → SameAsOldForm old
