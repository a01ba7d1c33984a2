-- docs/FORM.md: the mask that a ledger keeps, as lent bytes: held (byte 1), IOD SSR (byte 2), IODP (byte 3), the mask (bytes 4 to 35).
use Rattle.std.specs.Prelude.{ℕ, Bool, true, false, ◌&&◌, List, [], ◌∷◌, eqb, get_or}
use Rattle.std.specs.Bool.{beq}
use Rattle.bits.specs.Bytes.{store_at, row_at}
use Rattle.bits.specs.Table.{table}
use Rattle.contents.specs.Parts.{bits_of}
use Rattle.contents.specs.declared.parts.MaskPart.{MaskPart}
use Rattle.mask_bits.specs.Bits.{bits_at}

-- 01, What the ledger keeps: a mask as it is held; entry i of its bits is that of slot i + 1
pub record HeldMask : Type 0 where
  pub has : Bool
  pub ssr : ℕ
  pub iodp : ℕ
  pub bits : List Bool

-- no mask in force
abbrev pub no_held_mask : HeldMask
no_held_mask = record { has = false; ssr = 0; iodp = 0; bits = table (λ (i : ℕ). false) 255 }

-- the mask of a type 1, as it is held
abbrev pub held_mask : MaskPart → HeldMask
held_mask m = record { has = true; ssr = m.ssr; iodp = m.iodp; bits = bits_of m.bytes }

-- every bit is the same
unfoldable pub same_bits : List Bool → List Bool → Bool
same_bits [] [] = true
same_bits [] (y ∷ ys) = false
same_bits (x ∷ xs) [] = false
same_bits (x ∷ xs) (y ∷ ys) = beq x y && same_bits xs ys

-- 01, What the ledger keeps: masks differ in IOD SSR, IODP or any bit
unfoldable pub same_mask : HeldMask → HeldMask → Bool
same_mask a b = beq a.has b.has && eqb a.ssr b.ssr && eqb a.iodp b.iodp && same_bits a.bits b.bits

-- FORM: the mask held
abbrev pub mask_at : List ℕ → HeldMask
mask_at s = record { has = eqb (get_or s 1 0) 1; ssr = get_or s 2 0; iodp = get_or s 3 0; bits = bits_at s }

-- FORM: the bytes with a mask kept: the mask's 32 bytes, and the three before them
unfoldable pub put_mask : List ℕ → MaskPart → List ℕ
put_mask s m = store_at (store_at s 4 (row_at m.bytes 0 32)) 1 (1 ∷ m.ssr ∷ m.iodp ∷ [])
