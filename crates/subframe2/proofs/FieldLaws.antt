-- Laws of the fields: how wide they are, where they begin, and that 64 bits have room for each.
use mathlib.Core.Path.{◌≡◌, refl, ◌∙◌}
use mathlib.Core.Bool.{Bool}
use mathlib.Core.List.{List}
use Prim.Native.Nat.{ℕ, suc, ◌+◌, ◌-◌, ◌*◌, ◌^◌, ◌<◌}
use lib.Dec.{ltb, ltb→lt}
use lib.IntN.{ℤ}
use lib.Pow.{pow_mono}
use native.Mathlib.Nat.{pow-suc}
use native.Mathlib.Numerals.{add-one}
use native.Mathlib.Omega.{arith}
use Rattle.bits.specs.Bits.{field_at}
use Rattle.bits.proofs.Below.{both, both_left, both_right, below}
use Rattle.bits.proofs.FieldLaws.{field_lt}
use Rattle.subframe2.specs.Fields.{rows, width_of, is_signed, offset_of, number_of, field_of}

-- each field has at least one bit and at most 33
abbrev wide : ℕ → Bool
wide i = both (ltb 0 (width_of i)) (ltb (width_of i) 34)

pub width_fits : (i : ℕ) → i < 31 → (0 < width_of i) × (width_of i < 34)
unfolding rows
width_fits i h =
    let t = below wide 31 tt i h in
    (ltb→lt _ _ (both_left (ltb 0 (width_of i)) (ltb (width_of i) 34) t), ltb→lt _ _ (both_right (ltb 0 (width_of i)) (ltb (width_of i) 34) t))

-- and all begin before bit 576
pub offset_fits : (i : ℕ) → i < 31 → offset_of i < 576
unfolding rows offset_of
offset_fits i h = ltb→lt _ _ (below (λ (k : ℕ). ltb (offset_of k) 576) 31 tt i h)

-- the next field begins where this one ends
pub offset_next : (i : ℕ) → offset_of (i + 1) ≡ offset_of i + width_of i
unfolding offset_of
offset_next i = rw (add-one i)

-- a field that is read at its offset, in its width and kind
pub field_by : (s : List ℕ) (i at w : ℕ) (b : Bool) (x y : ℤ) → x ≡ y → y ≡ number_of w b (field_at s at w) → at ≡ offset_of i → w ≡ width_of i → b ≡ is_signed i → x ≡ field_of s i
field_by s i at w b x y p q a e f = p ∙ q ∙ rw (a, e, f)

-- 001, section 6.2.3.2: the fields have 576 bits, up to the check's
pub fields_end : offset_of 31 ≡ 576
unfolding rows offset_of
fields_end = refl

module _ (n : ℕ) (lo : 0 < n) (hi : n < 57) where
  -- the weight of the highest bit leaves room for one bit more
  pub half_lt : 2 ^ (n - 1) < 2 ^ 62
  half_lt = omega (arith, pow_mono {i = n - 1} {j = 56} (omega arith))

  -- and the bits of a field stay below twice that, and with room for a sign
  pub field_half : (s : List ℕ) (at : ℕ) → field_at s at n < 2 * 2 ^ (n - 1)
  field_half s at =
      let e : suc (n - 1) ≡ n = omega arith in
      let h : field_at s at n < 2 ^ suc (n - 1) = rw e (field_lt s at n) in
      omega (arith, pow-suc 2 (n - 1))

  pub field_room : (s : List ℕ) (at : ℕ) → field_at s at n < 2 ^ 63
  field_room s at = omega (arith, field_lt s at n, pow_mono {i = n} {j = 56} (omega arith))
