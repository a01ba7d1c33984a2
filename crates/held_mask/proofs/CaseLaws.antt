-- How the tests of the code decide whether two masks are the same.
use mathlib.Core.Path.{◌≡◌, refl, sym, ap, ◌∙◌}
use mathlib.Core.Logic.{◌≢◌}
use Prim.Native.Nat.{ℕ, ◌+◌, ◌≤◌}
use mathlib.Core.Bool.{Bool, true, false, ◌&&◌, beq}
use mathlib.Core.List.{List, [], ◌∷◌, ◌++◌}
use native.Mathlib.Omega.{arith}
use lib.ListN.{get_or, length, drop, drop_of_length-le}
use borrow.Author.Tests.{eq-eqb, ne_eqb}
use Rattle.bits.specs.Bits.{field_at}
use Rattle.bits.specs.Table.{table}
use Rattle.bits.proofs.TableLaws.{length_table, get_or_table}
use Rattle.contents.specs.Parts.{mask_bit_at, mask_bits_at, bits_of}
use Rattle.contents.specs.declared.parts.MaskPart.{MaskPart}
use Rattle.mask_bits.proofs.BitLaws.{mask_many, bits_of_field, field_of_bits}
use Rattle.held_mask.specs.Mask.{HeldMask, held_mask, same_bits, same_mask}
use Rattle.held_mask.proofs.MaskLaws.{bits_eq, bits_refl}

both : (p q r : Bool) → p && (q && r) ≡ p && q && r
both true q r = refl
both false q r = refl

-- rows of as many bits, and what follows them
same_append : (xs ys us vs : List Bool) → length us ≡ length vs → same_bits (us ++ xs) (vs ++ ys) ≡ same_bits us vs && same_bits xs ys
unfolding same_bits
same_append xs ys [] [] l = refl
same_append xs ys [] (v ∷ vs) l = absurd (let z : ⊥ = omega arith in z)
same_append xs ys (u ∷ us) [] l = absurd (let z : ⊥ = omega arith in z)
same_append xs ys (u ∷ us) (v ∷ vs) l = rw (same_append xs ys us vs (omega arith)) (both (beq u v) (same_bits us vs) (same_bits xs ys))

not_same : (b : Bool) → (b ≡ true → ⊥) → b ≡ false
not_same true n = absurd (n refl)
not_same false n = refl

-- w bits from entry i on of two masks: where the fields that they make are equal, what follows decides
module _ (s t : List ℕ) (a b i w : ℕ) (h : i + w ≤ 255) where
  same_split : same_bits (drop i (mask_bits_at s a)) (drop i (mask_bits_at t b)) ≡ same_bits (table (mask_bit_at s (a + i)) w) (table (mask_bit_at t (b + i)) w) && same_bits (drop (i + w) (mask_bits_at s a)) (drop (i + w) (mask_bits_at t b))
  same_split =
      rw (mask_many s a i w h, mask_many t b i w h)
      (same_append _ _ (table (mask_bit_at s (a + i)) w) (table (mask_bit_at t (b + i)) w) (length_table (mask_bit_at s (a + i)) w ∙ sym (length_table (mask_bit_at t (b + i)) w)))

  pub fields_same : field_at s (a + i) w ≡ field_at t (b + i) w → same_bits (drop i (mask_bits_at s a)) (drop i (mask_bits_at t b)) ≡ same_bits (drop (i + w) (mask_bits_at s a)) (drop (i + w) (mask_bits_at t b))
  fields_same e = same_split ∙ rw (bits_of_field s t (a + i) (b + i) w e, bits_refl (table (mask_bit_at t (b + i)) w))

  differ : field_at s (a + i) w ≢ field_at t (b + i) w → same_bits (table (mask_bit_at s (a + i)) w) (table (mask_bit_at t (b + i)) w) ≡ true → ⊥
  differ d e =
      let q = bits_eq (table (mask_bit_at s (a + i)) w) (table (mask_bit_at t (b + i)) w) e in
      d (field_of_bits s t (a + i) (b + i) w (λ j l.
      sym (get_or_table (mask_bit_at s (a + i)) w j false l) ∙ ap (λ (bs : List Bool). get_or bs j false) q ∙ get_or_table (mask_bit_at t (b + i)) w j false l))

  -- where they differ, so do the masks
  pub fields_differ : field_at s (a + i) w ≢ field_at t (b + i) w → same_bits (drop i (mask_bits_at s a)) (drop i (mask_bits_at t b)) ≡ false
  fields_differ d = same_split ∙ rw (not_same (same_bits (table (mask_bit_at s (a + i)) w) (table (mask_bit_at t (b + i)) w)) (differ d))

pub bits_end : (a b : List Bool) (i : ℕ) → length a ≤ i → length b ≤ i → same_bits (drop i a) (drop i b) ≡ true
unfolding same_bits
bits_end a b i p q = rw (drop_of_length-le a p, drop_of_length-le b q)

-- a mask held and that of a type 1: none is held, or the first of IOD SSR and IODP that differs, or the bits
module _ (a : HeldMask) (m : MaskPart) where
  pub mask_has : a.has ≡ false → same_mask a (held_mask m) ≡ false
  unfolding same_mask
  mask_has h = rw h

  pub mask_ssr : a.has ≡ true → a.ssr ≢ m.ssr → same_mask a (held_mask m) ≡ false
  unfolding same_mask
  mask_ssr h d = rw (h, ne_eqb a.ssr m.ssr d)

  pub mask_iodp : a.has ≡ true → a.ssr ≡ m.ssr → a.iodp ≢ m.iodp → same_mask a (held_mask m) ≡ false
  unfolding same_mask
  mask_iodp h s d = rw (h, eq-eqb a.ssr m.ssr s, ne_eqb a.iodp m.iodp d)

  pub mask_bits : a.has ≡ true → a.ssr ≡ m.ssr → a.iodp ≡ m.iodp → same_mask a (held_mask m) ≡ same_bits a.bits (bits_of m.bytes)
  unfolding same_mask
  mask_bits h s d = rw (h, eq-eqb a.ssr m.ssr s, eq-eqb a.iodp m.iodp d)
