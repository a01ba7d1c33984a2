-- Laws of the mask held: masks that are the same are equal, what the bytes say after a mask is kept, and what that keeps.
use mathlib.Core.Path.{◌≡◌, refl, ◌∙◌}
use mathlib.Core.Logic.{◌⊎◌, inl, inr, ⊎_elim}
use Prim.Native.Nat.{ℕ, ◌+◌, ◌-◌, ◌/◌, ◌%◌, ◌^◌, ◌≤◌, ◌<◌}
use native.Mathlib.Nat.{zero-div}
use mathlib.Core.Bool.{Bool, true, false, beq, ◌&&◌}
use mathlib.Core.List.{List, [], ◌∷◌}
use lib.Dec.{eqb}
use lib.ListN.{get_or, length, replicate}
use native.Mathlib.Omega.{arith}
use borrow.Author.Tests.{eqb-true, eq-eqb}
use Rattle.lent.proofs.ZeroLaws.{get_or_zeros}
use Rattle.bits.specs.Bits.{bit_at}
use Rattle.bits.specs.Bytes.{store_at, row_at, Kept}
use Rattle.bits.proofs.TestLaws.{both_hold}
use Rattle.bits.proofs.TableLaws.{table_ext}
use Rattle.bits.proofs.ByteLaws.{store_in, store_out, length_store, kept_trans, kept_store, length_row, get_or_row, bytes_whole}
use Rattle.contents.specs.Parts.{mask_bit_at, mask_bits_at, bits_of}
use Rattle.contents.specs.declared.parts.MaskPart.{MaskPart}
use Rattle.mask_bits.specs.Bits.{bits_at}
use Rattle.held_mask.specs.Size.{size}
use Rattle.held_mask.specs.Mask.{HeldMask, no_held_mask, held_mask, same_bits, same_mask, mask_at, put_mask}

-- ---- the same is equal
beq_eq : (a b : Bool) → beq a b ≡ true → a ≡ b
beq_eq true true h = refl
beq_eq true false h = cc
beq_eq false true h = cc
beq_eq false false h = refl

beq_refl : (a : Bool) → beq a a ≡ true
beq_refl true = refl
beq_refl false = refl

pub bits_eq : (a b : List Bool) → same_bits a b ≡ true → a ≡ b
unfolding same_bits
bits_eq [] [] h = refl
bits_eq [] (y ∷ ys) h = cc
bits_eq (x ∷ xs) [] h = cc
bits_eq (x ∷ xs) (y ∷ ys) h =
    let p = both_hold (beq x y) (same_bits xs ys) h in
    cc (beq_eq x y p.0, bits_eq xs ys p.1)

pub bits_refl : (a : List Bool) → same_bits a a ≡ true
unfolding same_bits
bits_refl [] = refl
bits_refl (x ∷ xs) = rw (beq_refl x) (bits_refl xs)

pub mask_eq : (a b : HeldMask) → same_mask a b ≡ true → a ≡ b
unfolding same_mask
mask_eq a b h =
    let f = beq a.has b.has in
    let s = eqb a.ssr b.ssr in
    let i = eqb a.iodp b.iodp in
    let t = same_bits a.bits b.bits in
    let p = both_hold (f && s && i) t h in
    let q = both_hold (f && s) i p.0 in
    let r = both_hold f s q.0 in
    λ j. record { has = beq_eq a.has b.has r.0 j; ssr = eqb-true a.ssr b.ssr r.1 j; iodp = eqb-true a.iodp b.iodp q.1 j; bits = bits_eq a.bits b.bits p.1 j }

pub same_refl : (m : HeldMask) → same_mask m m ≡ true
unfolding same_mask
same_refl m = rw (beq_refl m.has, eq-eqb m.ssr m.ssr refl, eq-eqb m.iodp m.iodp refl) (bits_refl m.bits)

-- ---- a mask kept
pub mask_put : (s : List ℕ) (m : MaskPart) → length m.bytes ≡ 32 → put_mask s m ≡ store_at (store_at s 4 m.bytes) 1 (1 ∷ m.ssr ∷ m.iodp ∷ [])
unfolding put_mask
mask_put s m e = rw (bytes_whole m.bytes 32 e)

-- only its bytes change
pub mask_room : (s : List ℕ) (m : MaskPart) → Kept 1 36 s (put_mask s m)
unfolding put_mask
mask_room s m =
    let r = row_at m.bytes 0 32 in
    kept_trans
    (kept_store 1 36 s 4 r (omega arith) (omega (arith, length_row m.bytes 0 32)))
    (kept_store 1 36 (store_at s 4 r) 1 (1 ∷ m.ssr ∷ m.iodp ∷ []) (omega arith) (omega arith))

-- a bit by the byte that it stands in
bit_moved : (s t : List ℕ) (i : ℕ) → get_or s (4 + i / 8) 0 ≡ get_or t (i / 8) 0 → bit_at s (32 + i) ≡ bit_at t i
unfolding bit_at
bit_moved s t i e =
    let d : (32 + i) / 8 ≡ 4 + i / 8 = omega arith in
    let r : (32 + i) % 8 ≡ i % 8 = omega arith in
    rw (d, r, e)

module _ (s : List ℕ) (m : MaskPart) (long : length s ≡ size) where
  bytes_stored : (j : ℕ) → j < 32 → get_or (put_mask s m) (4 + j) 0 ≡ get_or m.bytes j 0
  unfolding put_mask
  bytes_stored j h =
      let r = row_at m.bytes 0 32 in
      let l = length_row m.bytes 0 32 in
      let z : 0 + j ≡ j = omega arith in
      store_out (store_at s 4 r) 1 (1 ∷ m.ssr ∷ m.iodp ∷ []) (4 + j) (inr (omega arith))
      ∙ store_in s 4 r j (omega arith) (omega arith)
      ∙ get_or_row m.bytes 0 32 j h
      ∙ rw z

  head_stored : (k : ℕ) → k < 3 → get_or (put_mask s m) (1 + k) 0 ≡ get_or (1 ∷ m.ssr ∷ m.iodp ∷ []) k 0
  unfolding put_mask
  head_stored k h =
      let r = row_at m.bytes 0 32 in
      store_in (store_at s 4 r) 1 (1 ∷ m.ssr ∷ m.iodp ∷ []) k (omega (arith, length_store s 4 r)) (omega arith)

  view_bits : bits_at (put_mask s m) ≡ bits_of m.bytes
  unfolding mask_bits_at
  view_bits =
      table_ext (mask_bit_at (put_mask s m) 32) (mask_bit_at m.bytes 0) 255
      (λ i h. let z : 0 + i ≡ i = omega arith in rw (z, bit_moved (put_mask s m) m.bytes i (bytes_stored (i / 8) (omega arith))))

  -- THE LAW: the mask that the bytes say is the one kept
  pub mask_view : mask_at (put_mask s m) ≡ held_mask m
  mask_view = rw (head_stored 0 (omega arith), head_stored 1 (omega arith), head_stored 2 (omega arith), view_bits)

-- the mask is as it was where its bytes are
pub mask_kept : (lo hi : ℕ) (s t : List ℕ) → Kept lo hi s t → (36 ≤ lo) ⊎ (hi ≤ 1) → mask_at t ≡ mask_at s
unfolding mask_bits_at bit_at
mask_kept lo hi s t k o =
    let same : (j : ℕ) → 0 < j → j < 36 → get_or t j 0 ≡ get_or s j 0 = λ j p q. k.out j (⊎_elim (λ h. inl (omega arith)) (λ h. inr (omega arith)) o) in
    rw (same 1 (omega arith) (omega arith), same 2 (omega arith) (omega arith), same 3 (omega arith) (omega arith), table_ext (mask_bit_at t 32) (mask_bit_at s 32) 255 (λ i h. rw (same ((32 + i) / 8) (omega arith) (omega arith))))

-- ---- zero bytes, however many, hold no mask
pub zero_mask : (n : ℕ) → mask_at (replicate {A = ℕ} n 0) ≡ no_held_mask
unfolding mask_bits_at bit_at
zero_mask n =
    let z = get_or_zeros n in
    rw (z 1, z 2, z 3, table_ext (mask_bit_at (replicate {A = ℕ} n 0) 32) (λ (i : ℕ). false) 255 (λ i h. rw (z ((32 + i) / 8), zero-div (2 ^ (7 - (32 + i) % 8)))))
