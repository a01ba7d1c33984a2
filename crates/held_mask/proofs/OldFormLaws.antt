-- 02, CR 13: the mask in 32 bytes is equal to the old form for every mask and every place.
use mathlib.Core.Path.{◌≡◌, ap, ◌∙◌}
use mathlib.Core.Logic.{⊎_elim}
use mathlib.Core.Bool.{Bool, true, false}
use mathlib.Core.List.{List}
use Prim.Native.Nat.{ℕ, zero, suc, ◌+◌, ◌-◌, ◌*◌, ◌/◌, ◌%◌, ◌^◌, ◌<◌}
use native.Mathlib.Nat.{pow-suc, div-div-eq-div-mul, not-suc-le-zero, eq-or-lt_of_le, le_of_suc-le-suc}
use native.Mathlib.Omega.{arith}
use lib.Dec.{eqb}
use lib.ListN.{get_or, length, get_or-eq_default}
use Rattle.bits.specs.Bits.{bit_at}
use Rattle.bits.specs.Table.{table}
use Rattle.bits.proofs.TableLaws.{length_table, get_or_table, table_ext, table_same}
use Rattle.lent.specs.Digits.{flag_of}
use Rattle.lent.proofs.DigitLaws.{flag_back}
use Rattle.contents.specs.Parts.{mask_bit_at, mask_bits_at, bits_of}
use Rattle.slots.specs.Slots.{set_count, nth_set}
use Rattle.mask_bits.specs.Bits.{bit_at_slot}
use Rattle.held_mask.specs.Mask.{HeldMask}
use Rattle.held_mask.specs.OldForm.{old_bits, number_of, slot_bit, packed, SameAsOldForm, OldForm}
use Rattle.held_mask.proofs.MaskLaws.{mask_view}

-- bit r, from 0, of the number that n bits say
digit : (f : ℕ → Bool) (n r : ℕ) → r < n → number_of f n / 2 ^ (n - 1 - r) % 2 ≡ flag_of (f r)
unfolding number_of
digit f zero r h = absurd (not-suc-le-zero h)
digit f (suc n) r h =
    let low : flag_of (f n) < 2 = small (f n) in
    ⊎_elim
    (λ (e : r ≡ n).
    let z : suc n - 1 - r ≡ 0 = omega arith in
    rw (z, e) (omega arith))
    (λ (l : r < n).
    let z : suc n - 1 - r ≡ suc (n - 1 - r) = omega arith in
    let x = number_of f n in
    let half : (2 * x + flag_of (f n)) / 2 ≡ x = omega arith in
    let two : 2 ^ (n - 1 - r) * 2 ≡ 2 * 2 ^ (n - 1 - r) = omega arith in
    rw (z, pow-suc 2 (n - 1 - r), two, ← div-div-eq-div-mul (2 * x + flag_of (f n)) 2 (2 ^ (n - 1 - r)), half) (digit f n r l))
    (eq-or-lt_of_le (le_of_suc-le-suc h))
  where
    small : (b : Bool) → flag_of b < 2
    small true = omega arith
    small false = omega arith

-- bit i of the 32 bytes is that of slot i + 1
packed_bit : (bs : List Bool) (i : ℕ) → i < 256 → bit_at (packed bs) i ≡ flag_of (get_or bs i false)
unfolding packed bit_at
packed_bit bs i h =
    let e : 8 * (i / 8) + i % 8 ≡ i = omega arith in
    let f : 7 - i % 8 ≡ 8 - 1 - i % 8 = omega arith in
    rw (get_or_table (λ (j : ℕ). number_of (slot_bit bs j) 8) 32 (i / 8) 0 (omega arith), f)
    (digit (slot_bit bs (i / 8)) 8 (i % 8) (omega arith) ∙ ap (λ (k : ℕ). flag_of (get_or bs k false)) e)

packed_back : (bs : List Bool) → length bs ≡ 255 → bits_of (packed bs) ≡ bs
unfolding mask_bits_at
packed_back bs long =
    table_ext (mask_bit_at (packed bs) 0) (λ (i : ℕ). get_or bs i false) 255
    (λ i h. let z : 0 + i ≡ i = omega arith in rw (z, packed_bit bs i (omega arith)) (flag_back (get_or bs i false)))
    ∙ table_same bs 255 false long

length_packed : (bs : List Bool) → length (packed bs) ≡ 32
unfolding packed
length_packed bs = length_table _ 32

length_old : (old : List ℕ) → length (old_bits old) ≡ 255
unfolding old_bits
length_old old = length_table _ 255

-- a byte for each bit
old_of : List Bool → List ℕ
old_of bs = table (λ (i : ℕ). flag_of (get_or bs i false)) 255

-- every list of 255 bits has an old form
old_of_lem : (bs : List Bool) → length bs ≡ 255 → old_bits (old_of bs) ≡ bs
unfolding old_bits old_of
old_of_lem bs long =
    table_ext (λ (i : ℕ). eqb (get_or (old_of bs) i 0) 1) (λ (i : ℕ). get_or bs i false) 255
    (λ i h. rw (get_or_table (λ (j : ℕ). flag_of (get_or bs j false)) 255 i 0 h) (flag_back (get_or bs i false)))
    ∙ table_same bs 255 false long

same : (old : List ℕ) → SameAsOldForm old
same old =
    let bs = old_bits old in
    let e = packed_back bs (length_old old) in
    record {
      long = length_packed bs;
      last = packed_bit bs 255 (omega arith) ∙ ap flag_of (get_or-eq_default bs false (omega (arith, length_old old)));
      bits = e;
      slot = λ n. ap (λ (l : List Bool). bit_at_slot l n) e;
      place = λ n. ap (λ (l : List Bool). nth_set l n) e;
      count = ap set_count e;
      kept = λ s m long b n. ap (λ (h : HeldMask). nth_set h.bits n) (mask_view s m long) ∙ ap (λ (l : List ℕ). nth_set (bits_of l) n) b ∙ ap (λ (l : List Bool). nth_set l n) e;
    }

pub same_as_old_form : OldForm
same_as_old_form = record { every = λ bs long. (old_of bs, old_of_lem bs long); same = same }
