-- The bits of a mask in bytes: a bit by its slot, many by the field that they make.
use mathlib.Core.Path.{◌≡◌, refl, sym, ap, ◌∙◌}
use mathlib.Core.Logic.{◌≢◌, dite}
use mathlib.Core.Bool.{Bool, true, false, true≢false}
use mathlib.Core.List.{List, [], ◌∷◌, ◌++◌}
use Prim.Native.Nat.{ℕ, zero, suc, ◌+◌, ◌-◌, ◌*◌, ◌/◌, ◌%◌, ◌≤◌, ◌<◌}
use native.Mathlib.Decide.{dec_lt}
use native.Mathlib.Omega.{arith}
use lib.Dec.{eqb}
use lib.Count.{ones, ones_step, ones-le}
use lib.ListN.{get_or, length, drop, get_or-eq_default}
use borrow.Author.Tests.{eq-eqb, ne_eqb}
use Rattle.bits.specs.Bits.{bit_at, field_at}
use Rattle.bits.specs.Pick.{pick}
use Rattle.bits.specs.Table.{table}
use Rattle.bits.proofs.FieldLaws.{bit_lt, field_lt}
use Rattle.bits.proofs.WindowLaws.{byte_field}
use Rattle.bits.proofs.TableLaws.{length_table, get_or_table, table_ext}
use Rattle.contents.specs.Parts.{mask_bit_at, mask_bits_at}
use Rattle.slots.specs.Slots.{set_count, nth_from}
use Rattle.mask_bits.specs.Bits.{bits_at, bit_at_slot}
use Rattle.mask_bits.proofs.ManyLaws.{drop_table, count_append, nth_pass_many}

pub length_mask : (s : List ℕ) (at : ℕ) → length (mask_bits_at s at) ≡ 255
unfolding mask_bits_at
length_mask s at = length_table _ 255

pub length_bits : (s : List ℕ) → length (bits_at s) ≡ 255
length_bits s = length_mask s 32

pub bit_at_lem : (s : List ℕ) (i : ℕ) → i < 255 → get_or (bits_at s) i false ≡ eqb (bit_at s (32 + i)) 1
unfolding mask_bits_at
bit_at_lem s i h = get_or_table _ 255 i false h

-- a bit x, as the code reads it
module _ (s : List ℕ) (i x : ℕ) (h : i < 255) (e : x ≡ bit_at s (32 + i)) where
  pub bit_set : x ≡ 1 → get_or (bits_at s) i false ≡ true
  bit_set q = bit_at_lem s i h ∙ rw (← e) (eq-eqb x 1 q)

  pub bit_clear : x ≢ 1 → get_or (bits_at s) i false ≡ false
  bit_clear q = bit_at_lem s i h ∙ rw (← e) (ne_eqb x 1 q)

-- a bit that is set is one of the 255
pub set_below : (s : List ℕ) (i : ℕ) → get_or (bits_at s) i false ≡ true → i < 255
set_below s i e =
    dite (dec_lt i 255) (λ h. h)
    (λ n. absurd (true≢false (sym e ∙ get_or-eq_default (bits_at s) false (omega (arith, length_bits s)))))

-- the bit of slot 1 to 255; slot 0 has none
pub slot_bit : (s : List ℕ) (slot : ℕ) → 0 < slot → slot < 256 → bit_at_slot (bits_at s) slot ≡ eqb (bit_at s (31 + slot)) 1
slot_bit s slot p q =
    let e : 32 + (slot - 1) ≡ 31 + slot = omega arith in
    rw (ne_eqb slot 0 (λ z. omega arith)) (bit_at_lem s (slot - 1) (omega arith) ∙ rw e)

pub slot_none : (bits : List Bool) (slot : ℕ) → slot ≡ 0 → false ≡ bit_at_slot bits slot
slot_none bits slot e = rw (eq-eqb slot 0 e)

-- what is left of a mask from entry i on: w bits, and what is left from entry i + w on
pub mask_many : (s : List ℕ) (at i w : ℕ) → i + w ≤ 255 → drop i (mask_bits_at s at) ≡ table (mask_bit_at s (at + i)) w ++ drop (i + w) (mask_bits_at s at)
unfolding mask_bits_at
mask_many s at i w h =
    drop_table (mask_bit_at s at) 255 i w h
    ∙ rw (table_ext (λ (j : ℕ). mask_bit_at s at (i + j)) (mask_bit_at s (at + i)) w (λ j l. let e : at + (i + j) ≡ at + i + j = omega arith in rw e))

-- ---- bits and the field that they make, for any width
digit : (x : ℕ) → x < 2 → x ≡ pick (eqb x 1) 1 0
digit zero h = refl
digit (suc zero) h = refl
digit (suc (suc x)) h = absurd (let z : ⊥ = omega arith in z)

-- the ones of a field are its set bits
pub ones_count : (s : List ℕ) (at n : ℕ) → ones (field_at s at n) ≡ set_count (table (mask_bit_at s at) n)
unfolding field_at table set_count ones
ones_count s at zero = refl
ones_count s at (suc n) =
    let f = field_at s at n in
    let b = bit_at s (at + n) in
    let l = bit_lt s (at + n) in
    let odd : (2 * f + b) % 2 ≡ b = omega arith in
    let half : (2 * f + b) / 2 ≡ f = omega arith in
    ones_step (2 * f + b) ∙ rw (odd, half, ones_count s at n, count_append (table (mask_bit_at s at) n) (eqb b 1 ∷ [])) (omega (arith, digit b l))

-- at most n of n bits are set
pub count_few : (s : List ℕ) (at n : ℕ) → set_count (table (mask_bit_at s at) n) ≤ n
count_few s at n = rw (← ones_count s at n) (ones-le n (field_at s at n) (field_lt s at n))

-- the ones of a byte are its set bits
pub byte_count : (s : List ℕ) (j : ℕ) → get_or s (4 + j) 0 < 256 → ones (get_or s (4 + j) 0) ≡ set_count (table (mask_bit_at s (32 + 8 * j)) 8)
byte_count s j h =
    let e : 8 * (4 + j) ≡ 32 + 8 * j = omega arith in
    ap ones (sym (byte_field s (4 + j) h)) ∙ ones_count s (8 * (4 + j)) 8 ∙ rw e

-- fields are equal exactly if their bits are
pub bits_of_field : (s t : List ℕ) (a b n : ℕ) → field_at s a n ≡ field_at t b n → table (mask_bit_at s a) n ≡ table (mask_bit_at t b) n
unfolding field_at table
bits_of_field s t a b zero e = refl
bits_of_field s t a b (suc n) e =
    let x = bit_lt s (a + n) in
    let y = bit_lt t (b + n) in
    let f : field_at s a n ≡ field_at t b n = omega arith in
    let d : bit_at s (a + n) ≡ bit_at t (b + n) = omega arith in
    rw (bits_of_field s t a b n f, d)

same_digit : (x y : ℕ) → x < 2 → y < 2 → eqb x 1 ≡ eqb y 1 → x ≡ y
same_digit x y h k e = digit x h ∙ ap (λ (b : Bool). pick {A = ℕ} b 1 0) e ∙ sym (digit y k)

pub field_of_bits : (s t : List ℕ) (a b n : ℕ) → ((j : ℕ) → j < n → mask_bit_at s a j ≡ mask_bit_at t b j) → field_at s a n ≡ field_at t b n
unfolding field_at
field_of_bits s t a b zero e = refl
field_of_bits s t a b (suc n) e =
    rw (field_of_bits s t a b n (λ j h. e j (omega arith)), same_digit (bit_at s (a + n)) (bit_at t (b + n)) (bit_lt s (a + n)) (bit_lt t (b + n)) (e n (omega arith)))

-- ---- w bits of the mask held at once, c of them set
module _ (s : List ℕ) (i w c : ℕ) (h : i + w ≤ 255) (e : c ≡ set_count (table (mask_bit_at s (32 + i)) w)) where
  pub count_many : set_count (drop i (bits_at s)) ≡ c + set_count (drop (i + w) (bits_at s))
  count_many = rw (mask_many s 32 i w h, count_append (table (mask_bit_at s (32 + i)) w) (drop (i + w) (bits_at s)), ← e)

  -- fewer than are sought
  pub nth_many : (n : ℕ) → c < n → nth_from (drop i (bits_at s)) (i + 1) n ≡ nth_from (drop (i + w) (bits_at s)) (i + w + 1) (n - c)
  nth_many n l =
      let f : i + 1 + w ≡ i + w + 1 = omega arith in
      rw (mask_many s 32 i w h, nth_pass_many (table (mask_bit_at s (32 + i)) w) (drop (i + w) (bits_at s)) (i + 1) n (rw (← e) l), length_table (mask_bit_at s (32 + i)) w, f, ← e)
