-- Laws of a mask in 32 bytes: they hold the bits that stand in the message, and 32 bytes whose last bit is 0 are read back from their bits.
use mathlib.Core.Path.{◌≡◌, refl, sym, ap, ◌∙◌}
use mathlib.Core.Logic.{dite}
use mathlib.Core.List.{List}
use Prim.Native.Nat.{ℕ, ◌+◌, ◌-◌, ◌*◌, ◌/◌, ◌%◌, ◌^◌, ◌≤◌, ◌<◌}
use native.Mathlib.Nat.{zero-add, div-div-eq-div-mul, div-one, zero-div}
use native.Mathlib.Decide.{dec_lt}
use native.Mathlib.Omega.{arith}
use lib.Dec.{eqb}
use lib.ListN.{get_or, length, get_or-eq_default}
use lib.Pow.{pow-add}
use borrow.Author.Tests.{lt-ltb, le-ltb}
use Rattle.bits.specs.Bits.{bit_at, field_at}
use Rattle.bits.specs.Bytes.{Bytes}
use Rattle.bits.specs.Table.{table}
use Rattle.bits.proofs.FieldLaws.{field_lt, one_bit}
use Rattle.bits.proofs.BytesStay.{bytes_ext}
use Rattle.bits.proofs.TableLaws.{length_table, get_or_table, table_ext}
use Rattle.bits.proofs.WindowLaws.{field_part}
use Rattle.contents.specs.Parts.{mask_byte_at, mask_bytes_at, mask_bit_at, mask_bits_at, bits_of, no_mask}

-- a bit by its byte
bit_open : (s : List ℕ) (i : ℕ) → bit_at s i ≡ get_or s (i / 8) 0 / 2 ^ (7 - i % 8) % 2
unfolding bit_at
bit_open s i = refl

-- bit a of a field, with k bits after it
bit_in_field : (s : List ℕ) (at a k : ℕ) → field_at s at (a + 1 + k) / 2 ^ k % 2 ≡ bit_at s (at + a)
bit_in_field s at a k = field_part s at a 1 k ∙ one_bit s (at + a)

-- a number doubled loses its low bit first
halved : (x k : ℕ) → 2 * x / 2 ^ (1 + k) ≡ x / 2 ^ k
halved x k =
    let e : 2 * x / 2 ≡ x = omega arith in
    ap (λ (p : ℕ). 2 * x / p) (pow-add 2 1 k) ∙ sym (div-div-eq-div-mul (2 * x) 2 (2 ^ k)) ∙ ap (λ (y : ℕ). y / 2 ^ k) e

-- ---- an absent mask: 32 bytes, all 0
pub none_long : length no_mask.bytes ≡ 32
unfolding no_mask
none_long = length_table (λ (j : ℕ). 0) 32

none_byte : (j : ℕ) → get_or no_mask.bytes j 0 ≡ 0
unfolding no_mask
none_byte j =
    let zeros : List ℕ = table (λ (i : ℕ). 0) 32 in
    let l32 : length zeros ≡ 32 = none_long in
    dite (dec_lt j 32)
    (λ l. get_or_table (λ (i : ℕ). 0) 32 j 0 l)
    (λ n. get_or-eq_default zeros 0 (omega (arith, l32)))

pub none_small : Bytes no_mask.bytes
none_small j = rw (none_byte j) (omega arith)

pub none_bit : (i : ℕ) → bit_at no_mask.bytes i ≡ 0
none_bit i =
    bit_open no_mask.bytes i
    ∙ ap (λ (x : ℕ). x / 2 ^ (7 - i % 8) % 2) (none_byte (i / 8))
    ∙ ap (λ (x : ℕ). x % 2) (zero-div (2 ^ (7 - i % 8)))

-- ---- a mask read
module _ (s : List ℕ) (at : ℕ) where
  pub bytes_long : length (mask_bytes_at s at) ≡ 32
  unfolding mask_bytes_at
  bytes_long = length_table (mask_byte_at s at) 32

  mask_byte : (j : ℕ) → j < 32 → get_or (mask_bytes_at s at) j 0 ≡ mask_byte_at s at j
  unfolding mask_bytes_at
  mask_byte j h = get_or_table (mask_byte_at s at) 32 j 0 h

  -- a whole byte, and the last one
  eight : (j : ℕ) → j < 31 → mask_byte_at s at j ≡ field_at s (at + 8 * j) 8
  eight j h = rw (lt-ltb j 31 h)

  seven : (j : ℕ) → 31 ≤ j → mask_byte_at s at j ≡ 2 * field_at s (at + 8 * j) 7
  seven j h = rw (le-ltb j 31 h)

  byte_small : (j : ℕ) → mask_byte_at s at j < 256
  byte_small j =
      dite (dec_lt j 31)
      (λ l. rw (eight j l) (field_lt s (at + 8 * j) 8))
      (λ n. rw (seven j (omega arith)) (omega (arith, field_lt s (at + 8 * j) 7)))

  pub bytes_small : Bytes (mask_bytes_at s at)
  bytes_small j =
      dite (dec_lt j 32)
      (λ l. rw (mask_byte j l) (byte_small j))
      (λ n. let z : get_or (mask_bytes_at s at) j 0 ≡ 0 = get_or-eq_default (mask_bytes_at s at) 0 (omega (arith, bytes_long)) in rw z (omega arith))

  eight_bit : (j r : ℕ) → j < 31 → r < 8 → mask_byte_at s at j / 2 ^ (7 - r) % 2 ≡ bit_at s (at + 8 * j + r)
  eight_bit j r l h =
      let e : 8 ≡ r + 1 + (7 - r) = omega arith in
      ap (λ (x : ℕ). x / 2 ^ (7 - r) % 2) (eight j l ∙ ap (field_at s (at + 8 * j)) e) ∙ bit_in_field s (at + 8 * j) r (7 - r)

  seven_bit : (j r : ℕ) → 31 ≤ j → r < 7 → mask_byte_at s at j / 2 ^ (7 - r) % 2 ≡ bit_at s (at + 8 * j + r)
  seven_bit j r l h =
      let e : 7 ≡ r + 1 + (6 - r) = omega arith in
      let f : 7 - r ≡ 1 + (6 - r) = omega arith in
      let x = field_at s (at + 8 * j) 7 in
      ap (λ (y : ℕ). y / 2 ^ (7 - r) % 2) (seven j l)
      ∙ ap (λ (k : ℕ). 2 * x / 2 ^ k % 2) f
      ∙ ap (λ (y : ℕ). y % 2) (halved x (6 - r))
      ∙ ap (λ (k : ℕ). field_at s (at + 8 * j) k / 2 ^ (6 - r) % 2) e
      ∙ bit_in_field s (at + 8 * j) r (6 - r)

  -- THE LAW: bit i of the bytes is that of slot i + 1
  pub mask_bit : (i : ℕ) → i < 255 → bit_at (mask_bytes_at s at) i ≡ bit_at s (at + i)
  mask_bit i h =
      let j = i / 8 in
      let r = i % 8 in
      let e : at + 8 * j + r ≡ at + i = omega arith in
      bit_open (mask_bytes_at s at) i
      ∙ ap (λ (x : ℕ). x / 2 ^ (7 - r) % 2) (mask_byte j (omega arith))
      ∙ dite (dec_lt j 31) (λ l. eight_bit j r l (omega arith)) (λ n. seven_bit j r (omega arith) (omega arith))
      ∙ ap (bit_at s) e

  -- and the last bit is 0
  pub mask_last : bit_at (mask_bytes_at s at) 255 ≡ 0
  mask_last =
      let x = field_at s (at + 8 * 31) 7 in
      let e : 2 * x / 2 ^ 0 % 2 ≡ 0 = omega (arith, div-one (2 * x)) in
      bit_open (mask_bytes_at s at) 255 ∙ ap (λ (y : ℕ). y / 2 ^ 0 % 2) (mask_byte 31 (omega arith) ∙ seven 31 (omega arith)) ∙ e

  -- 02, CR 13, the old form: the bits of the bytes are the mask as it stood before, a value for each slot
  pub mask_as_before : bits_of (mask_bytes_at s at) ≡ mask_bits_at s at
  unfolding mask_bits_at
  mask_as_before = table_ext (mask_bit_at (mask_bytes_at s at) 0) (mask_bit_at s at) 255 (λ i h. ap (λ (b : ℕ). eqb b 1) (ap (bit_at (mask_bytes_at s at)) (zero-add i) ∙ mask_bit i h))

  -- 32 bytes whose last bit is 0 are read back where their bits stand
  pub bytes_back : (bytes : List ℕ) → length bytes ≡ 32 → Bytes bytes → bit_at bytes 255 ≡ 0
      → ((i : ℕ) → i < 255 → bit_at s (at + i) ≡ bit_at bytes i) → mask_bytes_at s at ≡ bytes
  bytes_back bytes long small last same =
      let m = mask_bytes_at s at in
      let bit : (i : ℕ) → i < 256 → bit_at m i ≡ bit_at bytes i =
      λ i h. dite (dec_lt i 255) (λ l. mask_bit i l ∙ same i l) (λ n. let e : i ≡ 255 = omega arith in ap (bit_at m) e ∙ mask_last ∙ sym last ∙ sym (ap (bit_at bytes) e)) in
      bytes_ext m bytes bytes_small small (omega (arith, bytes_long)) (λ i h. bit i (omega (arith, bytes_long)))
