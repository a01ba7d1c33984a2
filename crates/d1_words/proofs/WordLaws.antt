-- Words: two interleaved code words are taken apart again, and a word gives back its bits, with at most one flip in each code word.
use mathlib.Core.Path.{◌≡◌, sym, ap, ap₂, ◌∙◌}
use Prim.Native.Nat.{ℕ, zero, suc, ◌+◌, ◌*◌, ◌/◌, ◌%◌, ◌^◌, ◌<◌}
use native.Mathlib.Nat.{mod-eq_of_lt, zero-add, mod-one}
use native.Mathlib.Numerals.{add-one}
use native.Mathlib.Omega.{arith}
use lib.Pow.{mod-pow-add}
use lib.Bits.{bit_xor, xor_shr, xor_zero_r, xor_block, xor_lt}
use Rattle.d1_words.specs.Over.{over_bits}
use Rattle.d1_words.specs.Code.{code_word, corrected, flip}
use Rattle.d1_words.specs.Word.{wider, closer, spread, every_other, interleaved, written_word, read_word, written_first, read_first}
use Rattle.d1_words.proofs.OverLaws.{closer_xor, spread_lt}
use Rattle.d1_words.proofs.CodeLaws.{code_lt, flip_lt, correct_flip, correct_lt}

-- n low bits at every second offset, two numbers side by side
abbrev pair : ℕ → ℕ → ℕ → ℕ
pair n a b = over_bits 1 wider n a * 2 + over_bits 1 wider n b

-- the lower of every two offsets
pub apart_low : (n a b : ℕ) → over_bits 2 closer n (pair n a b) ≡ b % 2 ^ n
unfolding over_bits
apart_low zero a b = sym (mod-one b)
apart_low (suc n) a b =
    let w : pair (suc n) a b / 2 ^ 2 ≡ pair n (a / 2 ^ 1) (b / 2 ^ 1) = omega arith in
    let t : pair (suc n) a b % 2 ≡ b % 2 = omega arith in
    let q : b % 2 ^ suc n ≡ (b / 2 ^ 1 % 2 ^ n) * 2 ^ 1 + b % 2 ^ 1 = ap (λ (x : ℕ). b % 2 ^ x) (sym (add-one n)) ∙ mod-pow-add b n 1 in
    ap₂ closer (ap (over_bits 2 closer n) w ∙ apart_low n (a / 2 ^ 1) (b / 2 ^ 1)) t ∙ sym q

-- and the higher
pub apart_high : (n a b : ℕ) → over_bits 2 closer n (pair n a b / 2) ≡ a % 2 ^ n
unfolding over_bits
apart_high zero a b = sym (mod-one a)
apart_high (suc n) a b =
    let w : pair (suc n) a b / 2 / 2 ^ 2 ≡ pair n (a / 2 ^ 1) (b / 2 ^ 1) / 2 = omega arith in
    let t : pair (suc n) a b / 2 % 2 ≡ a % 2 = omega arith in
    let q : a % 2 ^ suc n ≡ (a / 2 ^ 1 % 2 ^ n) * 2 ^ 1 + a % 2 ^ 1 = ap (λ (x : ℕ). a % 2 ^ x) (sym (add-one n)) ∙ mod-pow-add a n 1 in
    ap₂ closer (ap (over_bits 2 closer n) w ∙ apart_high n (a / 2 ^ 1) (b / 2 ^ 1)) t ∙ sym q

-- two code words, interleaved and taken apart
low_of : (a b : ℕ) → b < 2 ^ 15 → every_other (interleaved a b) ≡ b
unfolding every_other interleaved spread
low_of a b h = apart_low 15 a b ∙ mod-eq_of_lt h

high_of : (a b : ℕ) → a < 2 ^ 15 → every_other (interleaved a b / 2) ≡ a
unfolding every_other interleaved spread
high_of a b h = apart_high 15 a b ∙ mod-eq_of_lt h

other_xor : (v w : ℕ) → every_other (bit_xor v w) ≡ bit_xor (every_other v) (every_other w)
unfolding every_other
other_xor v w = closer_xor 15 v w

-- flips in two interleaved code words are flips of each
flipped_low : (a b j k : ℕ) → b < 2 ^ 15 → every_other (bit_xor (interleaved a b) (interleaved (flip j) (flip k))) ≡ bit_xor b (flip k)
flipped_low a b j k h = other_xor (interleaved a b) (interleaved (flip j) (flip k)) ∙ ap₂ bit_xor (low_of a b h) (low_of (flip j) (flip k) (flip_lt k))

flipped_high : (a b j k : ℕ) → a < 2 ^ 15 → every_other (bit_xor (interleaved a b) (interleaved (flip j) (flip k)) / 2) ≡ bit_xor a (flip j)
flipped_high a b j k h =
    ap every_other (xor_shr (interleaved a b) (interleaved (flip j) (flip k)) 1)
    ∙ other_xor (interleaved a b / 2) (interleaved (flip j) (flip k) / 2)
    ∙ ap₂ bit_xor (high_of a b h) (high_of (flip j) (flip k) (flip_lt j))

-- 02, CR 4: a word with at most one flipped bit in each of its code words gives back the 22 bits sent
pub read_flipped : (d j k : ℕ) → d < 2 ^ 22 → read_word (bit_xor (written_word d) (interleaved (flip j) (flip k))) ≡ d
unfolding read_word written_word
read_flipped d j k h =
    let x = d / 2048 % 2048 in
    let y = d % 2048 in
    ap₂ (λ (a b : ℕ). corrected a * 2048 + corrected b)
    (flipped_high (code_word x) (code_word y) j k (code_lt x))
    (flipped_low (code_word x) (code_word y) j k (code_lt y))
    ∙ ap₂ (λ (a b : ℕ). a * 2048 + b) (correct_flip x j (omega arith)) (correct_flip y k (omega arith))
    ∙ omega arith

-- with none
pub read_written : (d : ℕ) → d < 2 ^ 22 → read_word (written_word d) ≡ d
unfolding interleaved spread over_bits
read_written d h = ap read_word (sym (xor_zero_r (written_word d))) ∙ read_flipped d 15 15 h

-- 02, CR 4: a first word with at most one flipped bit in its code word gives back the 26 bits sent
pub first_flipped : (d k : ℕ) → d < 2 ^ 26 → read_first (bit_xor (written_first d) (flip k)) ≡ d
unfolding read_first written_first
first_flipped d k h =
    let p = d / 2048 % 32768 in
    let c = code_word (d % 2048) in
    let e : bit_xor (p * 32768 + c) (flip k) ≡ p * 32768 + bit_xor c (flip k) =
    ap (bit_xor (p * 32768 + c)) (sym (zero-add (flip k)))
    ∙ xor_block 15 p 0 c (flip k) (code_lt (d % 2048)) (flip_lt k)
    ∙ ap (λ (x : ℕ). x * 32768 + bit_xor c (flip k)) (xor_zero_r p) in
    let l : bit_xor c (flip k) < 32768 = xor_lt 15 c (flip k) (code_lt (d % 2048)) (flip_lt k) in
    let a : (p * 32768 + bit_xor c (flip k)) / 32768 % 32768 ≡ p = omega arith in
    let b : (p * 32768 + bit_xor c (flip k)) % 32768 ≡ bit_xor c (flip k) = omega arith in
    rw (e, a, b) (ap (λ (x : ℕ). p * 2048 + x) (correct_flip (d % 2048) k (omega arith)) ∙ omega arith)

pub first_written : (d : ℕ) → d < 2 ^ 26 → read_first (written_first d) ≡ d
first_written d h = ap read_first (sym (xor_zero_r (written_first d))) ∙ first_flipped d 15 h

-- each fits its width
pub read_lt : (w : ℕ) → read_word w < 2 ^ 22
unfolding read_word
read_lt w = omega (arith, correct_lt (every_other (w / 2)), correct_lt (every_other w))

pub first_lt : (w : ℕ) → read_first w < 2 ^ 26
unfolding read_first
first_lt w = omega (arith, correct_lt (w % 32768))

pub written_lt : (d : ℕ) → written_word d < 2 ^ 30
unfolding written_word interleaved
written_lt d = omega (arith, spread_lt (code_word (d / 2048 % 2048)), spread_lt (code_word (d % 2048)))

pub written_first_lt : (d : ℕ) → written_first d < 2 ^ 30
unfolding written_first
written_first_lt d = omega (arith, code_lt (d % 2048))
