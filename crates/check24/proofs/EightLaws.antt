-- Many bits at once: the register after n bits is x to the power n times the register with those bits added to its top, and that goes through sums.
use mathlib.Core.Path.{◌≡◌, refl, sym, ap, ap₂, subst, ◌∙◌}
use mathlib.Core.List.{List, [], ◌∷◌, ◌++◌}
use mathlib.Core.Logic.{dite}
use Prim.Native.Nat.{ℕ, zero, suc, ◌+◌, ◌-◌, ◌*◌, ◌/◌, ◌%◌, ◌^◌, ◌<◌, ◌≤◌}
use native.Mathlib.Nat.{pow-suc, mul_assoc, mul-one, zero-mul, add-mul, add-zero, add-suc, mod-lt, lt_of_lt_of_le, div-eq_of_lt, mod-eq_of_lt}
use native.Mathlib.Numerals.{add-one, one-add}
use native.Mathlib.Decide.{dec_lt}
use native.Mathlib.Omega.{arith}
use lib.Dec.{lit<}
use lib.Bits.{bit_xor, xor_lt, xor_zero_r, xor_shifted}
use lib.Pow.{pow_pos, pow-add, pow_mono, shr_lt, shl_lt, split}
use lib.ListN.{get_or}
use Rattle.bits.specs.Bits.{bit_at, bits_from, field_at}
use Rattle.bits.specs.Poly.{times_x}
use Rattle.bits.proofs.FieldLaws.{bit_lt, field_lt}
use Rattle.bits.proofs.WindowLaws.{field_high, field_low}
use Rattle.bits.proofs.RunLaws.{bits_append}
use Rattle.bits.proofs.TableLaws.{get_or_table}
use Rattle.bits.proofs.XorLaws.{xor_assoc, times_x_xor, times_x_low, times_x_lt}
use Rattle.check24.specs.Check.{polynomial, feed_of, check_bits, check_of}
use Rattle.check24.specs.Eight.{shifted, eights}
use Rattle.check24.proofs.CheckLaws.{feed_lt, check_end}

-- a run of bits in two parts
pub checks_append : (r : ℕ) (xs ys : List ℕ) → check_bits r (xs ++ ys) ≡ check_bits (check_bits r xs) ys
unfolding check_bits
checks_append r [] ys = refl
checks_append r (x ∷ xs) ys = checks_append (feed_of r x) xs ys

pub checks_split : (s : List ℕ) (r i m n : ℕ) → check_bits (check_bits r (bits_from s i m)) (bits_from s (i + m) n) ≡ check_bits r (bits_from s i (m + n))
checks_split s r i m n = sym (ap (check_bits r) (bits_append s i m n) ∙ checks_append r (bits_from s i m) (bits_from s (i + m) n))

-- one bit more at the end
pub checks_suc : (s : List ℕ) (r i n : ℕ) → check_bits r (bits_from s i (suc n)) ≡ feed_of (check_bits r (bits_from s i n)) (bit_at s (i + n))
unfolding check_bits bits_from
checks_suc s r i n = ap (λ (k : ℕ). check_bits r (bits_from s i k)) (sym (add-one n)) ∙ sym (checks_split s r i n 1)

pub checks_lt : (s : List ℕ) (r i n : ℕ) → r < 2 ^ 24 → check_bits r (bits_from s i n) < 2 ^ 24
unfolding check_bits bits_from
checks_lt s r i zero h = h
checks_lt s r i (suc n) h = checks_lt s (feed_of r (bit_at s i)) (i + 1) n (feed_lt r (bit_at s i) h (bit_lt s i))

-- x to the power n
pub shifted_lt : (n a : ℕ) → a < 2 ^ 24 → shifted n a < 2 ^ 24
unfolding shifted
shifted_lt zero a h = h
shifted_lt (suc n) a h = times_x_lt 23 (polynomial - 2 ^ 24) (lit< tt) (shifted n a) (shifted_lt n a h)

pub shifted_xor : (n a b : ℕ) → a < 2 ^ 24 → b < 2 ^ 24 → shifted n (bit_xor a b) ≡ bit_xor (shifted n a) (shifted n b)
unfolding shifted
shifted_xor zero a b h k = refl
shifted_xor (suc n) a b h k =
    ap (times_x 23 polynomial) (shifted_xor n a b h k)
    ∙ times_x_xor 23 polynomial (shifted n a) (shifted n b) (shifted_lt n a h) (shifted_lt n b k)

pub shifted_add : (m n a : ℕ) → shifted m (shifted n a) ≡ shifted (n + m) a
unfolding shifted
shifted_add zero n a = ap (λ (k : ℕ). shifted k a) (sym (add-zero n))
shifted_add (suc m) n a = ap (times_x 23 polynomial) (shifted_add m n a) ∙ ap (λ (k : ℕ). shifted k a) (sym (add-suc n m))

-- as long as nothing reaches the top, it is a product by 2 ^ n
pub shifted_low : (n m a : ℕ) → m + n ≤ 24 → a < 2 ^ m → shifted n a ≡ a * 2 ^ n
unfolding shifted
shifted_low zero m a l h = sym (mul-one a)
shifted_low (suc n) m a l h =
    let k : a * 2 ^ n < 2 ^ 23 = lt_of_lt_of_le (shl_lt m n h) (pow_mono {i = m + n} {j = 23} (omega arith)) in
    ap (times_x 23 polynomial) (shifted_low n m a (omega arith) h)
    ∙ times_x_low 23 polynomial (a * 2 ^ n) k
    ∙ mul_assoc a (2 ^ n) 2
    ∙ ap (λ (x : ℕ). a * x) (sym (pow-suc 2 n))

-- the bits of a field, added to the top at once
top_lt : (s : List ℕ) (i n k : ℕ) → n + k ≡ 24 → field_at s i n * 2 ^ k < 2 ^ 24
top_lt s i n k e = subst (λ (m : ℕ). field_at s i n * 2 ^ k < 2 ^ m) e (shl_lt n k (field_lt s i n))

join : (f b k : ℕ) → b < 2 → bit_xor (f * 2 ^ suc k) (b * 2 ^ k) ≡ (2 * f + b) * 2 ^ k
join f b k h =
    xor_shifted f (suc k) (b * 2 ^ k) (rw (pow-suc 2 k) (two b (2 ^ k) h (pow_pos k)))
    ∙ rw (pow-suc 2 k) (regroup f b (2 ^ k))
  where
    two : (b p : ℕ) → b < 2 → 0 < p → b * p < p * 2
    two zero p h l = omega arith
    two (suc zero) p h l = omega arith
    two (suc (suc b)) p h l = absurd (let z : ⊥ = omega arith in z)

    regroup : (f b p : ℕ) → f * (p * 2) + b * p ≡ (2 * f + b) * p
    regroup f b p = omega (arith, mul_assoc 2 f p, mul_assoc f p 2, add-mul (2 * f) b p)

-- a bit that is added to the top after n bits is one that was added n bits lower before them
late : (b n k : ℕ) → b < 2 → suc n + k ≡ 24 → b * 2 ^ 23 ≡ shifted n (b * 2 ^ k)
late b n k h e =
    let f : k + n ≡ 23 = omega arith in
    ap (λ (m : ℕ). b * 2 ^ m) (sym f) ∙ ap (λ (x : ℕ). b * x) (pow-add 2 k n) ∙ sym (mul_assoc b (2 ^ k) (2 ^ n))
    ∙ sym (shifted_low n (suc k) (b * 2 ^ k) (omega arith) (subst (λ (m : ℕ). b * 2 ^ k < 2 ^ m) (one-add k) (shl_lt 1 k h)))

pub feeds : (s : List ℕ) (r i n k : ℕ) → n + k ≡ 24 → r < 2 ^ 24 → check_bits r (bits_from s i n) ≡ shifted n (bit_xor r (field_at s i n * 2 ^ k))
unfolding check_bits bits_from field_at shifted feed_of
feeds s r i zero k e h = sym (ap (bit_xor r) (zero-mul (2 ^ k)) ∙ xor_zero_r r)
feeds s r i (suc n) k e h =
    let f = field_at s i n in
    let b = bit_at s (i + n) in
    let x = bit_xor r (f * 2 ^ suc k) in
    let hb : b < 2 = bit_lt s (i + n) in
    let hx : x < 2 ^ 24 = xor_lt 24 r (f * 2 ^ suc k) h (top_lt s i n (suc k) (omega arith)) in
    let hy : b * 2 ^ k < 2 ^ 24 = lt_of_lt_of_le (shl_lt 1 k hb) (pow_mono {i = 1 + k} {j = 24} (omega arith)) in
    checks_suc s r i n
    ∙ ap (times_x 23 polynomial) (
    ap₂ bit_xor (feeds s r i n (suc k) (omega arith) h) (late b n k hb e)
    ∙ sym (shifted_xor n x (b * 2 ^ k) hx hy)
    ∙ ap (shifted n) (xor_assoc r (f * 2 ^ suc k) (b * 2 ^ k) ∙ ap (bit_xor r) (join f b k hb)))

-- all the bits of the register at once
all_bits : (s : List ℕ) (r i : ℕ) → r < 2 ^ 24 → shifted 24 (bit_xor r (field_at s i 24)) ≡ check_bits r (bits_from s i 24)
all_bits s r i h = ap (λ (x : ℕ). shifted 24 (bit_xor r x)) (sym (mul-one (field_at s i 24))) ∙ sym (feeds s r i 24 0 refl h)

-- fewer of them, where the register is zero
first_bits : (s : List ℕ) (i n : ℕ) → n ≤ 24 → shifted 24 (field_at s i n) ≡ check_bits 0 (bits_from s i n)
first_bits s i n l =
    let k = 24 - n in
    let e : k + n ≡ 24 = omega arith in
    ap (λ (m : ℕ). shifted m (field_at s i n)) (sym e)
    ∙ sym (shifted_add n k (field_at s i n))
    ∙ ap (shifted n) (shifted_low k n (field_at s i n) (omega arith) (field_lt s i n))
    ∙ sym (feeds s 0 i n k (omega arith) (lit< tt))

-- the register r after 48 bits that say x, half by half
abbrev pub fed_of : ℕ → ℕ → ℕ
fed_of r x = shifted 24 (bit_xor (shifted 24 (bit_xor r (x / 2 ^ 24))) (x % 2 ^ 24))

pub fed_lt : (s : List ℕ) (r i n : ℕ) → n ≤ 48 → r < 2 ^ 24 → fed_of r (field_at s i n) < 2 ^ 24
fed_lt s r i n l h =
    let f = field_at s i n in
    let k : f < 2 ^ 48 = lt_of_lt_of_le (field_lt s i n) (pow_mono {i = n} {j = 48} l) in
    let q : shifted 24 (bit_xor r (f / 2 ^ 24)) < 2 ^ 24 = shifted_lt 24 _ (xor_lt 24 r (f / 2 ^ 24) h (shr_lt 24 24 k)) in
    shifted_lt 24 _ (xor_lt 24 _ (f % 2 ^ 24) q (mod-lt f (pow_pos 24)))

then_all : (s : List ℕ) (r i m : ℕ) → r < 2 ^ 24 → shifted 24 (bit_xor r (field_at s i m)) ≡ check_bits r (bits_from s i m)
    → fed_of r (field_at s i (m + 24)) ≡ check_bits r (bits_from s i (m + 24))
then_all s r i m h e =
    ap₂ (λ (x y : ℕ). shifted 24 (bit_xor (shifted 24 (bit_xor r x)) y)) (field_high s i m 24) (field_low s i m 24)
    ∙ ap (λ (q : ℕ). shifted 24 (bit_xor q (field_at s (i + m) 24))) e
    ∙ all_bits s (check_bits r (bits_from s i m)) (i + m) (checks_lt s r i m h)
    ∙ checks_split s r i m 24

-- 48 bits more
pub fed_all : (s : List ℕ) (r i : ℕ) → r < 2 ^ 24 → fed_of r (field_at s i 48) ≡ check_bits r (bits_from s i 48)
fed_all s r i h = then_all s r i 24 h (all_bits s r i h)

-- the first bits, fewer than 48: a register of zero does not see zeros
pub fed_first : (s : List ℕ) (i n : ℕ) → n < 48 → fed_of 0 (field_at s i n) ≡ check_bits 0 (bits_from s i n)
unfolding shifted times_x
fed_first s i n l =
    dite (dec_lt 24 n)
    (λ m.
    let e : n - 24 + 24 ≡ n = omega arith in
    subst (λ (k : ℕ). fed_of 0 (field_at s i k) ≡ check_bits 0 (bits_from s i k)) e (then_all s 0 i (n - 24) (lit< tt) (first_bits s i (n - 24) (omega arith))))
    (λ m.
    let h : field_at s i n < 2 ^ 24 = lt_of_lt_of_le (field_lt s i n) (pow_mono {i = n} {j = 24} (omega arith)) in
    ap₂ (λ (x y : ℕ). shifted 24 (bit_xor (shifted 24 x) y)) (div-eq_of_lt h) (mod-eq_of_lt h) ∙ first_bits s i n (omega arith))

-- by the table: the top eight bits by their entry, the others moved up
pub by_eights : (r : ℕ) → r < 2 ^ 24 → bit_xor (get_or eights (r / 2 ^ 16) 0) (r % 2 ^ 16 * 256) ≡ shifted 8 r
unfolding eights
by_eights r h =
    let q = r / 2 ^ 16 in
    let l = r % 2 ^ 16 in
    let hq : q < 256 = shr_lt 8 16 h in
    let hl : l < 2 ^ 16 = mod-lt r (pow_pos 16) in
    let hl' : l < 2 ^ 24 = lt_of_lt_of_le hl (pow_mono {i = 16} {j = 24} (omega arith)) in
    ap₂ bit_xor (get_or_table (λ (k : ℕ). shifted 8 (k * 2 ^ 16)) 256 q 0 hq) (sym (shifted_low 8 16 l (omega arith) hl))
    ∙ sym (shifted_xor 8 (q * 2 ^ 16) l (shl_lt 8 16 hq) hl')
    ∙ ap (shifted 8) (xor_shifted q 16 l hl ∙ split r 16)

-- a turn of 48 bits, and none left
pub turn : (s : List ℕ) (r a k n : ℕ) → k < n → r < 2 ^ 24 → check_bits (fed_of r (field_at s (a + 48 * k) 48)) (bits_from s (a + 48 * (k + 1)) (48 * (n - (k + 1)))) ≡ check_bits r (bits_from s (a + 48 * k) (48 * (n - k)))
turn s r a k n l h =
    let e : 48 + 48 * (n - (k + 1)) ≡ 48 * (n - k) = omega arith in
    let g : a + 48 * (k + 1) ≡ a + 48 * k + 48 = omega arith in
    rw g (ap (λ (q : ℕ). check_bits q (bits_from s (a + 48 * k + 48) (48 * (n - (k + 1))))) (fed_all s r (a + 48 * k) h))
    ∙ checks_split s r (a + 48 * k) 48 (48 * (n - (k + 1)))
    ∙ ap (λ (m : ℕ). check_bits r (bits_from s (a + 48 * k) m)) e

pub turn_end : (s : List ℕ) (r a n : ℕ) → n ≤ 0 → r ≡ check_bits r (bits_from s a (48 * n))
turn_end s r a n h = check_end s a (48 * n) r (omega arith)

-- the first bits and then whole turns
pub from_first : (s : List ℕ) (at n : ℕ) → check_bits (fed_of 0 (field_at s at (n % 48))) (bits_from s (at + n % 48) (48 * (n / 48))) ≡ check_of s at n
unfolding check_of
from_first s at n =
    let e : n % 48 + 48 * (n / 48) ≡ n = omega arith in
    ap (λ (q : ℕ). check_bits q (bits_from s (at + n % 48) (48 * (n / 48)))) (fed_first s at (n % 48) (omega arith))
    ∙ checks_split s 0 at (n % 48) (48 * (n / 48))
    ∙ ap (λ (k : ℕ). check_bits 0 (bits_from s at k)) e
