-- The register after at most 24 bits: the bits, put at the register's top and added to it, and then times x once for each.
use mathlib.Core.Path.{◌≡◌, refl, sym, ap, ap₂, ◌∙◌}
use mathlib.Core.List.{List, [], ◌∷◌, ◌++◌}
use Prim.Native.Nat.{ℕ, zero, suc, ◌+◌, ◌*◌, ◌/◌, ◌%◌, ◌^◌, ◌<◌, ◌≤◌}
use native.Mathlib.Nat.{not-suc-le-zero, le_of_suc-le-suc, add-zero, add-mul, mul_assoc, pow-suc, mul_comm}
use native.Mathlib.Numerals.{one-add}
use native.Mathlib.Omega.{arith}
use lib.Arith.{digits_lt, digits_div, digits_mod}
use lib.Pow.{pow_pos}
use lib.Dec.{lit<}
use lib.ListN.{length}
use lib.Bits.{bit_xor, xor_zero_r, xor_shifted, xor_comm}
use Rattle.bits.specs.Bits.{bit_at, bits_from, field_at}
use Rattle.bits.specs.Poly.{times_x}
use Rattle.bits.proofs.FieldLaws.{bit_lt}
use Rattle.bits.proofs.ByteWise.{field_split}
use Rattle.bits.proofs.XorLaws.{xor_assoc, xor_cancel, times_x_lt, times_x_xor, times_x_low, times_x_inj}
use Rattle.check24.specs.Check.{polynomial, feed_of, check_bits}
use Rattle.check24.proofs.CheckLaws.{in_lt, feed_lt}

-- every element is 0 or 1
abbrev pub Digits : List ℕ → Type 0
Digits [] = Unit {0}
Digits (b ∷ bs) = (b < 2) × Digits bs

pub bits_digits : (s : List ℕ) (i n : ℕ) → Digits (bits_from s i n)
unfolding bits_from
bits_digits s i zero = tt
bits_digits s i (suc n) = (bit_lt s i, bits_digits s (i + 1) n)

-- ---- the bits as the high digits of a number of k digits
pub tops : ℕ → List ℕ → ℕ
tops k [] = 0
tops zero (b ∷ bs) = 0
tops (suc k) (b ∷ bs) = b * 2 ^ k + tops k bs

pub tops_lt : (k : ℕ) (bs : List ℕ) → Digits bs → tops k bs < 2 ^ k
unfolding tops
tops_lt zero [] d = pow_pos 0
tops_lt (suc k) [] d = pow_pos (suc k)
tops_lt zero (b ∷ bs) d = pow_pos 0
tops_lt (suc k) (b ∷ bs) d = rw (pow-suc 2 k, mul_comm (2 ^ k) 2) (digits_lt d.0 (tops_lt k bs d.1))

tops_dbl : (k : ℕ) (bs : List ℕ) → length bs ≤ k → tops (suc k) bs ≡ tops k bs * 2
unfolding tops
tops_dbl k [] h = refl
tops_dbl zero (b ∷ bs) h = absurd (not-suc-le-zero h)
tops_dbl (suc k) (b ∷ bs) h =
    ap₂ ◌+◌ (ap (λ (x : ℕ). b * x) (pow-suc 2 k) ∙ sym (mul_assoc b (2 ^ k) 2)) (tops_dbl k bs (le_of_suc-le-suc h))
    ∙ sym (add-mul (b * 2 ^ k) (tops k bs) 2)

pub tops_inj : (k : ℕ) (bs cs : List ℕ) → Digits bs → Digits cs → length bs ≡ length cs → length bs ≤ k → tops k bs ≡ tops k cs → bs ≡ cs
unfolding tops
tops_inj k [] [] d f l h e = refl
tops_inj k [] (c ∷ cs) d f l h e = absurd (let z : ⊥ = omega arith in z)
tops_inj k (b ∷ bs) [] d f l h e = absurd (let z : ⊥ = omega arith in z)
tops_inj zero (b ∷ bs) (c ∷ cs) d f l h e = absurd (not-suc-le-zero h)
tops_inj (suc k) (b ∷ bs) (c ∷ cs) d f l h e =
    let x : tops k bs < 2 ^ k = tops_lt k bs d.1 in
    let y : tops k cs < 2 ^ k = tops_lt k cs f.1 in
    ap₂ {C = List ℕ} (λ a r. a ∷ r)
    (sym (digits_div b x) ∙ ap (λ (n : ℕ). n / 2 ^ k) e ∙ digits_div c y)
    (tops_inj k bs cs d.1 f.1 (omega arith) (le_of_suc-le-suc h)
    (sym (digits_mod b x) ∙ ap (λ (n : ℕ). n % 2 ^ k) e ∙ digits_mod c y))

-- a field is the number of its bits
pub field_tops : (s : List ℕ) (i n : ℕ) → field_at s i n ≡ tops n (bits_from s i n)
unfolding tops field_at bits_from
field_tops s i zero = refl
field_tops s i (suc n) =
    let b : field_at s i 1 ≡ bit_at s i = rw (add-zero i) (omega arith) in
    ap (field_at s i) (sym (one-add n)) ∙ field_split s i 1 n ∙ ap₂ (λ (x y : ℕ). x * 2 ^ n + y) b (field_tops s (i + 1) n)

-- ---- times x, n times
abbrev next : ℕ → ℕ
next x = times_x 23 polynomial x

next_lt : (x : ℕ) → x < 2 ^ 24 → next x < 2 ^ 24
next_lt x h = times_x_lt 23 0x864CFB (lit< tt) x h

pub iter : ℕ → ℕ → ℕ
iter zero x = x
iter (suc n) x = iter n (next x)

pub iter_zero : (n : ℕ) → iter n 0 ≡ 0
unfolding iter
iter_zero zero = refl
iter_zero (suc n) = ap (iter n) (times_x_low 23 polynomial 0 (lit< tt)) ∙ iter_zero n

pub iter_inj : (n x y : ℕ) → x < 2 ^ 24 → y < 2 ^ 24 → iter n x ≡ iter n y → x ≡ y
unfolding iter
iter_inj zero x y h k e = e
iter_inj (suc n) x y h k e = times_x_inj 23 polynomial refl x y h k (iter_inj n (next x) (next y) (next_lt x h) (next_lt y k) e)

-- ---- the register
pub check_lt : (bs : List ℕ) (r : ℕ) → Digits bs → r < 2 ^ 24 → check_bits r bs < 2 ^ 24
unfolding check_bits
check_lt [] r d h = h
check_lt (b ∷ bs) r d h = check_lt bs (feed_of r b) d.1 (feed_lt r b h d.0)

pub check_append : (fs bs : List ℕ) (r : ℕ) → check_bits r (fs ++ bs) ≡ check_bits (check_bits r fs) bs
unfolding check_bits
check_append [] bs r = refl
check_append (f ∷ fs) bs r = check_append fs bs (feed_of r f)

-- equal bits keep different registers apart
pub check_inj : (bs : List ℕ) (r q : ℕ) → Digits bs → r < 2 ^ 24 → q < 2 ^ 24 → check_bits r bs ≡ check_bits q bs → r ≡ q
unfolding check_bits feed_of
check_inj [] r q d h k e = e
check_inj (b ∷ bs) r q d h k e =
    let f : feed_of r b ≡ feed_of q b = check_inj bs (feed_of r b) (feed_of q b) d.1 (feed_lt r b h d.0) (feed_lt q b k d.0) e in
    let g : bit_xor r (b * 2 ^ 23) ≡ bit_xor q (b * 2 ^ 23) = times_x_inj 23 polynomial refl _ _ (in_lt r b h d.0) (in_lt q b k d.0) f in
    xor_cancel (b * 2 ^ 23) r q (xor_comm (b * 2 ^ 23) r ∙ g ∙ xor_comm q (b * 2 ^ 23))

-- at most 24 bits at once
pub window : (bs : List ℕ) (r : ℕ) → Digits bs → length bs ≤ 24 → r < 2 ^ 24 → check_bits r bs ≡ iter (length bs) (bit_xor r (tops 24 bs))
unfolding check_bits iter tops feed_of
window [] r d h k = sym (xor_zero_r r)
window (b ∷ bs) r d h k =
    let l : tops 23 bs < 2 ^ 23 = tops_lt 23 bs d.1 in
    let m : tops 23 bs < 2 ^ 24 = omega arith in
    let s : bit_xor r (b * 2 ^ 23) < 2 ^ 24 = in_lt r b k d.0 in
    window bs (feed_of r b) d.1 (omega arith) (feed_lt r b k d.0)
    ∙ ap (iter (length bs))
    (ap (bit_xor (feed_of r b)) (tops_dbl 23 bs (le_of_suc-le-suc h) ∙ sym (times_x_low 23 polynomial (tops 23 bs) l))
    ∙ sym (times_x_xor 23 polynomial (bit_xor r (b * 2 ^ 23)) (tops 23 bs) s m)
    ∙ ap next (xor_assoc r (b * 2 ^ 23) (tops 23 bs) ∙ ap (bit_xor r) (xor_shifted b 23 (tops 23 bs) l)))
