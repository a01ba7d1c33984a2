-- Laws of writing bits and fields, for any width.
use mathlib.Core.Path.{◌≡◌, refl, sym, ap, ap₂, ◌∙◌, subst}
use mathlib.Core.Logic.{dite, ◌≢◌, ◌⊎◌, inl, inr}
use Prim.Native.Nat.{ℕ, zero, suc, ◌+◌, ◌-◌, ◌*◌, ◌/◌, ◌%◌, ◌^◌, ◌≤◌, ◌<◌}
use mathlib.Core.List.{List}
use lib.ListN.{get_or, set, length, length-set}
use lib.Seq.{get_or-set_same, get_or-set_other, set_out}
use lib.Pow.{pow_pos, pow-add, high, low, field, mod-mod-pow, mod-pow-add, shr_lt, shl_exact}
use lib.Dec.{lit<}
use lib.Arith.{digits_lt}
use native.Mathlib.Nat.{mod-lt, pow-suc, pow-succ', div-div-eq-div-mul, one-mul, not-suc-le-zero, div-one}
use native.Mathlib.Decide.{dec_lt, ℕ_discrete}
use native.Mathlib.Numerals.{add-one}
use native.Mathlib.Omega.{arith}
use Rattle.bits.specs.Bits.{bit_at, field_at, byte_with, set_bit, put_at}

-- ---- one byte
byte_high : (x h b : ℕ) → byte_with x h b / 2 ^ h ≡ x / 2 ^ h / 2 * 2 + b
unfolding byte_with
byte_high x h b = high (x / 2 ^ h / 2 * 2 + b) h (mod-lt x (pow_pos h))

byte_low : (x h b : ℕ) → byte_with x h b % 2 ^ h ≡ x % 2 ^ h
unfolding byte_with
byte_low x h b = low (x / 2 ^ h / 2 * 2 + b) h (mod-lt x (pow_pos h))

byte_same : (x h b : ℕ) → b < 2 → byte_with x h b / 2 ^ h % 2 ≡ b
byte_same x h b l = rw (byte_high x h b) (omega arith)

div_pow : (a h d : ℕ) → a / 2 ^ (h + suc d) ≡ a / 2 ^ h / 2 / 2 ^ d
div_pow a h d =
    ap (λ (p : ℕ). a / p) (pow-add 2 h (suc d) ∙ ap (λ (p : ℕ). 2 ^ h * p) (pow-succ' 2 d))
    ∙ sym (div-div-eq-div-mul a (2 ^ h) (2 * 2 ^ d))
    ∙ sym (div-div-eq-div-mul (a / 2 ^ h) 2 (2 ^ d))

byte_above : (x h b d : ℕ) → b < 2 → byte_with x h b / 2 ^ (h + suc d) % 2 ≡ x / 2 ^ (h + suc d) % 2
byte_above x h b d l =
    let e : byte_with x h b / 2 ^ h / 2 ≡ x / 2 ^ h / 2 = rw (byte_high x h b) (omega arith) in
    rw (div_pow (byte_with x h b) h d, e, div_pow x h d)

-- bit k of a number is that of its 1 + k low digits
bit_of_low : (a b k d : ℕ) → a % 2 ^ (d + (1 + k)) ≡ b % 2 ^ (d + (1 + k)) → a / 2 ^ k % 2 ≡ b / 2 ^ k % 2
bit_of_low a b k d e =
    sym (field a 1 k)
    ∙ ap (λ (x : ℕ). x / 2 ^ k) (sym (mod-mod-pow a d (1 + k)) ∙ ap (λ (x : ℕ). x % 2 ^ (1 + k)) e ∙ mod-mod-pow b d (1 + k))
    ∙ field b 1 k

byte_other : (x h b k : ℕ) → b < 2 → h ≢ k → byte_with x h b / 2 ^ k % 2 ≡ x / 2 ^ k % 2
byte_other x h b k l ne =
    dite (dec_lt h k)
    (λ lt.
    let e : h + suc (k - h - 1) ≡ k = omega arith in
    subst (λ (j : ℕ). byte_with x h b / 2 ^ j % 2 ≡ x / 2 ^ j % 2) e (byte_above x h b (k - h - 1) l))
    (λ nl.
    let e : h ≡ (h - k - 1) + (1 + k) = omega arith in
    bit_of_low (byte_with x h b) x k (h - k - 1)
    (subst (λ (j : ℕ). byte_with x h b % 2 ^ j ≡ x % 2 ^ j) e (byte_low x h b)))

pub byte_lt : (x h b : ℕ) → x < 256 → h < 8 → b < 2 → byte_with x h b < 256
unfolding byte_with
byte_lt x h b lx lh lb =
    let e : (7 - h) + suc h ≡ 8 = omega arith in
    let y : x / 2 ^ h < 2 ^ suc (7 - h) =
    shr_lt (suc (7 - h)) h (subst (λ (j : ℕ). x < 2 ^ j) (sym (let f : suc (7 - h) + h ≡ 8 = omega arith in f)) lx) in
    let z : x / 2 ^ h / 2 * 2 + b < 2 ^ suc (7 - h) = rw (pow-suc 2 (7 - h)) (omega (arith, rw (pow-suc 2 (7 - h)) at y)) in
    let w : 2 ^ suc (7 - h) * 2 ^ h ≡ 256 = sym (pow-add 2 (suc (7 - h)) h) ∙ ap (λ (j : ℕ). 2 ^ j) (let f : suc (7 - h) + h ≡ 8 = omega arith in f) in
    subst (λ (t : ℕ). (x / 2 ^ h / 2 * 2 + b) * 2 ^ h + x % 2 ^ h < t) w (digits_lt z (mod-lt x (pow_pos h)))

-- ---- one bit
pub length_set_bit : (s : List ℕ) (i b : ℕ) → length (set_bit s i b) ≡ length s
unfolding set_bit
length_set_bit s i b = length-set s (i / 8) _

pub bit_set_same : (s : List ℕ) (i b : ℕ) → i < 8 * length s → b < 2 → bit_at (set_bit s i b) i ≡ b
unfolding bit_at set_bit
bit_set_same s i b l lb =
    ap (λ (x : ℕ). x / 2 ^ (7 - i % 8) % 2) (get_or-set_same s (i / 8) _ 0 (omega arith)) ∙ byte_same _ _ b lb

bit_set_in : (s : List ℕ) (i j b : ℕ) → b < 2 → i ≢ j → i / 8 ≡ j / 8 → bit_at (set_bit s i b) j ≡ bit_at s j
unfolding bit_at set_bit
bit_set_in s i j b lb ne e =
    dite (dec_lt (i / 8) (length s))
    (λ l. rw (← e) (ap (λ (x : ℕ). x / 2 ^ (7 - j % 8) % 2) (get_or-set_same s (i / 8) _ 0 l)
    ∙ byte_other _ (7 - i % 8) b (7 - j % 8) lb (λ q. ne (omega arith))))
    (λ nl. ap (λ (t : List ℕ). get_or t (j / 8) 0 / 2 ^ (7 - j % 8) % 2) (set_out s (i / 8) _ (omega arith)))

bit_set_away : (s : List ℕ) (i j b : ℕ) → i / 8 ≢ j / 8 → bit_at (set_bit s i b) j ≡ bit_at s j
unfolding bit_at set_bit
bit_set_away s i j b n = ap (λ (x : ℕ). x / 2 ^ (7 - j % 8) % 2) (get_or-set_other s (i / 8) (j / 8) _ 0 (λ q. n (sym q)))

pub bit_set_other : (s : List ℕ) (i j b : ℕ) → b < 2 → i ≢ j → bit_at (set_bit s i b) j ≡ bit_at s j
bit_set_other s i j b lb ne = dite (ℕ_discrete (i / 8) (j / 8)) (bit_set_in s i j b lb ne) (bit_set_away s i j b)

-- ---- a field
pub length_put : (s : List ℕ) (at n v : ℕ) → length (put_at s at n v) ≡ length s
unfolding put_at
length_put s at zero v = refl
length_put s at (suc n) v = length_put (set_bit s (at + n) (v % 2)) at n (v / 2) ∙ length_set_bit s (at + n) (v % 2)

-- a bit outside the field is as it was
pub bit_put_out : (s : List ℕ) (at n v j : ℕ) → ((k : ℕ) → k < n → at + k ≢ j) → bit_at (put_at s at n v) j ≡ bit_at s j
unfolding put_at
bit_put_out s at zero v j out = refl
bit_put_out s at (suc n) v j out =
    bit_put_out (set_bit s (at + n) (v % 2)) at n (v / 2) j (λ k l. out k (omega arith))
    ∙ bit_set_other s (at + n) j (v % 2) (omega arith) (out n (omega arith))

-- fields of equal bits are equal
pub field_ext : (s t : List ℕ) (at n : ℕ) → ((k : ℕ) → k < n → bit_at s (at + k) ≡ bit_at t (at + k)) → field_at s at n ≡ field_at t at n
unfolding field_at
field_ext s t at zero e = refl
field_ext s t at (suc n) e = ap₂ (λ (x y : ℕ). 2 * x + y) (field_ext s t at n (λ k l. e k (omega arith))) (e n (omega arith))

-- reading back gives v's n low bits
pub field_put : (s : List ℕ) (at n v : ℕ) → at + n ≤ 8 * length s → field_at (put_at s at n v) at n ≡ v % 2 ^ n
unfolding put_at field_at
field_put s at zero v l = omega arith
field_put s at (suc n) v l =
    let t = set_bit s (at + n) (v % 2) in
    let e : length t ≡ length s = length_set_bit s (at + n) (v % 2) in
    let p : field_at (put_at t at n (v / 2)) at n ≡ v / 2 % 2 ^ n = field_put t at n (v / 2) (omega arith) in
    let q : bit_at (put_at t at n (v / 2)) (at + n) ≡ v % 2 =
    bit_put_out t at n (v / 2) (at + n) (λ k h. λ z. omega arith)
    ∙ bit_set_same s (at + n) (v % 2) (omega arith) (omega arith) in
    ap₂ (λ (x y : ℕ). 2 * x + y) p q ∙ (let r : v % 2 ^ (n + 1) ≡ (v / 2 % 2 ^ n) * 2 + v % 2 = mod-pow-add v n 1 in rw (← add-one n) (omega arith))

-- reading any other field gives what it gave before
pub field_put_other : (s : List ℕ) (at n v at' n' : ℕ) → (at' + n' ≤ at) ⊎ (at + n ≤ at') → field_at (put_at s at n v) at' n' ≡ field_at s at' n'
field_put_other s at n v at' n' (inl b) = field_ext _ _ at' n' (λ k l. bit_put_out s at n v (at' + k) (λ j h. λ z. omega arith))
field_put_other s at n v at' n' (inr b) = field_ext _ _ at' n' (λ k l. bit_put_out s at n v (at' + k) (λ j h. λ z. omega arith))

-- a shift of 1 by less than 8
pub shl_small : (h : ℕ) → h < 63 → (1 * 2 ^ h) % 2 ^ 64 ≡ 2 ^ h
shl_small h l = shl_exact 1 h 64 (lit< tt) (omega arith) ∙ one-mul (2 ^ h)

pub shl_one : (h : ℕ) → h < 8 → (1 * 2 ^ h) % 2 ^ 64 ≡ 2 ^ h
shl_one h l = shl_small h (omega arith)

pub set_split : (s : List ℕ) (at k b : ℕ) → set_bit s (at + k) b ≡ set s (at / 8 + (at % 8 + k) / 8) (byte_with (get_or s (at / 8 + (at % 8 + k) / 8) 0) (7 - (at % 8 + k) % 8) b)
unfolding set_bit
set_split s at k b =
    let e : (at + k) / 8 ≡ at / 8 + (at % 8 + k) / 8 = omega arith in
    let f : (at + k) % 8 ≡ (at % 8 + k) % 8 = omega arith in
    rw (e, f)

pub set_past : (s : List ℕ) (at k b : ℕ) → length s ≤ at / 8 + (at % 8 + k) / 8 → set_bit s (at + k) b ≡ s
set_past s at k b h = set_split s at k b ∙ set_out s (at / 8 + (at % 8 + k) / 8) _ h

-- the last bit of a field first
pub put_step : (s : List ℕ) (at k v : ℕ) → 0 < k → put_at s at k v ≡ put_at (set_bit s (at + (k - 1)) (v % 2)) at (k - 1) (v / 2)
unfolding put_at
put_step s at zero v h = absurd (not-suc-le-zero h)
put_step s at (suc k) v h = let e : suc k - 1 ≡ k = omega arith in rw e

pub put_none : (s : List ℕ) (at v : ℕ) → put_at s at 0 v ≡ s
unfolding put_at
put_none s at v = refl

-- a bit inside the field is that of v
pub bit_put_in : (s : List ℕ) (at n v k : ℕ) → at + n ≤ 8 * length s → k < n → bit_at (put_at s at n v) (at + k) ≡ v / 2 ^ (n - 1 - k) % 2
unfolding put_at
bit_put_in s at zero v k l h = absurd (not-suc-le-zero h)
bit_put_in s at (suc n) v k l h =
    let t = set_bit s (at + n) (v % 2) in
    dite (dec_lt k n)
    (λ lt.
    let e : suc n - 1 - k ≡ suc (n - 1 - k) = omega arith in
    bit_put_in t at n (v / 2) k (omega (arith, length_set_bit s (at + n) (v % 2))) lt
    ∙ ap (λ (x : ℕ). x % 2) (div-div-eq-div-mul v 2 (2 ^ (n - 1 - k)) ∙ ap (λ (p : ℕ). v / p) (sym (pow-succ' 2 (n - 1 - k))) ∙ ap (λ (p : ℕ). v / 2 ^ p) (sym e)))
    (λ nl.
    let e : k ≡ n = omega arith in
    let z : suc n - 1 - n ≡ 0 = omega arith in
    rw (e, z)
    (bit_put_out t at n (v / 2) (at + n) (λ j g. λ q. omega arith)
    ∙ bit_set_same s (at + n) (v % 2) (omega arith) (omega arith)
    ∙ ap (λ (x : ℕ). x % 2) (sym (div-one v))))
