-- Laws of the sum of polynomials over the field of two, and of the product by x.
use mathlib.Core.Path.{◌≡◌, refl, sym, ap, ap₂, ◌∙◌}
use mathlib.Core.Bool.{Bool, true, false}
use Prim.Native.Nat.{ℕ, zero, suc, ◌+◌, ◌*◌, ◌/◌, ◌%◌, ◌^◌, ◌<◌, ◌≤◌}
use native.Mathlib.Nat.{not-suc-le-zero, le_of_suc-le-suc, mod-lt, zero-lt-suc, pow-suc, add-zero, zero-add, one-mul, zero-mul, div-eq_of_lt, le-div_iff_mul-le, mul-lt-mul_of_pos_right, add-mul, mul-add, mul_assoc}
use native.Mathlib.Omega.{arith}
use lib.Arith.{bin_ind, digits_mod}
use lib.Pow.{pow_pos, shr_lt, split}
use native.Mathlib.Numerals.{one-add}
use lib.Dec.{ltb, lit<}
use lib.Bits.{bit_xor, differ, xor_step, xor_shr, xor_lt, xor_self, xor_comm, xor_zero_r, xor_block}
use borrow.Author.Tests.{lt-ltb, ltb-true, ltb-false}
use Rattle.bits.specs.Pick.{pick}
use Rattle.bits.specs.Poly.{times_x}

-- a digit is 0 or 1
digit : (P : ℕ → Type 0) → P 0 → P 1 → (x : ℕ) → x < 2 → P x
digit P p q zero h = p
digit P p q (suc zero) h = q
digit P p q (suc (suc x)) h = absurd (not-suc-le-zero (le_of_suc-le-suc (le_of_suc-le-suc h)))

differ_lt : (x y : ℕ) → x < 2 → y < 2 → differ x y < 2
differ_lt x y h k =
    digit (λ (x : ℕ). differ x y < 2) k (digit (λ (y : ℕ). differ 1 y < 2) (lit< tt) (lit< tt) y k) x h

differ_assoc : (x y z : ℕ) → x < 2 → y < 2 → z < 2 → differ (differ x y) z ≡ differ x (differ y z)
differ_assoc x y z hx hy hz =
    digit (λ (x : ℕ). differ (differ x y) z ≡ differ x (differ y z)) refl
    (digit (λ (y : ℕ). differ (differ 1 y) z ≡ differ 1 (differ y z)) refl
    (digit (λ (z : ℕ). z ≡ differ 1 (differ 1 z)) refl refl z hz) y hy) x hx

abbrev two_pos : 0 < 2
two_pos = zero-lt-suc 1

low_digit : (a b : ℕ) → bit_xor a b % 2 ≡ differ (a % 2) (b % 2)
low_digit a b =
    ap (λ (x : ℕ). x % 2) (xor_step a b)
    ∙ digits_mod (bit_xor (a / 2) (b / 2)) (differ_lt (a % 2) (b % 2) (mod-lt a two_pos) (mod-lt b two_pos))

pub xor_assoc : (a b c : ℕ) → bit_xor (bit_xor a b) c ≡ bit_xor a (bit_xor b c)
xor_assoc =
    bin_ind (λ (n : ℕ). (b c : ℕ) → bit_xor (bit_xor n b) c ≡ bit_xor n (bit_xor b c)) (λ b c. refl)
    (λ n ih b c.
    xor_step (bit_xor n b) c
    ∙ ap₂ (λ (x y : ℕ). bit_xor x (c / 2) * 2 + differ y (c % 2)) (xor_shr n b 1) (low_digit n b)
    ∙ ap₂ (λ (x y : ℕ). x * 2 + y) (ih (b / 2) (c / 2)) (differ_assoc (n % 2) (b % 2) (c % 2) (mod-lt n two_pos) (mod-lt b two_pos) (mod-lt c two_pos))
    ∙ sym (ap₂ (λ (x y : ℕ). bit_xor (n / 2) x * 2 + differ (n % 2) y) (xor_shr b c 1) (low_digit b c))
    ∙ sym (xor_step n (bit_xor b c)))

-- a ⊕ (a ⊕ b) is b
pub xor_back : (a b : ℕ) → bit_xor a (bit_xor a b) ≡ b
xor_back a b = sym (xor_assoc a a b) ∙ ap (λ (x : ℕ). bit_xor x b) (xor_self a)

pub xor_cancel : (a b c : ℕ) → bit_xor a b ≡ bit_xor a c → b ≡ c
xor_cancel a b c e = sym (xor_back a b) ∙ ap (bit_xor a) e ∙ xor_back a c

pub xor_zero : (a b : ℕ) → bit_xor a b ≡ 0 → a ≡ b
xor_zero a b e = xor_cancel b a b (xor_comm b a ∙ e ∙ sym (xor_self b))

pub xor_swap : (a b c d : ℕ) → bit_xor (bit_xor a b) (bit_xor c d) ≡ bit_xor (bit_xor a c) (bit_xor b d)
xor_swap a b c d =
    xor_assoc a b (bit_xor c d)
    ∙ ap (bit_xor a) (sym (xor_assoc b c d) ∙ ap (λ (x : ℕ). bit_xor x d) (xor_comm b c) ∙ xor_assoc c b d)
    ∙ sym (xor_assoc a c (bit_xor b d))

pub xor_dbl : (a b : ℕ) → bit_xor (a * 2) (b * 2) ≡ bit_xor a b * 2
xor_dbl a b =
    ap₂ bit_xor (sym (add-zero (a * 2))) (sym (add-zero (b * 2)))
    ∙ xor_block 1 a b 0 0 (lit< tt) (lit< tt)
    ∙ add-zero (bit_xor a b * 2)

-- the product by x, with no test: a's top digit says whether p is added
module _ (k p : ℕ) where
  top : (a : ℕ) → a < 2 ^ suc k → a / 2 ^ k < 2
  top a h = shr_lt 1 k (rw (one-add k) h)

  top_set : (a : ℕ) → a < 2 ^ suc k → 2 ^ k ≤ a → a / 2 ^ k ≡ 1
  top_set a h l =
      let t : a / 2 ^ k < 2 = top a h in
      let u : 1 ≤ a / 2 ^ k = (le-div_iff_mul-le (pow_pos k)).1 (rw (one-mul (2 ^ k)) l) in
      omega arith

  pub plain : (a : ℕ) → a < 2 ^ suc k → times_x k p a ≡ bit_xor (a * 2) (a / 2 ^ k * p)
  unfolding times_x
  plain a h = go (ltb a (2 ^ k)) refl
    where
      go : (t : Bool) → ltb a (2 ^ k) ≡ t → pick t (a * 2) (bit_xor (a * 2) p) ≡ bit_xor (a * 2) (a / 2 ^ k * p)
      go true e = sym (ap (bit_xor (a * 2)) (ap (λ (x : ℕ). x * p) (div-eq_of_lt (ltb-true a (2 ^ k) e)) ∙ zero-mul p) ∙ xor_zero_r (a * 2))
      go false e = sym (ap (bit_xor (a * 2)) (ap (λ (x : ℕ). x * p) (top_set a h (ltb-false a (2 ^ k) e)) ∙ one-mul p))

  tops : (x y : ℕ) → x < 2 → y < 2 → bit_xor x y * p ≡ bit_xor (x * p) (y * p)
  tops x y hx hy =
      digit (λ (x : ℕ). bit_xor x y * p ≡ bit_xor (x * p) (y * p)) (sym (ap (λ (z : ℕ). bit_xor z (y * p)) (zero-mul p)))
      (digit (λ (y : ℕ). bit_xor 1 y * p ≡ bit_xor (1 * p) (y * p)) (sym (ap (bit_xor (1 * p)) (zero-mul p) ∙ xor_zero_r (1 * p)))
      (zero-mul p ∙ sym (xor_self (1 * p))) y hy) x hx

  -- the product by x goes through a sum
  pub times_x_xor : (a b : ℕ) → a < 2 ^ suc k → b < 2 ^ suc k → times_x k p (bit_xor a b) ≡ bit_xor (times_x k p a) (times_x k p b)
  times_x_xor a b ha hb =
      plain (bit_xor a b) (xor_lt (suc k) a b ha hb)
      ∙ ap₂ bit_xor (sym (xor_dbl a b)) (ap (λ (x : ℕ). x * p) (xor_shr a b k) ∙ tops (a / 2 ^ k) (b / 2 ^ k) (top a ha) (top b hb))
      ∙ xor_swap (a * 2) (b * 2) (a / 2 ^ k * p) (b / 2 ^ k * p)
      ∙ sym (ap₂ bit_xor (plain a ha) (plain b hb))

  -- nothing is taken off a number with no top digit
  pub times_x_low : (a : ℕ) → a < 2 ^ k → times_x k p a ≡ a * 2
  unfolding times_x
  times_x_low a h = simp (lt-ltb a (2 ^ k) h)

  -- with a constant term in p, only zero goes to zero
  pub times_x_zero : p % 2 ≡ 1 → (a : ℕ) → times_x k p a ≡ 0 → a ≡ 0
  unfolding times_x
  times_x_zero odd a = go (ltb a (2 ^ k))
    where
      go : (t : Bool) → pick t (a * 2) (bit_xor (a * 2) p) ≡ 0 → a ≡ 0
      go true e = omega arith
      go false e = let z : a * 2 ≡ p = xor_zero (a * 2) p e in omega arith

  pub times_x_inj : p % 2 ≡ 1 → (a b : ℕ) → a < 2 ^ suc k → b < 2 ^ suc k → times_x k p a ≡ times_x k p b → a ≡ b
  times_x_inj odd a b ha hb e =
      xor_zero a b (times_x_zero odd (bit_xor a b)
      (times_x_xor a b ha hb ∙ ap (λ (x : ℕ). bit_xor x (times_x k p b)) e ∙ xor_self (times_x k p b)))

-- the product by x stays below the top digit of p
pub times_x_lt : (k q : ℕ) → q < 2 ^ suc k → (a : ℕ) → a < 2 ^ suc k → times_x k (2 ^ suc k + q) a < 2 ^ suc k
times_x_lt k q hq a h =
    let t = a / 2 ^ k in
    let r = a % 2 ^ k in
    let hr : r * 2 < 2 ^ suc k = rw (pow-suc 2 k) (mul-lt-mul_of_pos_right (mod-lt a (pow_pos k)) two_pos) in
    let ht : t * q < 2 ^ suc k = digit (λ (x : ℕ). x * q < 2 ^ suc k) (rw (zero-mul q) (pow_pos (suc k))) (rw (one-mul q) hq) t (top k q a h) in
    let e : a * 2 ≡ t * 2 ^ suc k + r * 2 = ap (λ (x : ℕ). x * 2) (sym (split a k)) ∙ add-mul (t * 2 ^ k) r 2 ∙ ap (λ (x : ℕ). x + r * 2) (mul_assoc t (2 ^ k) 2 ∙ ap (λ (x : ℕ). t * x) (sym (pow-suc 2 k))) in
    let f : bit_xor (a * 2) (t * (2 ^ suc k + q)) ≡ bit_xor (r * 2) (t * q) =
    ap₂ bit_xor e (mul-add t (2 ^ suc k) q) ∙ xor_block (suc k) t t (r * 2) (t * q) hr ht
    ∙ ap (λ (x : ℕ). x * 2 ^ suc k + bit_xor (r * 2) (t * q)) (xor_self t) ∙ ap (λ (x : ℕ). x + bit_xor (r * 2) (t * q)) (zero-mul (2 ^ suc k)) ∙ zero-add (bit_xor (r * 2) (t * q)) in
    rw (plain k (2 ^ suc k + q) a h, f) (xor_lt (suc k) (r * 2) (t * q) hr ht)
