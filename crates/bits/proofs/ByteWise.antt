-- Reading a field by bytes.
use mathlib.Core.Path.{◌≡◌, sym, ap, ap₂, ◌∙◌}
use Prim.Native.Nat.{ℕ, zero, suc, ◌+◌, ◌-◌, ◌*◌, ◌/◌, ◌%◌, ◌^◌, ◌≤◌, ◌<◌, min}
use mathlib.Core.List.{List}
use lib.ListN.{get_or}
use lib.Pow.{pow_pos, pow-add, mod-pow-add, pow_mono}
use native.Mathlib.Nat.{pow-suc, div-div-eq-div-mul, add-suc, add-zero, mul_assoc, add-mul, mod-one, le-mul_of_pos_right}
use native.Mathlib.Numerals.{add-one}
use native.Mathlib.Omega.{arith}
use Rattle.bits.specs.Bits.{bit_at, field_at}
use Rattle.bits.proofs.FieldLaws.{field_lt, field_zero}
use mathlib.Core.Logic.{dite}
use native.Mathlib.Decide.{dec_lt}

-- a field is its first bits and then the others
pub field_split : (s : List ℕ) (at m n : ℕ) → field_at s at (m + n) ≡ field_at s at m * 2 ^ n + field_at s (at + m) n
unfolding field_at
field_split s at m zero = rw (add-zero m) (omega arith)
field_split s at m (suc n) =
    let h : field_at s at (m + n) ≡ field_at s at m * 2 ^ n + field_at s (at + m) n = field_split s at m n in
    let e : at + m + n ≡ at + (m + n) = omega arith in
    let p : field_at s at m * (2 ^ n * 2) ≡ field_at s at m * 2 ^ n * 2 = sym (mul_assoc (field_at s at m) (2 ^ n) 2) in
    rw (add-suc m n, pow-suc 2 n, e) (omega arith)

-- a field within one byte
pub field_byte : (s : List ℕ) (j r m : ℕ) → r + m ≤ 8 → field_at s (8 * j + r) m ≡ get_or s j 0 / 2 ^ (8 - r - m) % 2 ^ m
unfolding field_at bit_at
field_byte s j r zero l = sym (mod-one (get_or s j 0 / 2 ^ (8 - r - 0)))
field_byte s j r (suc m) l =
    let b = get_or s j 0 in
    let e = 8 - r - suc m in
    let h : field_at s (8 * j + r) m ≡ b / 2 ^ (8 - r - m) % 2 ^ m = field_byte s j r m (omega arith) in
    let k : 8 - r - m ≡ e + 1 = omega arith in
    let d : b / 2 ^ (e + 1) ≡ b / 2 ^ e / 2 = ap (λ (p : ℕ). b / p) (pow-add 2 e 1) ∙ sym (div-div-eq-div-mul b (2 ^ e) 2) in
    let q : (8 * j + r + m) / 8 ≡ j = omega arith in
    let u : 7 - (8 * j + r + m) % 8 ≡ e = omega arith in
    let g : field_at s (8 * j + r) m ≡ b / 2 ^ e / 2 % 2 ^ m = h ∙ ap (λ (x : ℕ). b / 2 ^ x % 2 ^ m) k ∙ ap (λ (x : ℕ). x % 2 ^ m) d in
    let t : b / 2 ^ e % 2 ^ suc m ≡ (b / 2 ^ e / 2 % 2 ^ m) * 2 + b / 2 ^ e % 2 = ap (λ (x : ℕ). b / 2 ^ e % 2 ^ x) (sym (add-one m)) ∙ mod-pow-add (b / 2 ^ e) m 1 in
    rw (q, u, g) (omega arith)

-- what a turn adds to x
abbrev pub more_of : ℕ → ℕ → ℕ → ℕ → ℕ
more_of x b r m = x * 2 ^ m + b / 2 ^ (8 - r - m) % 2 ^ m

tail : (s : List ℕ) (j r left : ℕ) → r < 8 → field_at s (8 * j + r + min left (8 - r)) (left - min left (8 - r)) ≡ field_at s (8 * (j + 1) + 0) (left - min left (8 - r))
tail s j r left h =
    dite (dec_lt left (8 - r))
    (λ l. let e : left - min left (8 - r) ≡ 0 = omega arith in rw e (field_zero _ _ ∙ sym (field_zero _ _)))
    (λ nl. let e : 8 * j + r + min left (8 - r) ≡ 8 * (j + 1) + 0 = omega arith in rw e)

-- a turn: x and the bits that are left say the same
pub turn : (s : List ℕ) (x j r left : ℕ) → r < 8 → x * 2 ^ left + field_at s (8 * j + r) left ≡ more_of x (get_or s j 0) r (min left (8 - r)) * 2 ^ (left - min left (8 - r)) + field_at s (8 * (j + 1) + 0) (left - min left (8 - r))
turn s x j r left h =
    let m = min left (8 - r) in
    let k = left - m in
    let e : left ≡ m + k = omega arith in
    let f : field_at s (8 * j + r) left ≡ get_or s j 0 / 2 ^ (8 - r - m) % 2 ^ m * 2 ^ k + field_at s (8 * (j + 1) + 0) k =
    ap (field_at s (8 * j + r)) e
    ∙ field_split s (8 * j + r) m k
    ∙ ap₂ (λ (y z : ℕ). y * 2 ^ k + z) (field_byte s j r m (omega arith)) (tail s j r left h) in
    let p : x * 2 ^ left ≡ x * 2 ^ m * 2 ^ k = ap (λ (y : ℕ). x * 2 ^ y) e ∙ ap (λ (y : ℕ). x * y) (pow-add 2 m k) ∙ sym (mul_assoc x (2 ^ m) (2 ^ k)) in
    let q : more_of x (get_or s j 0) r m * 2 ^ k ≡ x * 2 ^ m * 2 ^ k + get_or s j 0 / 2 ^ (8 - r - m) % 2 ^ m * 2 ^ k = add-mul (x * 2 ^ m) (get_or s j 0 / 2 ^ (8 - r - m) % 2 ^ m) (2 ^ k) in
    omega arith

-- so what is read so far fits
pub turn_fits : (s : List ℕ) (x j r left at n : ℕ) → r < 8 → n ≤ 64 → x * 2 ^ left + field_at s (8 * j + r) left ≡ field_at s at n → more_of x (get_or s j 0) r (min left (8 - r)) < 2 ^ 64
turn_fits s x j r left at n h l e =
    let y = more_of x (get_or s j 0) r (min left (8 - r)) in
    omega (
      arith,
      turn s x j r left h,
      field_lt s at n,
      pow_mono {i = n} {j = 64} l,
      le-mul_of_pos_right {m = 2 ^ (left - min left (8 - r))} y (pow_pos (left - min left (8 - r))),
    )
