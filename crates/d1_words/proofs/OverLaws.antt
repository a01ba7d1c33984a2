-- Laws of a walk over the bits of a number: a turn, the end, bounds, and sums.
use mathlib.Core.Path.{◌≡◌, refl, sym, ap, ap₂, ◌∙◌}
use Prim.Native.Nat.{ℕ, zero, suc, ◌+◌, ◌*◌, ◌/◌, ◌%◌, ◌^◌, ◌<◌, ◌≤◌}
use native.Mathlib.Nat.{div-div-eq-div-mul, div-one, pow-suc}
use native.Mathlib.Omega.{arith}
use lib.Dec.{lit<}
use lib.Pow.{pow-add, pow_mono}
use lib.Bits.{bit_xor, xor_shr, xor_mod, xor_lt, xor_block}
use Rattle.bits.proofs.XorLaws.{xor_swap, times_x_lt, times_x_xor}
use Rattle.bits.specs.Poly.{times_x}
use Rattle.d1_words.specs.Over.{over_bits}
use Rattle.d1_words.specs.Code.{generator, word_shifted, remainder_of}
use Rattle.d1_words.specs.Word.{wider, closer, spread}

-- none of the bits yet
pub over_start : (m : ℕ) (f : ℕ → ℕ → ℕ) (w : ℕ) → 0 ≡ over_bits m f 0 w
unfolding over_bits
over_start m f w = refl

-- one bit more, the next one down
pub over_turn : (m : ℕ) (f : ℕ → ℕ → ℕ) (n n' e e' w : ℕ) → n' ≡ suc n → e ≡ e' + m
    → f (over_bits m f n (w / 2 ^ e)) (w / 2 ^ e' % 2) ≡ over_bits m f n' (w / 2 ^ e')
unfolding over_bits
over_turn m f n n' e e' w p q =
    let d : w / 2 ^ e ≡ w / 2 ^ e' / 2 ^ m =
    ap (λ (x : ℕ). w / 2 ^ x) q ∙ ap (λ (x : ℕ). w / x) (pow-add 2 e' m) ∙ sym (div-div-eq-div-mul w (2 ^ e') (2 ^ m)) in
    rw (d, p)

-- all of them
pub over_all : (m : ℕ) (f : ℕ → ℕ → ℕ) (n n' e w : ℕ) → n ≡ n' → e ≡ 0 → over_bits m f n (w / 2 ^ e) ≡ over_bits m f n' w
over_all m f n n' e w p q = rw (p, q) (ap (over_bits m f n') (div-one w))

-- the register stays below 16
pub shifted_lt : (r b : ℕ) → r < 16 → b < 2 → word_shifted r b < 16
unfolding word_shifted
shifted_lt r b h k = xor_lt 4 _ b (times_x_lt 3 3 (lit< tt) r h) (omega arith)

pub register_lt : (n w : ℕ) → over_bits 1 word_shifted n w < 16
unfolding over_bits
register_lt zero w = lit< tt
register_lt (suc n) w = shifted_lt (over_bits 1 word_shifted n (w / 2 ^ 1)) (w % 2) (register_lt n (w / 2 ^ 1)) (omega arith)

-- every second bit of a number makes one of n bits
pub closer_lt : (n w : ℕ) → over_bits 2 closer n w < 2 ^ n
unfolding over_bits
closer_lt zero w = lit< tt
closer_lt (suc n) w = let h : over_bits 2 closer n (w / 2 ^ 2) < 2 ^ n = closer_lt n (w / 2 ^ 2) in rw (pow-suc 2 n) (omega arith)

pub closer_room : (n w : ℕ) → n ≤ 15 → over_bits 2 closer n w < 2 ^ 15
closer_room n w h = omega (arith, closer_lt n w, pow_mono {i = n} {j = 15} h)

-- n bits at every second offset make a third of 2 ^ 2n at most
pub wider_lt : (n w : ℕ) → 3 * over_bits 1 wider n w < 2 ^ (2 * n)
unfolding over_bits
wider_lt zero w = lit< tt
wider_lt (suc n) w =
    let h : 3 * over_bits 1 wider n (w / 2 ^ 1) < 2 ^ (2 * n) = wider_lt n (w / 2 ^ 1) in
    let e : 2 * suc n ≡ 2 * n + 2 = omega arith in
    rw (e, pow-add 2 (2 * n) 2) (omega arith)

pub wider_room : (n w : ℕ) → n ≤ 15 → 3 * over_bits 1 wider n w < 2 ^ 30
wider_room n w h = omega (arith, wider_lt n w, pow_mono {i = 2 * n} {j = 30} (omega arith))

pub spread_lt : (a : ℕ) → 3 * spread a < 2 ^ 30
unfolding spread
spread_lt a = wider_room 15 a (omega arith)

-- a walk goes through a sum where each of its steps does; P is what holds of all it has reached
pub over_xor : (P : ℕ → Type 0) (m : ℕ) (f : ℕ → ℕ → ℕ) → ((n w : ℕ) → P (over_bits m f n w))
    → ((r s b c : ℕ) → P r → P s → b < 2 → c < 2 → f (bit_xor r s) (bit_xor b c) ≡ bit_xor (f r b) (f s c))
    → (n v w : ℕ) → over_bits m f n (bit_xor v w) ≡ bit_xor (over_bits m f n v) (over_bits m f n w)
unfolding over_bits
over_xor P m f p l zero v w = refl
over_xor P m f p l (suc n) v w =
    ap₂ f (ap (over_bits m f n) (xor_shr v w m) ∙ over_xor P m f p l n (v / 2 ^ m) (w / 2 ^ m)) (xor_mod v w 1)
    ∙ l (over_bits m f n (v / 2 ^ m)) (over_bits m f n (w / 2 ^ m)) (v % 2) (w % 2) (p n (v / 2 ^ m)) (p n (w / 2 ^ m)) (omega arith) (omega arith)

-- so does the remainder
shifted_xor : (r s b c : ℕ) → r < 16 → s < 16 → b < 2 → c < 2 → word_shifted (bit_xor r s) (bit_xor b c) ≡ bit_xor (word_shifted r b) (word_shifted s c)
unfolding word_shifted
shifted_xor r s b c hr hs hb hc =
    ap (λ (x : ℕ). bit_xor x (bit_xor b c)) (times_x_xor 3 generator r s hr hs) ∙ xor_swap (times_x 3 generator r) (times_x 3 generator s) b c

pub remainder_xor : (v w : ℕ) → remainder_of (bit_xor v w) ≡ bit_xor (remainder_of v) (remainder_of w)
unfolding remainder_of
remainder_xor v w = over_xor (λ (r : ℕ). r < 16) 1 word_shifted register_lt shifted_xor 15 v w

pub remainder_lt : (w : ℕ) → remainder_of w < 16
unfolding remainder_of
remainder_lt w = register_lt 15 w

-- and every second bit
pub closer_xor : (n v w : ℕ) → over_bits 2 closer n (bit_xor v w) ≡ bit_xor (over_bits 2 closer n v) (over_bits 2 closer n w)
closer_xor = over_xor (λ (r : ℕ). Unit {0}) 2 closer (λ n w. tt) (λ r s b c p q hb hc. sym (xor_block 1 r s b c hb hc))
