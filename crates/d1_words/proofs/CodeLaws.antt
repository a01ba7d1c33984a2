-- The code: table 5-2's rule, and a code word with at most one flipped bit gives back its eleven bits.
use mathlib.Core.Path.{◌≡◌, sym, ap, ◌∙◌, subst}
use mathlib.Core.Bool.{Bool}
use mathlib.Core.Logic.{dite}
use Prim.Native.Nat.{ℕ, ◌*◌, ◌/◌, ◌%◌, ◌^◌, ◌<◌, ◌≤◌}
use native.Mathlib.Decide.{dec_lt}
use native.Mathlib.Omega.{arith}
use lib.Dec.{T, eqb, eqb→eq, lit<, ltb→lt, ltb}
use lib.ListN.{get_or}
use lib.Bits.{bit_xor, xor_self, xor_zero_r, xor_shifted}
use borrow.Author.Tests.{le-ltb}
use Rattle.bits.specs.Poly.{times_x}
use Rattle.bits.proofs.XorLaws.{xor_assoc}
use Rattle.bits.proofs.Below.{both, both_left, both_right, all, below}
use Rattle.d1_words.specs.Over.{over_bits}
use Rattle.d1_words.specs.Code.{word_shifted, remainder_of, code_word, masks, corrected, flip}
use Rattle.d1_words.proofs.OverLaws.{remainder_xor, remainder_lt}

-- flip 0 to 14 are the single bits, flip 15 is none: each one's mask is itself, and the mask of each state leaves that state
rule : ℕ → Bool
rule i = both (eqb (get_or masks (remainder_of (flip i)) 0) (flip i)) (eqb (remainder_of (get_or masks i 0)) i)

-- the rule of table 5-2, by one test over its sixteen entries
test : T (all rule 16)
unfolding rule masks remainder_of over_bits word_shifted times_x
test = tt

-- the mask of state s is a word that leaves s
pub mask_state : (s : ℕ) → s < 16 → remainder_of (get_or masks s 0) ≡ s
unfolding rule
mask_state s h =
    eqb→eq (remainder_of (get_or masks s 0)) s
    (both_right (eqb (get_or masks (remainder_of (flip s)) 0) (flip s)) (eqb (remainder_of (get_or masks s 0)) s) (below rule 16 test s h))

mask_below : (k : ℕ) → k < 16 → get_or masks (remainder_of (flip k)) 0 ≡ flip k
unfolding rule
mask_below k h =
    eqb→eq (get_or masks (remainder_of (flip k)) 0) (flip k)
    (both_left (eqb (get_or masks (remainder_of (flip k)) 0) (flip k)) (eqb (remainder_of (get_or masks k 0)) k) (below rule 16 test k h))

pub flip_none : (k : ℕ) → 15 ≤ k → flip k ≡ 0
flip_none k h = simp (le-ltb k 15 h)

-- and it is that single bit, or none
pub mask_flip : (k : ℕ) → get_or masks (remainder_of (flip k)) 0 ≡ flip k
mask_flip k =
    dite (dec_lt k 15) (λ l. mask_below k (omega arith))
    (λ n. subst (λ (e : ℕ). get_or masks (remainder_of e) 0 ≡ e) (sym (flip_none k (omega arith))) (mask_below 15 (lit< tt)))

pub flip_lt : (k : ℕ) → flip k < 2 ^ 15
flip_lt k =
    dite (dec_lt k 15) (λ l. ltb→lt (flip k) (2 ^ 15) (below (λ (i : ℕ). ltb (flip i) (2 ^ 15)) 15 tt k l))
    (λ n. rw (flip_none k (omega arith)) (lit< tt))

-- four bits are what their division leaves
pub remainder_small : (r : ℕ) → r < 16 → remainder_of r ≡ r
unfolding remainder_of over_bits word_shifted times_x
remainder_small r h = eqb→eq (remainder_of r) r (below (λ (i : ℕ). eqb (remainder_of i) i) 16 tt r h)

-- eleven bits and what their division leaves, as a sum
code_sum : (d : ℕ) → code_word d ≡ bit_xor (d % 2048 * 16) (remainder_of (d % 2048 * 16))
unfolding code_word
code_sum d = sym (xor_shifted (d % 2048) 4 (remainder_of (d % 2048 * 16)) (remainder_lt (d % 2048 * 16)))

-- the generator divides every code word
pub code_remainder : (d : ℕ) → remainder_of (code_word d) ≡ 0
code_remainder d =
    let x = d % 2048 * 16 in
    ap remainder_of (code_sum d)
    ∙ remainder_xor x (remainder_of x)
    ∙ ap (bit_xor (remainder_of x)) (remainder_small (remainder_of x) (remainder_lt x))
    ∙ xor_self (remainder_of x)

pub code_lt : (d : ℕ) → code_word d < 2 ^ 15
unfolding code_word
code_lt d = omega (arith, remainder_lt (d % 2048 * 16))

-- its first eleven bits
pub code_high : (d : ℕ) → d < 2048 → code_word d / 16 % 2048 ≡ d
unfolding code_word
code_high d h = omega (arith, remainder_lt (d % 2048 * 16))

-- 02, CR 4: a code word with at most one flipped bit gives back the eleven bits sent
pub correct_flip : (d k : ℕ) → d < 2048 → corrected (bit_xor (code_word d) (flip k)) ≡ d
unfolding corrected
correct_flip d k h =
    let w = bit_xor (code_word d) (flip k) in
    let s : remainder_of w ≡ remainder_of (flip k) =
    remainder_xor (code_word d) (flip k) ∙ ap (λ (x : ℕ). bit_xor x (remainder_of (flip k))) (code_remainder d) in
    let m : get_or masks (remainder_of w) 0 ≡ flip k = ap (λ (x : ℕ). get_or masks x 0) s ∙ mask_flip k in
    let b : bit_xor w (get_or masks (remainder_of w) 0) ≡ code_word d =
    ap (bit_xor w) m ∙ xor_assoc (code_word d) (flip k) (flip k) ∙ ap (bit_xor (code_word d)) (xor_self (flip k)) ∙ xor_zero_r (code_word d) in
    ap (λ (x : ℕ). x / 16 % 2048) b ∙ code_high d h

pub correct_lt : (w : ℕ) → corrected w < 2048
unfolding corrected
correct_lt w = omega arith
