-- The BCH(15,11,1) code (003, section 5.1.3). A code word is a number below 2^15: eleven information bits, then four check bits.
use Rattle.std.specs.Prelude.{ℕ, ◌+◌, ◌*◌, ◌/◌, ◌%◌, ◌^◌, List, [], ◌∷◌, ltb, get_or}
use Rattle.std.specs.Int.Bits.{bit_xor}
use Rattle.bits.specs.Pick.{pick}
use Rattle.bits.specs.Poly.{times_x}
use Rattle.d1_words.specs.Over.{over_bits}

-- 003, section 5.1.3: the generator, X^4 + X + 1
abbrev pub generator : ℕ
generator = 2 ^ 4 + 2 + 1

-- 003, section 5.1.3: the division by the generator: the register after one bit more, r times X plus the bit
unfoldable pub word_shifted : ℕ → ℕ → ℕ
word_shifted r b = bit_xor (times_x 3 generator r) b

-- 003, section 5.1.3, figure 5-4: the register D3 D2 D1 D0 after the 15 bits of a code word; bits above them are ignored
unfoldable pub remainder_of : ℕ → ℕ
remainder_of w = over_bits 1 word_shifted 15 w

-- 003, section 5.1.3, figure 5-2: eleven bits, then what the division of them by the generator, four bits up, leaves; bits above them are ignored
unfoldable pub code_word : ℕ → ℕ
code_word d = d % 2048 * 16 + remainder_of (d % 2048 * 16)

-- 003, section 5.1.3, table 5-2: the correction mask of each state D3 D2 D1 D0 of the register, 0000 to 1111
unfoldable pub masks : List ℕ
masks =
    0b000000000000000
    ∷ 0b000000000000001
    ∷ 0b000000000000010
    ∷ 0b000000000010000
    ∷ 0b000000000000100
    ∷ 0b000000100000000
    ∷ 0b000000000100000
    ∷ 0b000010000000000
    ∷ 0b000000000001000
    ∷ 0b100000000000000
    ∷ 0b000001000000000
    ∷ 0b000000010000000
    ∷ 0b000000001000000
    ∷ 0b010000000000000
    ∷ 0b000100000000000
    ∷ 0b001000000000000
    ∷ []

-- 003, section 5.1.3, figure 5-4: the mask of the register is added, and the eleven information bits are given; bits above the 15 are ignored
unfoldable pub corrected : ℕ → ℕ
corrected w = bit_xor w (get_or masks (remainder_of w) 0) / 16 % 2048

-- 02, CR 4: at most one flipped bit of a code word: bit k below 15, or none
abbrev pub flip : ℕ → ℕ
flip k = pick (ltb k 15) (2 ^ k) 0
