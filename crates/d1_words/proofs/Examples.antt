-- Values that can be checked by hand from 003, section 5.1.3.
use mathlib.Core.Path.{◌≡◌, refl}
use Rattle.bits.specs.Poly.{times_x}
use Rattle.d1_words.specs.Over.{over_bits}
use Rattle.d1_words.specs.Code.{word_shifted, remainder_of, code_word, masks, corrected}
use Rattle.d1_words.specs.Word.{spread, every_other, interleaved, written_word, read_word, written_first, read_first}

-- X^4 is X + 1, X^14 is X^3 + 1; the code words of 1, which is the generator itself, of 2 and of eleven ones, which is fifteen ones
pub codes : (remainder_of 0b10000 ≡ 0b0011) × (remainder_of 0b100000000000000 ≡ 0b1001)
    × (code_word 1 ≡ 0b000000000010011) × (code_word 2 ≡ 0b000000000100110) × (code_word 0b11111111111 ≡ 0b111111111111111)
unfolding code_word remainder_of over_bits word_shifted times_x
codes = (refl, refl, refl, refl, refl)

-- the generator with its first bit flipped, with a check bit flipped, and whole
pub corrections : (corrected 0b000000000000011 ≡ 1) × (corrected 0b000000000010010 ≡ 1) × (corrected 0b000000000010011 ≡ 1)
unfolding corrected masks remainder_of over_bits word_shifted times_x
corrections = (refl, refl, refl)

-- a word whose last bit alone, and whose eleventh alone, is set; the same taken apart with a flip in each code word
pub whole : (written_word 1 ≡ 0b000000000000000000000100000101) × (written_word 0b0000000000100000000000 ≡ 0b000000000000000000001000001010)
    × (read_word 0b100000000000000000000100000100 ≡ 1)
unfolding written_word read_word interleaved spread every_other code_word corrected masks remainder_of over_bits word_shifted times_x
whole = (refl, refl, refl)

-- a first word that is the preamble and a frame number of 1, whose bit is X^12 of the code word; the same with the frame number's bit flipped
pub firsts : (written_first 0b11100010010000000100000000 ≡ 0b111000100100000001000000001111)
    × (read_first 0b111000100100000000000000001111 ≡ 0b11100010010000000100000000)
unfolding written_first read_first code_word corrected masks remainder_of over_bits word_shifted times_x
firsts = (refl, refl)
