-- A subframe that can be checked by hand from 003: preamble, FraID 1, SOW 0 and nothing else; and the numbers it is refused with.
use mathlib.Core.Path.{◌≡◌, refl}
use mathlib.Core.Bool.{false}
use Prim.Native.Nat.{ℕ}
use mathlib.Core.List.{List, ◌∷◌}
use lib.ListN.{replicate}
use Rattle.bits.specs.Bits.{bit_at, field_at, set_bit, byte_with, put_at, puts_at}
use Rattle.bits.specs.Poly.{times_x}
use Rattle.bits.specs.Table.{table}
use Rattle.d1_words.specs.Over.{over_bits}
use Rattle.d1_words.specs.Code.{word_shifted, remainder_of, code_word, masks, corrected}
use Rattle.d1_words.specs.Word.{spread, every_other, interleaved, written_word, read_word, written_first, read_first}
use Rattle.d1_subframes.specs.Subframe.{word_widths, info_widths, infos_of, sents_of, data_of, subframe_of, subframe_refusal}

-- five bytes and then zeros: Pre 11100010010, four bits, FraID, SOW
abbrev content : ℕ → ℕ → ℕ → ℕ → ℕ → List ℕ
content a b c d e = a ∷ b ∷ c ∷ d ∷ e ∷ replicate 23 0

-- its first word is 111000100100000 and the code word 001000000001111, all others are zero
pub written : subframe_of (content 0xE2 0x40 0x40 0 0) ≡ 0xE2 ∷ 0x40 ∷ 0x40 ∷ 0x3C ∷ replicate 34 0
unfolding subframe_of sents_of word_widths table puts_at put_at set_bit byte_with field_at bit_at
    written_first written_word interleaved spread code_word remainder_of over_bits word_shifted times_x
written = refl

-- the same with FraID's bit flipped is read back
pub read : data_of (0xE2 ∷ 0x40 ∷ 0x00 ∷ 0x3C ∷ replicate 34 0) ≡ content 0xE2 0x40 0x40 0 0
unfolding data_of infos_of info_widths table puts_at put_at set_bit byte_with field_at bit_at
    read_first read_word every_other corrected masks remainder_of over_bits word_shifted times_x
read = refl

-- taken; preamble with its last bit off; FraID 0, 5 and 6; SOW 604799 and 604800
pub judged : (subframe_refusal false (content 0xE2 0x40 0x40 0 0) ≡ 0) × (subframe_refusal false (content 0xE2 0x00 0x40 0 0) ≡ 32)
    × (subframe_refusal false (content 0xE2 0x40 0x00 0 0) ≡ 33)
    × (subframe_refusal false (content 0xE2 0x41 0x40 0 0) ≡ 0) × (subframe_refusal false (content 0xE2 0x41 0x80 0 0) ≡ 33)
    × (subframe_refusal false (content 0xE2 0x40 0x64 0xE9 0xFC) ≡ 0) × (subframe_refusal false (content 0xE2 0x40 0x64 0xEA 0x00) ≡ 34)
unfolding subframe_refusal field_at bit_at
judged = (refl, refl, refl, refl, refl, refl, refl)
