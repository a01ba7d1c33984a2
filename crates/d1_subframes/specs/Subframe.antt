-- Subframes of the D1 and D2 messages (003, sections 5.2.2 and 5.3.1): ten words of 30 bits in 38 bytes, against their 224 information bits in 28.
use Rattle.std.specs.Prelude.{◌≡◌, ℕ, ◌+◌, ◌*◌, ◌<◌, Bool, not, ◌||◌, List, [], ◌∷◌, eqb, ltb, length, replicate}
use Rattle.std.specs.Int.Bits.{bit_xor}
use Rattle.bits.specs.Pick.{pick}
use Rattle.bits.specs.Bits.{field_at, puts_at}
use Rattle.bits.specs.Table.{table}
use Rattle.bits.specs.Some.{first}
use Rattle.d1_words.specs.Code.{flip}
use Rattle.d1_words.specs.Word.{interleaved, written_word, read_word, written_first, read_first}

-- 003, section 5.2.2: the words of a subframe, 30 bits each
unfoldable pub word_widths : List ℕ
word_widths = 30 ∷ 30 ∷ 30 ∷ 30 ∷ 30 ∷ 30 ∷ 30 ∷ 30 ∷ 30 ∷ 30 ∷ []

-- 003, section 5.2.2: their information bits, 26 of the first and 22 of each other
unfoldable pub info_widths : List ℕ
info_widths = 26 ∷ 22 ∷ 22 ∷ 22 ∷ 22 ∷ 22 ∷ 22 ∷ 22 ∷ 22 ∷ 22 ∷ []

-- 003, section 5.2.2: how many information bits word i, from 0, has
abbrev pub width_of : ℕ → ℕ
width_of i = pick (eqb i 0) 26 22

-- 003, section 5.2.2: where they begin among the 224
abbrev pub offset_of : ℕ → ℕ
offset_of i = pick (eqb i 0) 0 (4 + 22 * i)

-- 003, sections 5.1.3 and 5.2.2: the information bits of word i as it is read
abbrev pub info_of : ℕ → ℕ → ℕ
info_of i w = pick (eqb i 0) (read_first w) (read_word w)

-- 003, sections 5.1.3 and 5.2.2: word i as it is written, of its information bits
abbrev pub sent_of : ℕ → ℕ → ℕ
sent_of i v = pick (eqb i 0) (written_first v) (written_word v)

-- the information of each word of a subframe
unfoldable pub infos_of : List ℕ → List ℕ
infos_of s = table (λ (i : ℕ). info_of i (field_at s (30 * i) 30)) 10

-- each word of a subframe whose information bits are those of d
unfoldable pub sents_of : List ℕ → List ℕ
sents_of d = table (λ (i : ℕ). sent_of i (field_at d (offset_of i) (width_of i))) 10

-- 02, CR 4: the 28 bytes of a subframe's 224 information bits
unfoldable pub data_of : List ℕ → List ℕ
data_of s = puts_at (replicate 28 0) 0 info_widths (infos_of s)

-- 02, CR 4: the 38 bytes of a subframe: 300 bits and four zero bits
unfoldable pub subframe_of : List ℕ → List ℕ
subframe_of d = puts_at (replicate 38 0) 0 word_widths (sents_of d)

-- 003, section 5.2.4.1: Pre, the first 11 information bits
abbrev pub preamble_of : List ℕ → ℕ
preamble_of d = field_at d 0 11

-- 003, section 5.2.4.2: FraID, bits 16 to 18 of the first word
abbrev pub frame_of : List ℕ → ℕ
frame_of d = field_at d 15 3

-- 003, sections 5.2.4.3 and 5.3.3.1: SOW, bits 19 to 26 of the first word and the 12 that follow in the second
abbrev pub second_of : List ℕ → ℕ
second_of d = field_at d 18 20

-- 02, CR 4: 31 where it does not fit, then 32 to 34 by the information bits; 0 if none applies
unfoldable pub subframe_refusal : Bool → List ℕ → ℕ
subframe_refusal unfit d =
    first
    ((31, unfit)
    ∷ (32, not (eqb (preamble_of d) 0b11100010010))
    ∷ (33, ltb (frame_of d) 1 || ltb 5 (frame_of d))
    ∷ (34, ltb 604799 (second_of d))
    ∷ [])

-- 02, CR 4: reading: either length, or the four closing bits
abbrev pub read_unfit : List ℕ → List ℕ → Bool
read_unfit room s = (not (eqb (length s) 38) || not (eqb (length room) 28)) || not (eqb (field_at s 300 4) 0)

-- 02, CR 4: writing: either length
abbrev pub write_unfit : List ℕ → List ℕ → Bool
write_unfit room d = not (eqb (length d) 28) || not (eqb (length room) 38)

-- 02, CR 4: the number that reading refuses with, judged on the corrected bits
unfoldable pub read_refusal : List ℕ → List ℕ → ℕ
read_refusal room s = subframe_refusal (read_unfit room s) (data_of s)

-- 02, CR 4: the number that writing refuses with
unfoldable pub subframe_write_refusal : List ℕ → List ℕ → ℕ
subframe_write_refusal room d = subframe_refusal (write_unfit room d) d

-- on a refusal the room is as it was; else it is the bytes
abbrev pub filled : ℕ → List ℕ → List ℕ → List ℕ
filled n bytes room = pick (eqb n 0) bytes room

-- 02, CR 4: what the room holds after reading
abbrev pub read_into : List ℕ → List ℕ → List ℕ
read_into room s = filled (read_refusal room s) (data_of s) room

-- 02, CR 4: what the room holds after writing
abbrev pub written_into : List ℕ → List ℕ → List ℕ
written_into room d = filled (subframe_write_refusal room d) (subframe_of d) room

-- 02, CR 4: at most one flipped bit in each code word of word i: bit j of the first of two, bit k of the second or only one; the plain bits are left
abbrev pub noise : ℕ → ℕ → ℕ → ℕ
noise i j k = pick (eqb i 0) (flip k) (interleaved (flip j) (flip k))

-- 02, CR 4: s has the words of the subframe of d, with at most one flipped bit in each code word: bits j i and k i of word i
abbrev pub Received : List ℕ → List ℕ → (ℕ → ℕ) → (ℕ → ℕ) → Type 0
Received d s j k = (i : ℕ) → i < 10 → field_at s (30 * i) 30 ≡ bit_xor (field_at (subframe_of d) (30 * i) 30) (noise i (j i) (k i))
