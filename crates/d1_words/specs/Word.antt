-- The words of a subframe (003, section 5.1.3 and 5.2.2): 30 bits, of which 26 in the first word and 22 in every other are information.
use Rattle.std.specs.Prelude.{ℕ, ◌+◌, ◌*◌, ◌/◌, ◌%◌}
use Rattle.d1_words.specs.Over.{over_bits}
use Rattle.d1_words.specs.Code.{code_word, corrected}

-- a bit at the low end of every second offset
abbrev pub wider : ℕ → ℕ → ℕ
wider r b = r * 4 + b

-- a bit at the low end
abbrev pub closer : ℕ → ℕ → ℕ
closer r b = r * 2 + b

-- the 15 low bits of a, each at the lower of two offsets
unfoldable pub spread : ℕ → ℕ
spread a = over_bits 1 wider 15 a

-- 15 bits of w, every second one from its lowest on
unfoldable pub every_other : ℕ → ℕ
every_other w = over_bits 2 closer 15 w

-- 003, section 5.1.3: two code words bit by bit: the first bit of a, the first of b, the second of a, ..
unfoldable pub interleaved : ℕ → ℕ → ℕ
interleaved a b = spread a * 2 + spread b

-- 003, section 5.1.3: the word of 22 bits: the code words of the first eleven and of the last eleven, interleaved; bits above them are ignored
unfoldable pub written_word : ℕ → ℕ
written_word d = interleaved (code_word (d / 2048 % 2048)) (code_word (d % 2048))

-- 003, section 5.1.3: the 22 bits of a word, each of its two code words corrected; bits above its 30 are ignored
unfoldable pub read_word : ℕ → ℕ
read_word w = corrected (every_other (w / 2)) * 2048 + corrected (every_other w)

-- 003, section 5.2.2: the first word of 26 bits: 15 as they are, then the code word of eleven; bits above them are ignored
unfoldable pub written_first : ℕ → ℕ
written_first d = d / 2048 % 32768 * 32768 + code_word (d % 2048)

-- 003, section 5.2.2: the 26 bits of a first word: its 15 high bits as they are, its code word corrected; bits above its 30 are ignored
unfoldable pub read_first : ℕ → ℕ
read_first w = w / 32768 % 32768 * 2048 + corrected (w % 32768)
