-- The words of a subframe, put one after the other: a turn at a time.
use mathlib.Core.Path.{◌≡◌, refl, ◌∙◌}
use Prim.Native.Nat.{ℕ, ◌+◌, ◌*◌, ◌<◌, ◌≤◌}
use mathlib.Core.List.{List}
use native.Mathlib.Omega.{arith}
use lib.Dec.{eqb, eqb→eq}
use lib.ListN.{get_or, length, drop, replicate}
use Rattle.bits.specs.Bits.{field_at, put_at, puts_at}
use Rattle.bits.proofs.TableLaws.{length_table, get_or_table}
use Rattle.bits.proofs.RowLaws.{puts_step, puts_end, length_puts}
use Rattle.bits.proofs.Below.{below}
use Rattle.d1_subframes.specs.Subframe.{word_widths, info_widths, width_of, offset_of, info_of, sent_of, infos_of, sents_of, data_of, subframe_of}

-- ten words, each with its width
pub length_words : length word_widths ≡ 10
unfolding word_widths
length_words = refl

pub length_infos : length info_widths ≡ 10
unfolding info_widths
length_infos = refl

pub word_width : (i : ℕ) → i < 10 → get_or word_widths i 0 ≡ 30
unfolding word_widths
word_width i h = eqb→eq (get_or word_widths i 0) 30 (below (λ (k : ℕ). eqb (get_or word_widths k 0) 30) 10 tt i h)

pub info_width : (i : ℕ) → i < 10 → get_or info_widths i 0 ≡ width_of i
unfolding info_widths
info_width i h = eqb→eq (get_or info_widths i 0) (width_of i) (below (λ (k : ℕ). eqb (get_or info_widths k 0) (width_of k)) 10 tt i h)

-- the next offset
pub next_offset : (i : ℕ) → i < 10 → offset_of i + width_of i ≡ offset_of (i + 1)
next_offset i h = eqb→eq (offset_of i + width_of i) (offset_of (i + 1)) (below (λ (k : ℕ). eqb (offset_of k + width_of k) (offset_of (k + 1))) 10 tt i h)

-- and its value
pub length_infos_of : (s : List ℕ) → length (infos_of s) ≡ 10
unfolding infos_of
length_infos_of s = length_table _ 10

pub length_sents_of : (d : List ℕ) → length (sents_of d) ≡ 10
unfolding sents_of
length_sents_of d = length_table _ 10

pub info_nth : (s : List ℕ) (i : ℕ) → i < 10 → get_or (infos_of s) i 0 ≡ info_of i (field_at s (30 * i) 30)
unfolding infos_of
info_nth s i h = get_or_table (λ (k : ℕ). info_of k (field_at s (30 * k) 30)) 10 i 0 h

pub sent_nth : (d : List ℕ) (i : ℕ) → i < 10 → get_or (sents_of d) i 0 ≡ sent_of i (field_at d (offset_of i) (width_of i))
unfolding sents_of
sent_nth d i h = get_or_table (λ (k : ℕ). sent_of k (field_at d (offset_of k) (width_of k))) 10 i 0 h

-- the information of one word more
pub info_step : (s out : List ℕ) (i : ℕ) → i < 10
    → puts_at out (offset_of i) (drop i info_widths) (drop i (infos_of s))
    ≡ puts_at (put_at out (offset_of i) (width_of i) (info_of i (field_at s (30 * i) 30)))
    (offset_of (i + 1)) (drop (i + 1) info_widths) (drop (i + 1) (infos_of s))
info_step s out i h =
    puts_step out (offset_of i) info_widths (infos_of s) i (omega (arith, length_infos)) (omega (arith, length_infos_of s))
    ∙ rw (info_width i h, info_nth s i h, next_offset i h)

-- one word more
pub sent_step : (d out : List ℕ) (i : ℕ) → i < 10
    → puts_at out (30 * i) (drop i word_widths) (drop i (sents_of d))
    ≡ puts_at (put_at out (30 * i) 30 (sent_of i (field_at d (offset_of i) (width_of i))))
    (30 * (i + 1)) (drop (i + 1) word_widths) (drop (i + 1) (sents_of d))
sent_step d out i h =
    let e : 30 * i + 30 ≡ 30 * (i + 1) = omega arith in
    puts_step out (30 * i) word_widths (sents_of d) i (omega (arith, length_words)) (omega (arith, length_sents_of d))
    ∙ rw (word_width i h, sent_nth d i h, e)

-- none left
pub info_end : (s out : List ℕ) (i : ℕ) → 10 ≤ i → puts_at out (offset_of i) (drop i info_widths) (drop i (infos_of s)) ≡ out
info_end s out i h = puts_end out (offset_of i) info_widths (infos_of s) i (omega (arith, length_infos))

pub sent_end : (d out : List ℕ) (i : ℕ) → 10 ≤ i → puts_at out (30 * i) (drop i word_widths) (drop i (sents_of d)) ≡ out
sent_end d out i h = puts_end out (30 * i) word_widths (sents_of d) i (omega (arith, length_words))

-- as many bytes as they should be
pub length_data : (s : List ℕ) → length (data_of s) ≡ 28
unfolding data_of
length_data s = length_puts (replicate 28 0) 0 info_widths (infos_of s)

pub length_subframe : (d : List ℕ) → length (subframe_of d) ≡ 38
unfolding subframe_of
length_subframe d = length_puts (replicate 38 0) 0 word_widths (sents_of d)
