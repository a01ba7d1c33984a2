-- 02, CR 4: what was written is read back, with at most one flipped bit in each of its 19 code words.
use mathlib.Core.Path.{◌≡◌, refl, sym, ap, ◌∙◌}
use mathlib.Core.Bool.{Bool, true, false}
use mathlib.Core.Logic.{inr}
use Prim.Native.Nat.{ℕ, ◌*◌, ◌^◌, ◌<◌}
use mathlib.Core.List.{List}
use native.Mathlib.Omega.{arith}
use lib.Dec.{eqb}
use lib.ListN.{get_or, length, replicate}
use lib.Bits.{bit_xor, xor_zero_r}
use borrow.Author.Tests.{eq-eqb}
use Rattle.bits.specs.Pick.{pick}
use Rattle.bits.specs.Bits.{bit_at, field_at, fields_at, puts_at, total}
use Rattle.bits.specs.Table.{table}
use Rattle.bits.proofs.FieldLaws.{field_lt}
use Rattle.bits.proofs.TableLaws.{get_or_table, table_ext}
use Rattle.bits.proofs.RowLaws.{fields_puts, field_puts_other}
use Rattle.d1_words.specs.Over.{over_bits}
use Rattle.d1_words.specs.Code.{flip}
use Rattle.d1_words.specs.Word.{spread, interleaved, written_word, read_word, written_first, read_first}
use Rattle.d1_words.proofs.WordLaws.{read_flipped, first_flipped, written_lt, written_first_lt}
use Rattle.d1_subframes.specs.Subframe.{word_widths, info_widths, width_of, offset_of, info_of, sent_of, infos_of, sents_of, data_of, subframe_of}
use Rattle.d1_subframes.specs.Subframe.{subframe_refusal, read_refusal, subframe_write_refusal, write_unfit, read_into, noise, Received}
use Rattle.bits.specs.Bytes.{Bytes}
use Rattle.d1_subframes.proofs.LoopLaws.{length_words, word_width, length_sents_of, sent_nth, length_subframe}
use Rattle.d1_subframes.proofs.AnswerLaws.{read_judged, write_unfit_lem, write_judged, write_fits}
use Rattle.bits.proofs.BytesStay.{zero_bytes}
use Rattle.d1_subframes.proofs.ByteBack.{within_all, row_back}

-- a word as it is written fits 30 bits
sent_lt : (i v : ℕ) → sent_of i v < 2 ^ 30
sent_lt i v = go (eqb i 0)
  where
    go : (t : Bool) → pick t (written_first v) (written_word v) < 2 ^ 30
    go true = written_first_lt v
    go false = written_lt v

-- and is read back, with at most one flipped bit in each of its code words
pub info_back : (i v j k : ℕ) → v < 2 ^ width_of i → info_of i (bit_xor (sent_of i v) (noise i j k)) ≡ v
info_back i v j k = go (eqb i 0)
  where
    go : (t : Bool) → v < 2 ^ pick t 26 22
        → pick t (read_first (bit_xor (pick t (written_first v) (written_word v)) (pick t (flip k) (interleaved (flip j) (flip k)))))
        (read_word (bit_xor (pick t (written_first v) (written_word v)) (pick t (flip k) (interleaved (flip j) (flip k))))) ≡ v
    go true h = first_flipped v k h
    go false h = read_flipped v j k h

-- the words of a subframe, and the information bits, as rows
words_row : (s : List ℕ) → fields_at s 0 word_widths ≡ table (λ (i : ℕ). field_at s (30 * i) 30) 10
unfolding word_widths table
words_row s = refl

infos_row : (d : List ℕ) → table (λ (i : ℕ). field_at d (offset_of i) (width_of i)) 10 ≡ fields_at d 0 info_widths
unfolding info_widths table
infos_row d = refl

total_words : total word_widths ≡ 300
unfolding word_widths
total_words = refl

total_infos : total info_widths ≡ 224
unfolding info_widths
total_infos = refl

-- word i of what is written
pub word_sent : (d : List ℕ) (i : ℕ) → i < 10 → field_at (subframe_of d) (30 * i) 30 ≡ sent_of i (field_at d (offset_of i) (width_of i))
unfolding subframe_of
word_sent d i h =
    let s = puts_at (replicate 38 0) 0 word_widths (sents_of d) in
    let w : fields_at s 0 word_widths ≡ sents_of d =
    fields_puts (replicate 38 0) 0 word_widths (sents_of d) (omega (arith, total_words))
    (within_all word_widths (sents_of d) (length_sents_of d ∙ sym length_words)
    (λ k l. let g : k < 10 = omega (arith, length_words) in rw (word_width k g, sent_nth d k g) (sent_lt k _))) in
    sym (get_or_table (λ (k : ℕ). field_at s (30 * k) 30) 10 i 0 h) ∙ ap (λ (l : List ℕ). get_or l i 0) (sym (words_row s) ∙ w) ∙ sent_nth d i h

-- a subframe that was received has the information bits sent
pub data_back : (d s : List ℕ) (j k : ℕ → ℕ) → Bytes d → length d ≡ 28 → Received d s j k → data_of s ≡ d
unfolding data_of infos_of
data_back d s j k b l r =
    let e : infos_of s ≡ fields_at d 0 info_widths =
    table_ext (λ (i : ℕ). info_of i (field_at s (30 * i) 30)) (λ (i : ℕ). field_at d (offset_of i) (width_of i)) 10
    (λ i h. ap (info_of i) (r i h ∙ ap (λ (x : ℕ). bit_xor x (noise i (j i) (k i))) (word_sent d i h))
    ∙ info_back i (field_at d (offset_of i) (width_of i)) (j i) (k i) (field_lt d (offset_of i) (width_of i)))
    ∙ infos_row d in
    ap (puts_at (replicate 28 0) 0 info_widths) e
    ∙ row_back (replicate 28 0) d info_widths (zero_bytes 28) b (sym l) (omega (arith, total_infos))

-- the four closing bits of what is written are zero
closing : (d : List ℕ) → field_at (subframe_of d) 300 4 ≡ 0
unfolding subframe_of field_at bit_at
closing d = field_puts_other (replicate 38 0) 0 word_widths (sents_of d) 300 4 (inr (omega (arith, total_words)))

-- content that is not refused
sound : (out d : List ℕ) → subframe_write_refusal out d ≡ 0 → (length d ≡ 28) × (subframe_refusal false d ≡ 0)
sound out d e = go (write_unfit out d) refl
  where
    go : (t : Bool) → write_unfit out d ≡ t → (length d ≡ 28) × (subframe_refusal false d ≡ 0)
    go true q = absurd (let z : ◌≡◌ {A = ℕ} 31 0 = sym (write_unfit_lem out d q) ∙ e in let y : ⊥ = omega arith in y)
    go false q = ((write_fits out d q).0, sym (write_judged out d q) ∙ e)

-- 02, CR 4: content that writing does not refuse, sent and received with at most one flipped bit in each code word, is read back
pub read_received : (out room d s : List ℕ) (j k : ℕ → ℕ) → Bytes d → subframe_write_refusal out d ≡ 0 → length room ≡ 28 → length s ≡ 38 → field_at s 300 4 ≡ 0
    → Received d s j k → (read_refusal room s ≡ 0) × (read_into room s ≡ d)
read_received out room d s j k b e lr ls z r =
    let o = sound out d e in
    let x : data_of s ≡ d = data_back d s j k b o.0 r in
    let n : read_refusal room s ≡ 0 =
    read_judged room s (rw (eq-eqb _ _ ls, eq-eqb _ _ lr, eq-eqb _ _ z)) ∙ ap (subframe_refusal false) x ∙ o.1 in
    (n, rw n x)

-- flips beyond a code word are none
silent : (i : ℕ) → noise i 15 15 ≡ 0
unfolding interleaved spread over_bits
silent i = go (eqb i 0)
  where
    go : (t : Bool) → pick t (flip 15) (interleaved (flip 15) (flip 15)) ≡ 0
    go true = refl
    go false = refl

-- 02, CR 4: and so it is as it was written
pub read_written : (out room d : List ℕ) → Bytes d → subframe_write_refusal out d ≡ 0 → length room ≡ 28
    → (read_refusal room (subframe_of d) ≡ 0) × (read_into room (subframe_of d) ≡ d)
read_written out room d b e lr =
    read_received out room d (subframe_of d) (λ i. 15) (λ i. 15) b e lr (length_subframe d) (closing d)
    (λ i h. sym (ap (bit_xor (field_at (subframe_of d) (30 * i) 30)) (silent i) ∙ xor_zero_r (field_at (subframe_of d) (30 * i) 30)))
