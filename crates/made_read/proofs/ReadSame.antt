-- 02, CR 9: a made frame whose first flag is 0 is read as its message is.
use Prim.Native.Nat.{ℕ, zero, suc, ◌+◌, ◌*◌, ◌/◌, ◌%◌, ◌^◌, ◌<◌}
use mathlib.Core.Path.{◌≡◌, refl, sym, ap, ap₂, ◌∙◌}
use mathlib.Core.Logic.{◌≢◌, ⊎_elim, dite}
use mathlib.Core.Bool.{Bool, true, false, not}
use mathlib.Core.List.{List}
use native.Mathlib.Decide.{dec_lt, ℕ_discrete}
use native.Mathlib.Nat.{not-suc-le-zero}
use native.Mathlib.Omega.{arith}
use lib.Dec.{eqb}
use lib.ListN.{length}
use borrow.Author.Tests.{eq-eqb, ne_eqb, lt-ltb}
use Rattle.bits.specs.Pick.{pick}
use Rattle.bits.specs.Bits.{bit_at, field_at}
use Rattle.bits.proofs.FieldLaws.{bit_lt}
use Rattle.bits.proofs.WindowLaws.{field_high}
use Rattle.check24.specs.Check.{check_ok}
use Rattle.verdict.proofs.NumberLaws.{number_last}
use Rattle.parity.specs.Parity.{symbol_of}
use Rattle.contents.specs.Parts.{contents_at, end_at, no_contents}
use Rattle.contents.specs.declared.parts.Contents.{Contents}
use Rattle.judge.specs.Judge.{is_kind, refusal_of, refusal_at}
use Rattle.message.specs.Read.{Answer, answer, read_message}
use Rattle.frame.specs.Frame.{contents_of, shell_refusal, refusal_with, frame_says, read_with, read_frame}
use Rattle.frame.proofs.FrameLaws.{leading, second}
use Rattle.frame.proofs.VerdictLaws.{told_alone, contents_not_6}
use Rattle.making.specs.Make.{message_symbol, Made, make_refusal}
use Rattle.making.proofs.MakeLaws.{taken, Taken}
use Rattle.making.proofs.Theorems.{made_long, made_sync, made_unit, made_symbol, made_groups}
use Rattle.made_read.specs.MadeRead.{Agree, MadeRead}
use Rattle.made_read.proofs.AgreeLaws.{check_same}
use Rattle.made_read.proofs.ContentsAgree.{kind_same, end_same, contents_same}

-- equal fields have equal bits
field_bits : (s : List ℕ) (x : ℕ) (t : List ℕ) (y n : ℕ) → field_at s x n ≡ field_at t y n → (k : ℕ) → k < n → bit_at s (x + k) ≡ bit_at t (y + k)
unfolding field_at
field_bits s x t y zero e k h = absurd (not-suc-le-zero h)
field_bits s x t y (suc n) e k h =
    let b : bit_at s (x + n) ≡ bit_at t (y + n) = omega (arith, bit_lt s (x + n), bit_lt t (y + n)) in
    let f : field_at s x n ≡ field_at t y n = omega (arith, bit_lt s (x + n), bit_lt t (y + n)) in
    dite (dec_lt k n) (λ l. field_bits s x t y n f k l) (λ m. let q : k ≡ n = omega arith in rw q b)

-- a message that ends after bit 462 is refused 8 or 9, whatever else it says
too_long : (s : List ℕ) (at : ℕ) → 462 < end_at s at → refusal_at s at ≡ pick (not (is_kind (field_at s at 6))) 8 9
unfolding refusal_at refusal_of contents_at
too_long s at h = rw (lt-ltb 462 (end_at s at) h)

-- a number of contents that is none of 0 and 6
long_not_0 : (b : Bool) → ◌≢◌ {A = ℕ} (pick b 8 9) 0
long_not_0 true = omega arith
long_not_0 false = omega arith

module _ (message room frame : List ℕ) (prn flags : ℕ) (r : make_refusal message prn flags room ≡ 0) (low : flags < 32) (made : Made message prn flags frame) where
  -- the 486 bits
  agree : Agree 486 frame 28 message 0
  unfolding symbol_of message_symbol
  agree i h =
      let k = i / 6 in
      let x : 28 + 6 * k + i % 6 ≡ 28 + i = omega arith in
      let y : 6 * k + i % 6 ≡ 0 + i = omega arith in
      ap (bit_at frame) (sym x)
      ∙ field_bits frame (28 + 6 * k) message (6 * k) 6 (made_symbol message room frame prn flags r made k (omega arith)) (i % 6) (omega arith)
      ∙ ap (bit_at message) y

  -- the first flag
  flag_zero : bit_at frame 22 ≡ 0
  unfolding field_at
  flag_zero =
      let f : field_at frame 22 6 ≡ flags = made_unit message room frame prn flags r made 1 (omega arith) in
      let g : field_at frame 22 (1 + 5) / 2 ^ 5 ≡ field_at frame 22 1 = field_high frame 22 1 5 in
      omega (arith, f, g, bit_lt frame 22)

  -- the frame around its message is refused 7 or not at all
  shell_is : shell_refusal false frame ≡ pick (not (check_ok message 0 462)) 7 0
  unfolding shell_refusal
  shell_is =
      rw (
        eq-eqb (length frame) 125 (made_long message room frame prn flags r made),
        eq-eqb (field_at frame 0 16) 0xEB90 (made_sync message room frame prn flags r made),
        flag_zero,
        made_groups message room frame prn flags r made,
        check_same 486 frame 28 message 0 agree 462 (omega arith),
      )

  abbrev t : Taken message prn flags room
  t = taken message prn flags room r

  -- what is said of contents
  contents_answer : (n k : ℕ) (c d : Contents) → n ≡ k → n ≢ 6 → (k ≡ 0 → c ≡ d)
      → ◌≡◌ {A = Answer} (record { said = frame_says frame n; contents = pick (eqb n 0) c no_contents }) (answer k d)
  unfolding answer
  contents_answer n k c d e s z =
      dite (ℕ_discrete k 0)
      (λ q. rw (told_alone frame n s, e, eq-eqb k 0 q, z q))
      (λ q. rw (told_alone frame n s, e, ne_eqb k 0 q))

  -- the contents are judged alike, and are the same where they are taken
  same_judged : (refusal_at frame 28 ≡ refusal_at message 0) × (refusal_at message 0 ≡ 0 → contents_of frame ≡ contents_at message 0)
  unfolding refusal_at
  same_judged =
      dite (dec_lt 462 (end_at message 0))
      (λ h.
      let e = too_long message 0 h in
      let d = too_long frame 28 (⊎_elim (λ p. omega arith) (λ p. p.0) (end_same 486 frame 28 message 0 agree (omega arith))) in (
        d ∙ ap (λ (x : ℕ). pick (not (is_kind x)) 8 9) (kind_same 486 frame 28 message 0 agree (omega arith)) ∙ sym e,
        λ z. absurd (long_not_0 (not (is_kind (field_at message 0 6))) (sym e ∙ z)),
      ))
      (λ h.
      let c = contents_same 486 frame 28 message 0 agree (omega arith) (omega arith) in
      let f = ⊎_elim (λ p. p) (λ p. absurd (h p.1)) (end_same 486 frame 28 message 0 agree (omega arith)) in
      (ap₂ refusal_of f c, λ z. c))

  -- the check holds: the contents are judged
  judged : check_ok message 0 462 ≡ true → read_frame frame ≡ read_message message
  unfolding read_with refusal_with read_message
  judged ok =
      let n = refusal_at frame 28 in
      let k = refusal_at message 0 in
      let zero : shell_refusal false frame ≡ 0 = shell_is ∙ rw ok in
      let both = same_judged in
      rw (
        second (shell_refusal false frame) n zero,
        eq-eqb (length message) 61 t.long,
        eq-eqb (field_at message 486 2) 0 t.zero,
        ok,
        number_last k,
      ) (contents_answer n k (contents_of frame) (contents_at message 0) both.0 (contents_not_6 frame 28) both.1)

  -- it does not: refused 7
  stopped : check_ok message 0 462 ≡ false → read_frame frame ≡ read_message message
  unfolding read_with refusal_with read_message answer frame_says
  stopped wrong =
      let seven : shell_refusal false frame ≡ 7 = shell_is ∙ rw wrong in
      rw (
        leading (shell_refusal false frame) (refusal_at frame 28) (λ z. omega arith),
        seven,
        eq-eqb (length message) 61 t.long,
        eq-eqb (field_at message 486 2) 0 t.zero,
        wrong,
      )

  same : (b : Bool) → check_ok message 0 462 ≡ b → read_frame frame ≡ read_message message
  same true e = judged e
  same false e = stopped e

-- 02, CR 9: reading a made frame answers what reading its message answers
pub made_read : MadeRead
made_read message room frame prn flags r low made = same message room frame prn flags r low made (check_ok message 0 462) refl
