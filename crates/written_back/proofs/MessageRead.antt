-- What is written is a message, and what reading takes is one.
use mathlib.Core.Path.{◌≡◌, refl, sym, ap, ap₂, ◌∙◌}
use mathlib.Core.Logic.{inr}
use mathlib.Core.Bool.{true, not}
use mathlib.Core.List.{List}
use Prim.Native.Nat.{ℕ, ◌+◌}
use lib.Dec.{eqb}
use lib.ListN.{length, replicate, length-replicate}
use native.Mathlib.Omega.{arith}
use borrow.Author.Tests.{eq-eqb}
use Rattle.std.specs.Prelude.{Ok}
use Rattle.bits.specs.Bits.{bit_at, field_at}
use Rattle.check24.specs.Check.{check_ok}
use Rattle.contents.specs.Parts.{no_mask, mask_part_at, mask_in, layout_at, contents_at, end_at}
use Rattle.contents.proofs.MaskLaws.{bytes_long, bytes_small, none_long, none_small}
use Rattle.judge.specs.Judge.{refusal_of, refusal_at}
use Rattle.verdict.specs.Verdict.{says, number_in}
use Rattle.message.specs.Read.{answer, read_message}
use Rattle.contents.specs.declared.parts.MaskPart.{MaskPart}
use Rattle.contents.specs.declared.parts.Contents.{Contents}
use Rattle.layout.proofs.LayoutLaws.{pick_all}
use Rattle.verdict.proofs.NumberLaws.{number_back, number_last}
use Rattle.canonical.specs.Canon.{layout_for, canon}
use Rattle.canonical.proofs.BiasCanon.{part_twice}
use Rattle.canonical.proofs.CodeCanon.{codes_long}
use Rattle.canonical.proofs.CanonLaws.{canon_twice}
use Rattle.writing.specs.Fits.{fits_all}
use Rattle.writing.specs.Write.{parts_put, check_put, message_of, end_for, content_refusal}
use Rattle.written_back.specs.Limits.{Octets}
use Rattle.fitting.proofs.BesideLaws.{Beside, beside_field}
use Rattle.writing.proofs.TakenLaws.{first_not, content_taken}
use Rattle.written_back.proofs.CheckBack.{check_beside, check_right}
use Rattle.written_back.proofs.MessageBack.{Own, contents_back, written_ends, parts_beside}

-- t is a message that says c: 61 bytes, the last two bits zero, the check right, the contents within 8 to 12
pub record Message (t : List ℕ) (c : Contents) : Type 0 where
  pub long : length t ≡ 61
  pub last : field_at t 486 2 ≡ 0
  pub check : check_ok t 0 462 ≡ true
  pub contents : contents_at t 0 ≡ c
  pub judged : refusal_at t 0 ≡ 0

-- reading it gives its contents
pub message_taken : (t : List ℕ) (c : Contents) → Message t c → read_message t ≡ answer 0 c
unfolding read_message
message_taken t c r = rw (eq-eqb _ _ r.long, eq-eqb _ _ r.last, r.check, r.contents, r.judged)

-- an absent mask has 32 bytes
none_octets : Octets 32 no_mask.bytes
none_octets = record { long = none_long; each = none_small }

-- the canonical form has a mask of 32 bytes
pub mask_octets : (c : Contents) → Octets 32 c.mask.bytes → Octets 32 (canon c).mask.bytes
unfolding canon
mask_octets c e = pick_all (λ (m : MaskPart). Octets 32 m.bytes) (layout_for c).mask c.mask no_mask e none_octets

-- the canonical form has biases and codes in theirs
canon_own : (c : Contents) → Own (canon c)
unfolding canon
canon_own c =
    (λ e. rw (eq-eqb c.kind 3 e) (part_twice c.bias), λ e. rw (eq-eqb c.kind 5 e) (codes_long c.code))

-- bytes that say contents which end where they would be written to end
judged_at : (t : List ℕ) (c : Contents) → contents_at t 0 ≡ c → end_at t 0 ≡ end_for c → refusal_of (end_for c) c ≡ 0 → refusal_at t 0 ≡ 0
unfolding refusal_at
judged_at t c e f z = ap₂ refusal_of f e ∙ z

-- canonical contents that no refusal applies to, put into a room whose last two bits are zero
put_message : (s : List ℕ) (c : Contents) → length s ≡ 61 → field_at s 486 2 ≡ 0 → Octets 32 (canon c).mask.bytes → refusal_of (end_for (canon c)) (canon c) ≡ 0 → fits_all (canon c) ≡ true → Message (check_put (parts_put s (canon c) (layout_for (canon c)))) (canon c)
put_message s c len last octets ok fit =
    let d = canon c in
    let p = parts_put s d (layout_for d) in
    let own = canon_own c in
    let b : Beside 0 462 s p = parts_beside s d len octets own ok fit in
    let said = contents_back s d len octets own ok fit ∙ canon_twice c in
    let k : Beside 462 486 p (check_put p) = check_beside p in
    record {
      long = k.long ∙ b.long ∙ len;
      last =
          beside_field 462 486 p (check_put p) 486 2 k (inr (omega arith))
          ∙ beside_field 0 462 s p 486 2 b (inr (omega arith))
          ∙ last;
      check = check_right p (b.long ∙ len);
      contents = said;
      judged = judged_at (check_put p) d said (written_ends s d len octets own ok fit) ok;
    }

zeros_last : field_at (replicate 61 0) 486 2 ≡ 0
unfolding field_at bit_at
zeros_last = refl

pub message_read : (c : Contents) → Octets 32 (canon c).mask.bytes → content_refusal (canon c) ≡ 0 → Message (message_of (canon c)) (canon c)
unfolding message_of
message_read c octets e =
    let h = content_taken (canon c) e in
    put_message (replicate 61 0) c (length-replicate {A = ℕ} 61 0) zeros_last octets h.0 h.1

-- ---- what was read
pub read_octets : (s : List ℕ) → Octets 32 (contents_at s 0).mask.bytes
unfolding contents_at mask_in
read_octets s =
    let l = layout_at s 0 in
    let a = 0 + l.head + 27 in
    pick_all (λ (m : MaskPart). Octets 32 m.bytes) l.mask (mask_part_at s (0 + l.head)) no_mask
    (record { long = bytes_long s a; each = bytes_small s a })
    none_octets

-- an answer that takes has the number 0
answer_taken : (n : ℕ) (c : Contents) → (answer n c).said ≡ says (Ok tt) → n ≡ 0
unfolding answer
answer_taken n c e = sym (number_back n) ∙ ap number_in e

pub reading_answer : (s : List ℕ) → (read_message s).said ≡ says (Ok tt) → read_message s ≡ answer 0 (contents_at s 0)
unfolding read_message
reading_answer s e = ap (λ (n : ℕ). answer n (contents_at s 0)) (answer_taken _ (contents_at s 0) e)

-- so nothing applies to what was read
pub reading_judged : (s : List ℕ) → (read_message s).said ≡ says (Ok tt) → refusal_at s 0 ≡ 0
unfolding read_message
reading_judged s e =
    let n1 = first_not 1 _ (not (eqb (length s) 61)) (λ q. omega arith) (answer_taken _ (contents_at s 0) e) in
    let n2 = first_not 2 _ (not (eqb (field_at s 486 2) 0)) (λ q. omega arith) n1.1 in
    let n7 = first_not 7 _ (not (check_ok s 0 462)) (λ q. omega arith) n2.1 in
    sym (number_last (refusal_at s 0)) ∙ n7.1
