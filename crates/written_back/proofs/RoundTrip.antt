-- Demand 2, and the round trip both ways, stated over the field rules of 01.
use mathlib.Core.Path.{◌≡◌, sym, ap, ◌∙◌}
use mathlib.Core.Logic.{◌≢◌, ◌⊎◌, dite}
use mathlib.Core.List.{List}
use Prim.Native.Nat.{ℕ, ◌+◌, ◌≤◌, ◌<◌}
use native.Mathlib.Decide.{ℕ_discrete}
use native.Mathlib.Omega.{arith}
use borrow.Author.Tests.{eq-eqb, ne_eqb, le-ltb}
use lib.ListN.{length}
use Rattle.std.specs.Prelude.{Ok}
use Rattle.bits.specs.Bits.{bit_at}
use Rattle.layout.specs.Layout.{end_of}
use Rattle.biases.specs.Biases.{bias_part_at, bias_end}
use Rattle.canonical_biases.specs.Canon.{bias_bits}
use Rattle.biases_back.proofs.ReadLaws.{read_bits}
use Rattle.contents.specs.Parts.{contents_at, end_at}
use Rattle.contents.proofs.PartLaws.{biases_there, end_layout, end_biases}
use Rattle.judge.specs.Judge.{refusal_of, refusal_at}
use Rattle.message.specs.Read.{answer, read_message}
use Rattle.contents.specs.declared.parts.Contents.{Contents}
use Rattle.verdict.specs.Verdict.{says, refused_by}
use Rattle.canonical.specs.Canon.{canon}
use Rattle.canonical.proofs.CanonLaws.{canon_read, layout_read}
use Rattle.writing.specs.Write.{end_for, content_refusal, write_refusal, written}
use Rattle.writing.proofs.TakenLaws.{judged}
use Rattle.writing.proofs.WriteLaws.{refuses_content, written_taken}
use Rattle.written_back.specs.Limits.{Octets, Limits}
use Rattle.written_back.specs.Demand2.{taken_with, Demand2}
use Rattle.written_back.proofs.ReadSaid.{read_fits}
use Rattle.written_back.proofs.LimitLaws.{content_ok, write_taken, limits_taken, taken_limits, judged_all}
use Rattle.written_back.proofs.MessageRead.{Message, message_taken, mask_octets, message_read, read_octets, reading_answer, reading_judged}
use Rattle.written_back.proofs.UnderParts.{under_message}

-- contents are taken, into any room of 61 bytes, exactly if they are within their limits
pub taken_exactly : (room : List ℕ) (c : Contents) → length room ≡ 61 → Octets 32 c.mask.bytes → (Limits (canon c) → write_refusal room c ≡ 0) × (write_refusal room c ≡ 0 → Limits (canon c))
taken_exactly room c long octets = (limits_taken room c long, taken_limits room c (mask_octets c octets))

-- what is written, where nothing is refused, is a message that says the contents in canonical form
pub written_message : (room : List ℕ) (c : Contents) → Octets 32 (canon c).mask.bytes → write_refusal room c ≡ 0 → Message (written room c) (canon c)
written_message room c octets e = rw (written_taken room c e) (message_read c octets (write_taken room c e).1)

-- reading what was written gives the contents, with blank records and absent parts as zeros
pub round_trip : (room : List ℕ) (c : Contents) → Octets 32 (canon c).mask.bytes → write_refusal room c ≡ 0 → read_message (written room c) ≡ taken_with (canon c)
unfolding answer
round_trip room c octets e = message_taken (written room c) (canon c) (written_message room c octets e)

-- DEMAND 2
pub demand_2 : Demand2
demand_2 room c long h =
    let e = limits_taken room c long h in
    record { taken = ap refused_by e; back = round_trip room c h.bytes e }

-- two contents of different canonical form give different messages
pub messages_differ : (room room' : List ℕ) (c d : Contents) → Octets 32 (canon c).mask.bytes → Octets 32 (canon d).mask.bytes → write_refusal room c ≡ 0 → write_refusal room' d ≡ 0 → canon c ≢ canon d → written room c ≢ written room' d
messages_differ room room' c d p q e f n w =
    n (sym (written_message room c p e).contents ∙ ap (λ (t : List ℕ). contents_at t 0) w ∙ (written_message room' d q f).contents)

-- ---- the other way
-- of what was read no more bits are written than it was read in: as many, but for a type 3 whose blanks have biases
pub written_alike : (s : List ℕ) → (contents_at s 0).kind ≢ 3 → end_for (contents_at s 0) ≡ end_at s 0
written_alike s n = rw (ne_eqb (contents_at s 0).kind 3 n) (ap end_of (layout_read s 0) ∙ sym (end_layout s 0 n))

pub written_no_later : (s : List ℕ) → end_for (contents_at s 0) ≤ end_at s 0
written_no_later s =
    dite (ℕ_discrete (contents_at s 0).kind 3)
    (λ e. rw (eq-eqb (contents_at s 0).kind 3 e, biases_there s 0 e, end_biases s 0 e) (omega (arith, read_bits s 6)))
    (λ n. omega (arith, written_alike s n))

-- contents that are not refused by their end are not by an earlier one
shorter : (a b : ℕ) (c : Contents) → a ≤ b → refusal_of b c ≡ 0 → refusal_of a c ≡ 0
unfolding refusal_of
shorter a b c h e =
    let j = judged_all b c e in
    rw (j.kind, le-ltb 462 a (omega (arith, j.short)), j.early, j.low, j.once)

reading_ends : (s : List ℕ) → (read_message s).said ≡ says (Ok tt) → refusal_of (end_for (contents_at s 0)) (contents_at s 0) ≡ 0
unfolding refusal_at
reading_ends s e = shorter (end_for (contents_at s 0)) (end_at s 0) (contents_at s 0) (written_no_later s) (reading_judged s e)

-- what was read from an accepted message is within its limits, and writing it is taken
pub reading_written : (s room : List ℕ) → length room ≡ 61 → (read_message s).said ≡ says (Ok tt) → write_refusal room (contents_at s 0) ≡ 0
reading_written s room long e =
    refuses_content room (contents_at s 0) long
    ∙ ap content_refusal (canon_read s 0)
    ∙ content_ok (contents_at s 0) (reading_ends s e) (read_fits s 0)

-- reading what was written gives again what was read
pub read_again : (s room : List ℕ) → length room ≡ 61 → (read_message s).said ≡ says (Ok tt) → read_message (written room (contents_at s 0)) ≡ read_message s
unfolding answer
read_again s room long e =
    round_trip room (contents_at s 0) (mask_octets (contents_at s 0) (read_octets s)) (reading_written s room long e)
    ∙ ap taken_with (canon_read s 0)
    ∙ sym (reading_answer s e)

-- a type 3 that is written in as many bits as it was read in
alike_3 : (s : List ℕ) → end_for (contents_at s 0) ≡ end_at s 0 → end_at s 0 ≤ 462 → (contents_at s 0).kind ≡ 3 → (6 + bias_bits (bias_part_at s 6) ≡ bias_end s 6) × (bias_end s 6 ≤ 462)
alike_3 s h l e =
    let q = end_biases s 0 e in
    let f : end_for (contents_at s 0) ≡ 6 + bias_bits (bias_part_at s 6) = rw (eq-eqb (contents_at s 0).kind 3 e, biases_there s 0 e) in
    (omega arith, omega arith)

-- and each of its first 462 bits is that of the message read, or 0: reserved bits and blank records are zeroed.
-- 02, CR 2: biases of a blank are left out, and what follows them moves up, so this is said of messages that are written in as many bits as they were read in
pub rewritten : (s room : List ℕ) → length room ≡ 61 → (read_message s).said ≡ says (Ok tt) → end_for (contents_at s 0) ≡ end_at s 0
    → (j : ℕ) → j < 462 → (bit_at (written room (contents_at s 0)) j ≡ bit_at s j) ⊎ (bit_at (written room (contents_at s 0)) j ≡ 0)
unfolding contents_at
rewritten s room long e alike j h =
    let c = contents_at s 0 in
    let ends = judged c (reading_ends s e) in
    rw (written_taken room c (reading_written s room long e), canon_read s 0)
    (under_message s (rw (layout_read s 0) at ends.1) (alike_3 s alike (omega (arith, ends.2))) j h)
