-- The answer of writing and the room at exit, case by case.
use mathlib.Core.Path.{◌≡◌}
use mathlib.Core.Logic.{◌≢◌}
use mathlib.Core.Bool.{not}
use mathlib.Core.List.{List, []}
use Prim.Native.Nat.{ℕ}
use lib.ListN.{length, replicate}
use borrow.Author.Tests.{eq-eqb, ne_eqb}
use Rattle.bits.specs.Pick.{pick}
use Rattle.judge.specs.Judge.{refusal_of}
use Rattle.layout.specs.declared.Layout.{Layout}
use Rattle.contents.specs.declared.parts.Contents.{Contents}
use Rattle.verdict.specs.Verdict.{refused_by}
use Rattle.writing.specs.Fits.{fits_all}
use Rattle.verdict.proofs.NumberLaws.{number_last, none_said}
use Rattle.canonical.specs.Canon.{layout_for, canon}
use Rattle.writing.specs.Write.{parts_put, check_put, message_of, end_for, content_refusal, write_refusal, written}

-- 01, 8 to 12 where one of them applies
pub content_judged : (c : Contents) → refusal_of (end_for c) c ≢ 0 → content_refusal c ≡ refusal_of (end_for c) c
unfolding content_refusal
content_judged c n = rw (ne_eqb _ _ n)

-- else 16 where a field does not fit
pub content_fits : (c : Contents) → [] ≡ refused_by (refusal_of (end_for c) c) → content_refusal c ≡ pick (not (fits_all c)) 16 0
unfolding content_refusal
content_fits c e = rw (eq-eqb _ _ (none_said _ e))

-- 01, 1: a room that is not 61 bytes
pub refuses_room : (room : List ℕ) (c : Contents) → length room ≢ 61 → write_refusal room c ≡ 1
unfolding write_refusal
refuses_room room c n = rw (ne_eqb _ _ n)

-- else what applies to the contents
pub refuses_content : (room : List ℕ) (c : Contents) → length room ≡ 61 → write_refusal room c ≡ content_refusal (canon c)
unfolding write_refusal
refuses_content room c e = rw (eq-eqb _ _ e) (number_last (content_refusal (canon c)))

-- on a refusal the room is as it was
pub written_refused : (room : List ℕ) (c : Contents) → write_refusal room c ≢ 0 → written room c ≡ room
unfolding written
written_refused room c n = rw (ne_eqb _ _ n)

-- else it is the message
pub written_taken : (room : List ℕ) (c : Contents) → write_refusal room c ≡ 0 → written room c ≡ message_of (canon c)
unfolding written
written_taken room c e = rw (eq-eqb _ _ e)

-- the message in four steps: the room cleared, the layout, the parts, the check
pub message_made : (room s t u : List ℕ) (c : Contents) (l : Layout) → length room ≡ 61 → s ≡ replicate (length room) 0 → l ≡ layout_for c → t ≡ parts_put s c l → u ≡ check_put t → u ≡ message_of c
unfolding message_of
message_made room s t u c l long p q r e = rw (e, r, q, p, long)
