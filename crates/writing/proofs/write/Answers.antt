use native.Mathlib.Omega.{arith}
use mathlib.Core.Path.{◌≡◌, sym, ap, ◌∙◌}
use Rattle.verdict.specs.Verdict.{says, refused_by}
use Rattle.verdict.proofs.NumberLaws.{none_said, one_said, handed_on}
use Rattle.writing.specs.Write.{message_of, content_refusal, write_refusal}
use Rattle.writing.proofs.WriteLaws.{refuses_room, refuses_content, written_refused, written_taken}
use Rattle.writing.proofs.write.Goals as goal

pub returns-then-room-ne61 : goal.returns-then-room-ne61
returns-then-room-ne61 c =
    let a = c.args in
    let e : write_refusal a.room.now a.c ≡ 1 = refuses_room a.room.now a.c c.if-room-ne61.true in
    record { verdict = rw e; bytes = sym (written_refused a.room.now a.c (λ z. omega arith)) }

pub returns-in_err-content_refusal : goal.returns-in_err-content_refusal
returns-in_err-content_refusal c =
    let a = c.args in
    let e = refuses_content a.room.now a.c c.if-room-ne61.false ∙ sym (ap content_refusal c.canonical-k.ensures) in
    let some = (one_said _ _ c.in_err-content_refusal.ensures).1 in
    record {
      verdict = ap says (handed_on _ _ c.from_residual.ensures) ∙ c.in_err-content_refusal.ensures ∙ ap refused_by (sym e);
      bytes = sym (written_refused a.room.now a.c (λ z. some (sym e ∙ z)));
    }

pub put_message-requires : goal.put_message-requires
put_message-requires c = (none_said _ c.in_ok-content_refusal.ensures, c.if-room-ne61.false)

pub returns : goal.returns
returns c =
    let a = c.args in
    let none = sym (ap content_refusal c.canonical-k.ensures) ∙ none_said _ c.in_ok-content_refusal.ensures in
    let e = refuses_content a.room.now a.c c.if-room-ne61.false ∙ none in
    record { verdict = rw e; bytes = c.put_message.ensures ∙ ap message_of c.canonical-k.ensures ∙ sym (written_taken a.room.now a.c e) }
