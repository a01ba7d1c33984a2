use borrow.Author.Rules.{rules}
use mathlib.Core.Path.{sym, ap, ◌∙◌}
use Rattle.verdict.specs.Verdict.{number_in, refused_by}
use Rattle.verdict.proofs.NumberLaws.{number_back}
use Rattle.message.specs.Read.{Answer, answer, read_message}
use Rattle.message_calls.specs.Message.{reading_room}
use Rattle.message_calls.proofs.MessageLaws.{reading_size, reading_right}
use Rattle.quieuvodan.proofs.qvd_read.Goals as goal

-- what reading a message says is a number alone, and nothing where that is 0
pub put_reading-requires-clause-quiet : goal.put_reading-requires-clause-quiet
unfolding read_message answer
put_reading-requires-clause-quiet c = λ z.
    let said = ap (λ (x : Answer). x.said) c.read.ensures in
    said ∙ ap refused_by (sym (number_back _) ∙ ap number_in (sym said) ∙ z)

pub returns-then-contents-ne-CONTENTS_SIZE : goal.returns-then-contents-ne-CONTENTS_SIZE
returns-then-contents-ne-CONTENTS_SIZE c =
    let a = c.args in
    let p = reading_size number_in (read_message a.message.now) a.contents.now c.if-contents-ne-CONTENTS_SIZE.true in
    record { answer = p.0; bytes = p.1 }

pub returns : goal.returns
returns c =
    let a = c.args in
    let q = c.put_reading.ensures in
    let r = c.read.ensures in
    let p = reading_right number_in (read_message a.message.now) a.contents.now _ _ c.if-contents-ne-CONTENTS_SIZE.false (c.number_of.ensures ∙ ap number_in q.answer ∙ ap (λ (x : Answer). number_in x.said) r) (q.bytes ∙ ap (λ (x : Answer). reading_room x a.contents.now) r) in
    record { answer = p.0; bytes = p.1 }
