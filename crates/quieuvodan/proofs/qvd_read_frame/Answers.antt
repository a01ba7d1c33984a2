use borrow.Author.Rules.{rules}
use mathlib.Core.Path.{sym, ap, ◌∙◌}
use Rattle.verdict.specs.Verdict.{number_in}
use Rattle.message.specs.Read.{Answer}
use Rattle.frame.specs.Frame.{read_frame, read_with}
use Rattle.frame.proofs.VerdictLaws.{frame_quiet}
use Rattle.message_calls.specs.Message.{reading_room}
use Rattle.message_calls.proofs.MessageLaws.{reading_size, reading_right}
use Rattle.quieuvodan.proofs.qvd_read_frame.Goals as goal

-- what reading a frame says has the number 0 only where it is nothing
pub put_reading-requires-clause-quiet : goal.put_reading-requires-clause-quiet
unfolding read_with
put_reading-requires-clause-quiet c = λ z.
    let said = ap (λ (x : Answer). x.said) c.read_frame.ensures in
    said ∙ frame_quiet c.args.frame.now _ (ap number_in (sym said) ∙ z)

pub returns-then-contents-ne-CONTENTS_SIZE : goal.returns-then-contents-ne-CONTENTS_SIZE
returns-then-contents-ne-CONTENTS_SIZE c =
    let a = c.args in
    let p = reading_size number_in (read_frame a.frame.now) a.contents.now c.if-contents-ne-CONTENTS_SIZE.true in
    record { answer = p.0; bytes = p.1 }

pub returns : goal.returns
returns c =
    let a = c.args in
    let q = c.put_reading.ensures in
    let r = c.read_frame.ensures in
    let p = reading_right number_in (read_frame a.frame.now) a.contents.now _ _ c.if-contents-ne-CONTENTS_SIZE.false (c.number_of.ensures ∙ ap number_in q.answer ∙ ap (λ (x : Answer). number_in x.said) r) (q.bytes ∙ ap (λ (x : Answer). reading_room x a.contents.now) r) in
    record { answer = p.0; bytes = p.1 }
