use mathlib.Core.Path.{refl, sym, ap, ◌∙◌}
use Rattle.std.specs.Prelude.{Result, Ok}
use Rattle.contents.specs.declared.parts.Contents.{Contents}
use Rattle.verdict.specs.declared.Refusal.{Refusal}
use Rattle.verdict.proofs.NumberLaws.{some_said}
use Rattle.message.specs.Read.{reading_says}
use Rattle.message_calls.proofs.MessageLaws.{put_no, put_yes}
use Rattle.quieuvodan.proofs.put_reading.Goals as goal

pub returns-in-Ok-clause-bytes : goal.returns-in-Ok-clause-bytes
returns-in-Ok-clause-bytes c =
    let a = c.args in
    rw c.in-Ok.is (put_yes (reading_says (Ok _)) a.room.now c.requires.room _ refl c.put_contents.ensures)

pub returns-in-Err-clause-bytes : goal.returns-in-Err-clause-bytes
returns-in-Err-clause-bytes c =
    let a = c.args in
    let e = ap (λ (x : Result Contents Refusal). (reading_says x).said) c.in-Err.is in
    put_no (reading_says a.r) a.room.now c.requires.room (λ z. some_said _ (sym (c.requires.quiet z) ∙ e))
