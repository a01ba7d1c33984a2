use borrow.Author.Tests.{ne_eqb}
use mathlib.Core.Path.{◌≡◌, sym, ap, ◌∙◌}
use Rattle.std.specs.Prelude.{Ok, Err}
use Rattle.verdict.specs.Verdict.{says, refused_by}
use Rattle.verdict.proofs.NumberLaws.{some_said, none_said, handed_on}
use Rattle.subframe2.specs.Fields.{fields_of}
use Rattle.subframe2.specs.Read.{subframe2_refusal}
use Rattle.subframe2.proofs.AnswerLaws.{said_by, fields_by}
use Rattle.flat_subframe2.specs.Read.{fields_refusal}
use Rattle.flat_subframe2.proofs.ReadLaws.{size_wrong, size_right, fields_whole}
use Rattle.flat_subframe2.proofs.read_fields.Goals as goal

pub returns-then-room-ne248 : goal.returns-then-room-ne248
returns-then-room-ne248 c =
    let a = c.args in
    let e : fields_refusal a.room.now a.s.now ≡ 39 = size_wrong a.room.now a.s.now c.if-room-ne248.true in
    record { verdict = rw e; bytes = rw e }

pub returns-in_err-fields : goal.returns-in_err-fields
returns-in_err-fields c =
    let a = c.args in
    let said = said_by a.s.now (Err _) c.in_err-fields.ensures in
    let some = λ (z : subframe2_refusal a.s.now ≡ 0). some_said _ (sym (said ∙ ap refused_by z)) in
    let e = size_right a.room.now a.s.now c.if-room-ne248.false in
    record { verdict = ap says (handed_on _ _ c.from_residual.ensures) ∙ said ∙ rw e; bytes = rw (e, ne_eqb _ _ some) }

pub returns : goal.returns
returns c =
    let a = c.args in
    let said = said_by a.s.now (Ok _) c.in_ok-fields.ensures in
    let z : subframe2_refusal a.s.now ≡ 0 = none_said _ said in
    let e = size_right a.room.now a.s.now c.if-room-ne248.false in
    let f = fields_by a.s.now (Ok _) c.in_ok-fields.ensures z in
    record { verdict = said ∙ rw e; bytes = rw (e, z) (c.put_fields.ensures ∙ rw f (fields_whole a.room.now (fields_of a.s.now) c.if-room-ne248.false)) }
