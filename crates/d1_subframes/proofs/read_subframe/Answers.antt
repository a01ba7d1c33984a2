use borrow.Author.Tests.{ne_eqb}
use mathlib.Core.Path.{◌≡◌, sym, ap, ◌∙◌}
use mathlib.Core.Bool.{true, false}
use lib.ListN.{length}
use Rattle.verdict.specs.Verdict.{says}
use Rattle.verdict.proofs.NumberLaws.{none_said, one_said, handed_on}
use Rattle.d1_subframes.specs.Subframe.{data_of, subframe_refusal, read_unfit, read_refusal}
use Rattle.d1_subframes.proofs.AnswerLaws.{whole, read_unfit_lem, read_judged, read_fits}
use Rattle.d1_subframes.proofs.LoopLaws.{length_data}
use Rattle.d1_subframes.proofs.read_subframe.Goals as goal

pub returns-then-s-room : goal.returns-then-s-room
returns-then-s-room c =
    let a = c.args in
    let t : read_unfit a.room.now a.s.now ≡ true = rw (← c.get8-closing.ensures) c.if-s-room.true in
    let e = read_unfit_lem a.room.now a.s.now t in
    record { verdict = rw e; bytes = rw e }

pub returns-in_err-refusal_of : goal.returns-in_err-refusal_of
returns-in_err-refusal_of c =
    let a = c.args in
    let t : read_unfit a.room.now a.s.now ≡ false = rw (← c.get8-closing.ensures) c.if-s-room.false in
    let e : read_refusal a.room.now a.s.now ≡ subframe_refusal false c.data_of-d.result =
    read_judged a.room.now a.s.now t ∙ sym (ap (subframe_refusal false) c.data_of-d.ensures) in
    let k = one_said _ _ c.in_err-refusal_of.ensures in
    record { verdict = ap says (handed_on _ _ c.from_residual.ensures) ∙ rw e c.in_err-refusal_of.ensures; bytes = rw (e, ne_eqb _ _ k.1) }

pub returns : goal.returns
returns c =
    let a = c.args in
    let t : read_unfit a.room.now a.s.now ≡ false = rw (← c.get8-closing.ensures) c.if-s-room.false in
    let e : read_refusal a.room.now a.s.now ≡ 0 =
    read_judged a.room.now a.s.now t ∙ sym (ap (subframe_refusal false) c.data_of-d.ensures) ∙ none_said _ c.in_ok-refusal_of.ensures in
    let l : length a.room.now ≡ length (data_of a.s.now) = (read_fits a.room.now a.s.now t).1 ∙ sym (length_data a.s.now) in
    record { verdict = rw e; bytes = rw (e, c.store.ensures, c.data_of-d.ensures) (whole a.room.now (data_of a.s.now) l) }
