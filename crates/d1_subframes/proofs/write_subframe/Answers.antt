use borrow.Author.Tests.{ne_eqb}
use mathlib.Core.Path.{◌≡◌, sym, ap, ◌∙◌}
use lib.ListN.{length}
use Rattle.verdict.specs.Verdict.{says}
use Rattle.verdict.proofs.NumberLaws.{none_said, one_said, handed_on}
use Rattle.d1_subframes.specs.Subframe.{subframe_of, subframe_write_refusal}
use Rattle.d1_subframes.proofs.AnswerLaws.{whole, write_unfit_lem, write_judged, write_fits}
use Rattle.d1_subframes.proofs.LoopLaws.{length_subframe}
use Rattle.d1_subframes.proofs.write_subframe.Goals as goal

pub returns-then-s-room : goal.returns-then-s-room
returns-then-s-room c =
    let a = c.args in
    let e = write_unfit_lem a.room.now a.s.now c.if-s-room.true in
    record { verdict = rw e; bytes = rw e }

pub returns-in_err-refusal_of : goal.returns-in_err-refusal_of
returns-in_err-refusal_of c =
    let a = c.args in
    let e = write_judged a.room.now a.s.now c.if-s-room.false in
    let k = one_said _ _ c.in_err-refusal_of.ensures in
    record { verdict = ap says (handed_on _ _ c.from_residual.ensures) ∙ rw e c.in_err-refusal_of.ensures; bytes = rw (e, ne_eqb _ _ k.1) }

pub returns : goal.returns
returns c =
    let a = c.args in
    let e : subframe_write_refusal a.room.now a.s.now ≡ 0 =
    write_judged a.room.now a.s.now c.if-s-room.false ∙ none_said _ c.in_ok-refusal_of.ensures in
    let l : length a.room.now ≡ length (subframe_of a.s.now) =
    (write_fits a.room.now a.s.now c.if-s-room.false).1 ∙ sym (length_subframe a.s.now) in
    record { verdict = rw e; bytes = rw (e, c.store.ensures, c.subframe_of-w.ensures) (whole a.room.now (subframe_of a.s.now) l) }
