use mathlib.Core.Path.{◌≡◌, sym, ap, ◌∙◌}
use mathlib.Core.Bool.{true, false, ◌||◌}
use Prim.Native.Nat.{◌<◌, ◌≤◌}
use lib.Dec.{ltb}
use Rattle.verdict.specs.Verdict.{refused_by}
use Rattle.d1_subframes.specs.Subframe.{frame_of, second_of}
use Rattle.d1_subframes.proofs.AnswerLaws.{refuses_32, refuses_33, refuses_34, refuses_none}
use Rattle.d1_subframes.proofs.refusal_of.Goals as goal

pub returns-then-get16-ne1810 : goal.returns-then-get16-ne1810
returns-then-get16-ne1810 c = ap refused_by (sym (refuses_32 _ (λ z. c.if-get16-ne1810.true (c.get16.ensures ∙ z))))

pub returns-then-frame : goal.returns-then-frame
returns-then-frame c =
    let d = c.args.d.now in
    let f : ltb (frame_of d) 1 || ltb 5 (frame_of d) ≡ true = rw (← c.get8-frame.ensures) c.if-frame.true in
    ap refused_by (sym (refuses_33 d (sym c.get16.ensures ∙ c.if-get16-ne1810.false) f))

pub returns-then-get32-gt604799 : goal.returns-then-get32-gt604799
returns-then-get32-gt604799 c =
    let d = c.args.d.now in
    let f : ltb (frame_of d) 1 || ltb 5 (frame_of d) ≡ false = rw (← c.get8-frame.ensures) c.if-frame.false in
    let l : 604799 < second_of d = rw (← c.get32.ensures) c.if-get32-gt604799.true in
    ap refused_by (sym (refuses_34 d (sym c.get16.ensures ∙ c.if-get16-ne1810.false) f l))

pub returns : goal.returns
returns c =
    let d = c.args.d.now in
    let f : ltb (frame_of d) 1 || ltb 5 (frame_of d) ≡ false = rw (← c.get8-frame.ensures) c.if-frame.false in
    let l : second_of d ≤ 604799 = rw (← c.get32.ensures) c.if-get32-gt604799.false in
    ap refused_by (sym (refuses_none d (sym c.get16.ensures ∙ c.if-get16-ne1810.false) f l))
