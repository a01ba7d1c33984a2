use native.Mathlib.Omega.{arith}
use mathlib.Core.Path.{sym, ◌∙◌}
use Rattle.std.proofs.Common.{below_more}
use Rattle.table_form.proofs.RoomLaws.{with_at, with_4}
use Rattle.table_form.proofs.room_with.Goals as goal

pub returns-then-byte-p : goal.returns-then-byte-p
returns-then-byte-p c =
    let l = c.loop-i in
    with_at c.args.t.now c.args.p l.i (omega arith) l.invariant (sym c.byte.ensures ∙ c.if-byte-p.true)

pub loop-i-preserved : goal.loop-i-preserved
loop-i-preserved c = below_more _ _ c.loop-i.invariant (λ z. c.if-byte-p.false (c.byte.ensures ∙ z))

pub returns : goal.returns
returns c =
    let none = c.loop-i.invariant in
    with_4 c.args.t.now c.args.p (none 0 (omega arith)) (none 1 (omega arith)) (none 2 (omega arith)) (none 3 (omega arith))
