use Prim.Native.Nat.{◌%◌}
use mathlib.Core.Path.{refl}
use mathlib.Core.Logic.{⊎_elim}
use borrow.Author.Tests.{ne_eqb}
use Rattle.field64.proofs.LogLaws.{by_zero, by_logs}
use Rattle.field64.proofs.mul_by.Goals as goal

pub returns-then-x-eq0 : goal.returns-then-x-eq0
returns-then-x-eq0 c =
    ⊎_elim
    (λ e. by_zero _ _ _ _ (rw e refl))
    (λ p. by_zero _ _ _ _ (rw (ne_eqb (c.args.a % 64) 0 p.0, p.1) refl))
    c.then-x-eq0.either

pub returns : goal.returns
returns c =
    rw (c.from.ensures, c.from-2.ensures)
    (by_logs _ _ _ _ (rw (ne_eqb (c.args.a % 64) 0 c.if-x-eq0.false, ne_eqb (c.args.b % 64) 0 c.if-y-eq0.false)))
