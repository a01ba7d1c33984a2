use native.Mathlib.Omega.{arith}
use borrow.Author.Rules.{rules}
use borrow.Author.Tests.{eq-eqb, ne_eqb}
use mathlib.Core.Path.{ap}
use Prim.Native.Nat.{ℕ, ◌+◌, ◌*◌}
use Rattle.layout.proofs.LayoutLaws.{from_near}
use Rattle.layout.proofs.end_of.Goals as goal

pub overflow_add-result-else-n-eq0 : goal.overflow_add-result-else-n-eq0
overflow_add-result-else-n-eq0 c =
    let l = c.args.l in
    omega (arith, c.orbits_from-from.ensures, from_near l (search rules) (search rules) (search rules) (search rules))

pub returns-then-n-eq0 : goal.returns-then-n-eq0
returns-then-n-eq0 c = rw (eq-eqb _ _ c.if-n-eq0.true) (omega (arith, c.orbits_from-from.ensures))

pub returns-else-n-eq0 : goal.returns-else-n-eq0
returns-else-n-eq0 c =
    rw (ne_eqb _ _ c.if-n-eq0.false) (ap (λ (x : ℕ). x + (23 + 69 * c.args.l.orbits)) c.orbits_from-from.ensures)
