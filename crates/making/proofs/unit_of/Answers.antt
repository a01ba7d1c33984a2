use native.Mathlib.Omega.{arith}
use mathlib.Core.Path.{refl}
use borrow.Author.Tests.{ne_eqb, lt-ltb, le-ltb}
use Rattle.making.specs.Units.{unit_of}
use Rattle.making.proofs.unit_of.Goals as goal

pub returns-in-0 : goal.returns-in-0
unfolding unit_of
returns-in-0 c = rw c.in-0.is refl

pub returns-in-1 : goal.returns-in-1
unfolding unit_of
returns-in-1 c = rw c.in-1.is refl

pub returns-in-2-to-82 : goal.returns-in-2-to-82
unfolding unit_of
returns-in-2-to-82 c =
    let k = c.args.k in
    rw (ne_eqb k 0 (λ q. omega arith), ne_eqb k 1 (λ q. omega arith), lt-ltb k 83 (omega arith))

pub returns-in_default : goal.returns-in_default
unfolding unit_of
returns-in_default c =
    let k = c.args.k in
    rw (ne_eqb k 0 (λ q. omega arith), ne_eqb k 1 (λ q. omega arith), le-ltb k 83 (omega arith))
