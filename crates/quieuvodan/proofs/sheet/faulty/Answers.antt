use borrow.Author.Rules.{rules}
use native.Mathlib.Omega.{arith}
use Prim.Native.Nat.{◌≤◌}
use mathlib.Core.Path.{sym, ap}
use Rattle.std.specs.Prelude.{Err}
use Rattle.sheet_checking.specs.Checking.{checked_says}
use Rattle.sheet_checking.specs.declared.Fault.{Fault}
use Rattle.quieuvodan.proofs.sheet.faulty.Goals as goal

pub overflow_mul-result : goal.overflow_mul-result
overflow_mul-result c = omega (arith, c.requires c.in-Wrong.at (sym (ap (λ (f : Fault). checked_says (Err f)) c.in-Wrong.is)))

pub overflow_add-result : goal.overflow_add-result
overflow_add-result c = omega (arith, c.requires c.in-Wrong.at (sym (ap (λ (f : Fault). checked_says (Err f)) c.in-Wrong.is)))

pub returns-in-Number : goal.returns-in-Number
returns-in-Number c = rw c.in-Number.is (omega arith)

pub returns-in-Wrong : goal.returns-in-Wrong
returns-in-Wrong c = rw c.in-Wrong.is (omega arith)

pub returns-in-Unknown : goal.returns-in-Unknown
returns-in-Unknown c = rw c.in-Unknown.is (omega arith)

pub returns-in-Other : goal.returns-in-Other
returns-in-Other c = rw c.in-Other.is (omega arith)

pub returns-in-Repeated : goal.returns-in-Repeated
returns-in-Repeated c = rw c.in-Repeated.is (omega arith)
