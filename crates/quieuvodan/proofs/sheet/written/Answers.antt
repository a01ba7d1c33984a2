use borrow.Author.Rules.{rules}
use native.Mathlib.Omega.{arith}
use Rattle.quieuvodan.proofs.sheet.written.Goals as goal

pub returns-in-Ok : goal.returns-in-Ok
returns-in-Ok c = rw c.in-Ok.is (omega arith)

pub returns-in-Err : goal.returns-in-Err
returns-in-Err c = rw c.in-Err.is (omega arith)
