use borrow.Author.Rules.{rules}
use native.Mathlib.Omega.{arith}
use mathlib.Core.Path.{sym, ap, ◌∙◌}
use Rattle.sheet_checking.specs.Checking.{checked_says}
use Rattle.quieuvodan.proofs.sheet.checked.Goals as goal

pub faulty-requires : goal.faulty-requires
faulty-requires c = λ at e. c.requires at (e ∙ ap checked_says (sym c.in-Err.is))

pub returns-in-Ok : goal.returns-in-Ok
returns-in-Ok c = rw c.in-Ok.is (omega arith)

pub returns-in-Err : goal.returns-in-Err
returns-in-Err c = rw c.in-Err.is c.faulty.ensures
