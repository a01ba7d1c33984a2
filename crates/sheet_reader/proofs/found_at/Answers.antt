use borrow.Author.Rules.{rules}
use native.Mathlib.Omega.{arith}
use mathlib.Core.Option.{some}
use mathlib.Core.Path.{sym, ap, ◌∙◌}
use Rattle.sheet_reader.proofs.WalkLaws.{found_row, found_none}
use Rattle.sheet_reader.proofs.found_at.Goals as goal

pub returns-then-rows_end-at : goal.returns-then-rows_end-at
returns-then-rows_end-at c = sym (found_none _ _ (omega arith))

pub returns : goal.returns
returns c = ap some c.row_said.ensures ∙ sym (found_row _ _ (omega arith))
