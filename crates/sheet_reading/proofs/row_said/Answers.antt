use mathlib.Core.List.{List}
use borrow.Author.Rules.{rules}
use Prim.Native.Nat.{ℕ}
use mathlib.Core.Path.{ap, ◌∙◌}
use Rattle.sheet_form.specs.Reading.{row_said}
use Rattle.sheet_reading.proofs.PadLaws.{said_padded}
use Rattle.sheet_reading.proofs.row_said.Goals as goal

pub returns-then-sheet-a : goal.returns-then-sheet-a
returns-then-sheet-a c = c.row_in.ensures ∙ ap (λ (t : List ℕ). row_said t 0) c.padded-bytes.ensures ∙ said_padded _ _
