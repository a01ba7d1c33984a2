use borrow.Author.Rules.{rules}
use mathlib.Core.Path.{refl, ap, ◌∙◌}
use Rattle.verdict.specs.Verdict.{refused_by}
use Rattle.table_calls.proofs.TableLaws.{rows_room, rows_asked}
use Rattle.quieuvodan.proofs.tables.rows_refusal.Goals as goal

pub returns-then-n-ne-ROWS_SIZE : goal.returns-then-n-ne-ROWS_SIZE
returns-then-n-ne-ROWS_SIZE c = let a = c.args in ap refused_by (rows_room a.table.now a.prn a.issues.now a.n c.if-n-ne-ROWS_SIZE.true)

pub returns : goal.returns
returns c =
    let a = c.args in
    c.asking_refusal.ensures ∙ ap refused_by (rows_asked a.table.now a.prn a.issues.now a.n _ c.if-n-ne-ROWS_SIZE.false refl)
