use borrow.Author.Rules.{rules}
use mathlib.Core.Path.{◌∙◌}
use Rattle.bits.proofs.FieldLaws.{got_wide, got_narrow, got_lt}
use Rattle.bits.proofs.get8.Goals as goal

pub returns-then-n-gt8 : goal.returns-then-n-gt8
returns-then-n-gt8 c = got_wide 8 _ _ _ c.if-n-gt8.true

pub overflow_cast-result : goal.overflow_cast-result
overflow_cast-result c = record { fits = rw c.get_short.ensures (got_lt 8 64 _ _ _ c.if-n-gt8.false (search rules)) }

pub returns : goal.returns
returns c = c.get_short.ensures ∙ got_narrow 8 64 _ _ _ c.if-n-gt8.false (search rules)
