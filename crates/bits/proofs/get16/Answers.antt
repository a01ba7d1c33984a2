use borrow.Author.Rules.{rules}
use mathlib.Core.Path.{◌∙◌}
use Rattle.bits.proofs.FieldLaws.{got_wide, got_narrow, got_lt}
use Rattle.bits.proofs.get16.Goals as goal

pub returns-then-n-gt16 : goal.returns-then-n-gt16
returns-then-n-gt16 c = got_wide 16 _ _ _ c.if-n-gt16.true

pub overflow_cast-result : goal.overflow_cast-result
overflow_cast-result c = record { fits = rw c.get_short.ensures (got_lt 16 64 _ _ _ c.if-n-gt16.false (search rules)) }

pub returns : goal.returns
returns c = c.get_short.ensures ∙ got_narrow 16 64 _ _ _ c.if-n-gt16.false (search rules)
