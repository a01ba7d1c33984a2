use borrow.Author.Rules.{rules}
use mathlib.Core.Path.{◌∙◌}
use Rattle.bits.proofs.FieldLaws.{got_wide, got_narrow, got_lt}
use Rattle.bits.proofs.get32.Goals as goal

pub returns-then-n-gt32 : goal.returns-then-n-gt32
returns-then-n-gt32 c = got_wide 32 _ _ _ c.if-n-gt32.true

pub overflow_cast-result : goal.overflow_cast-result
overflow_cast-result c = record { fits = rw c.get_short.ensures (got_lt 32 64 _ _ _ c.if-n-gt32.false (search rules)) }

pub returns-then-n-le25 : goal.returns-then-n-le25
returns-then-n-le25 c = c.get_short.ensures ∙ got_narrow 32 64 _ _ _ c.if-n-gt32.false (search rules)

pub overflow_cast-result-2 : goal.overflow_cast-result-2
overflow_cast-result-2 c = record { fits = rw c.get.ensures (got_lt 32 64 _ _ _ c.if-n-gt32.false (search rules)) }

pub returns : goal.returns
returns c = c.get.ensures ∙ got_narrow 32 64 _ _ _ c.if-n-gt32.false (search rules)
