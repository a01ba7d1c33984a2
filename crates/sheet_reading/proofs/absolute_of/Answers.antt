use borrow.Author.Tests.{lt-ltb, le-ltb}
use borrow.Author.Rules.{rules}
use Rattle.sheet_reading.proofs.absolute_of.Goals as goal

pub returns-then-x-lt2147483648 : goal.returns-then-x-lt2147483648
returns-then-x-lt2147483648 c = simp (lt-ltb _ _ c.if-x-lt2147483648.true)

pub returns-else-x-lt2147483648 : goal.returns-else-x-lt2147483648
returns-else-x-lt2147483648 c = simp (le-ltb _ _ c.if-x-lt2147483648.false)
