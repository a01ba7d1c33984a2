use native.Mathlib.Omega.{arith}
use borrow.Author.Rules.{rules}
use mathlib.Core.Path.{◌∙◌}
use borrow.Author.Tests.{eq-eqb, ne_eqb}
use Rattle.bits.specs.Bits.{puts_at, put_at}
use Rattle.writing.specs.Write.{head_put}
use Rattle.writing.proofs.put_head.Goals as goal
use Rattle.writing.proofs.put_head.Goals.{then-l-eq14, else-l-eq14}

pub overflow_mul-ws : goal.overflow_mul-ws
overflow_mul-ws c = elim c.if-l-eq14.branch [ then-l-eq14 w ↦ omega arith | else-l-eq14 w ↦ omega arith ]

pub overflow_mul-ws-2 : goal.overflow_mul-ws-2
overflow_mul-ws-2 c = elim c.if-l-eq14.branch [ then-l-eq14 w ↦ omega arith | else-l-eq14 w ↦ omega arith ]

pub returns : goal.returns
unfolding head_put puts_at put_at
returns c =
    elim c.if-l-eq14.branch [ then-l-eq14 w ↦ rw (eq-eqb _ _ w.if-l-eq14.true) (c.puts.ensures ∙ rw w.wide-is) | else-l-eq14 w ↦ rw (ne_eqb _ _ w.if-l-eq14.false) (c.puts.ensures ∙ rw w.wide-is) ]
