use borrow.Author.Rules.{rules}
use native.Mathlib.Omega.{arith}
use mathlib.Core.Path.{◌≡◌}
use mir.Syntax.{w16}
use mir.Val.{to_z, of_z}
use Rattle.bits.proofs.FieldLaws.{field_lt}
use Rattle.bits.proofs.WindowLaws.{field_high, field_low}
use Rattle.records.proofs.clock.clock_of.Goals as goal

pub overflow_cast-corr : goal.overflow_cast-corr
overflow_cast-corr c = let a = c.args in omega (arith, c.get32-x.ensures, field_lt a.s.now a.at 18)

pub returns : goal.returns
returns c =
    let a = c.args in
    let r : to_z w16 (of_z w16 c.signed-c0.result) ≡ c.signed-c0.result = search rules in
    rw (r, c.signed-c0.ensures, c.get32-x.ensures, field_high a.s.now a.at 3 15, field_low a.s.now a.at 3 15)
