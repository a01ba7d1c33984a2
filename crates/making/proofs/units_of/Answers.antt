use borrow.Author.Rules.{rules}
use Rattle.bits.proofs.MadeLaws.{made_table}
use Rattle.making.specs.Units.{unit_of}
use Rattle.making.proofs.units_of.Goals as goal

pub returns : goal.returns
returns c =
    let a = c.args in
    made_table (unit_of a.prn a.flags a.m.now a.v.now) _ _ _ c.from_fn.ensures.items (λ j y q k. search rules)
