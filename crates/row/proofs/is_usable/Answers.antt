use borrow.Author.Rules.{rules}
use mir.Syntax.{w16}
use mir.Val.{SFits}
use Rattle.row.specs.Row.{usable}
use Rattle.row.proofs.UsableLaws.{lowest_bits}
use Rattle.row.proofs.is_usable.Goals as goal

pub returns : goal.returns
unfolding usable
returns c =
    let a = c.args in
    let r : SFits w16 a.o.radial = search rules in
    let l : SFits w16 a.o.along = search rules in
    let x : SFits w16 a.o.cross = search rules in
    let k : SFits w16 a.k.c0 = search rules in
    rw (
      c.is_known.ensures,
      lowest_bits 16383 (search rules) a.o.radial r,
      lowest_bits 4095 (search rules) a.o.along l,
      lowest_bits 4095 (search rules) a.o.cross x,
      lowest_bits 16383 (search rules) a.k.c0 k,
    )
