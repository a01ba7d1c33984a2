use mir.Syntax.{w32}
use mir.Val.{SFits}
use borrow.Author.Rules.{rules}
use Rattle.sheet_checking.specs.Same.{same_numbers}
use Rattle.sheet_checking.proofs.SameLaws.{same_bits}
use Rattle.sheet_checking.proofs.same_numbers.Goals as goal

-- a row's four values are the same numbers where their bits are
pub returns : goal.returns
unfolding same_numbers
returns c =
    let a = c.args.a in
    let b = c.args.b in
    let ar : SFits w32 a.radial = search rules in
    let al : SFits w32 a.along = search rules in
    let ac : SFits w32 a.cross = search rules in
    let ak : SFits w32 a.clock = search rules in
    let br : SFits w32 b.radial = search rules in
    let bl : SFits w32 b.along = search rules in
    let bc : SFits w32 b.cross = search rules in
    let bk : SFits w32 b.clock = search rules in
    rw (
      c.same_ura.ensures,
      same_bits a.radial b.radial ar br,
      same_bits a.along b.along al bl,
      same_bits a.cross b.cross ac bc,
      same_bits a.clock b.clock ak bk,
    )
