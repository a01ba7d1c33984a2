use borrow.Author.Rules.{rules}
use mathlib.Core.Path.{◌≡◌}
use mir.Syntax.{w16}
use mir.Val.{to_z, of_z}
use Rattle.writing.proofs.clock_vals.Goals as goal

pub returns : goal.returns
returns c =
    let k = c.args.k in
    let z : to_z w16 (of_z w16 k.c0) ≡ k.c0 = search rules in
    rw (c.raw_or-c0.ensures, z)
