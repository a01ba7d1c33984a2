use borrow.Author.Rules.{rules}
use mathlib.Core.Path.{◌≡◌}
use mir.Syntax.{w16}
use mir.Val.{to_z, of_z}
use Rattle.from_flat.proofs.read_clock.Goals as goal

pub returns : goal.returns
returns c =
    let z : to_z w16 (of_z w16 c.signed16-c0.result) ≡ c.signed16-c0.result = search rules in
    let at = c.args.at in
    rw (z, c.signed16-c0.ensures, c.two.ensures, c.byte-corr.ensures, c.two-slot.ensures)
