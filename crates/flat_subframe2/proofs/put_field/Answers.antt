use borrow.Author.Rules.{rules}
use mathlib.Core.Path.{◌≡◌}
use mir.Syntax.{w64}
use mir.Val.{to_z, of_z}
use Rattle.flat_subframe2.proofs.put_field.Goals as goal

pub returns : goal.returns
returns c =
    let z : to_z w64 (of_z w64 c.args.z) ≡ c.args.z = search rules in
    rw (c.store.ensures, c.eight_bytes.ensures, c.raw64.ensures, z)
