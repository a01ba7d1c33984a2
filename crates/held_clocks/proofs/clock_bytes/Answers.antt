use borrow.Author.Rules.{rules}
use native.Mathlib.Omega.{arith}
use Prim.Native.Nat.{◌<◌}
use mathlib.Core.Path.{◌≡◌, ◌∙◌}
use mir.Syntax.{w16}
use mir.Val.{to_z, of_z}
use Rattle.newest.proofs.DigitLaws.{two_bytes, four_bytes}
use Rattle.held_clocks.proofs.clock_bytes.Goals as goal

pub returns : goal.returns
returns c =
    let h = c.args.h in
    let z : to_z w16 (of_z w16 h.c0) ≡ h.c0 = search rules in
    let long : h.epoch < 4294967296 = search rules in
    rw (c.to_be_bytes.ensures ∙ four_bytes h.epoch long, c.to_be_bytes-2.ensures ∙ two_bytes c.zig.result (omega arith), c.zig.ensures, z, c.flag-placed.ensures, c.flag-has.ensures)
