use borrow.Author.Rules.{rules}
use native.Mathlib.Omega.{arith}
use Prim.Native.Nat.{◌+◌}
use mathlib.Core.Path.{ap, ◌∙◌}
use lib.Count.{ones, ones-le}
use Rattle.bits.proofs.FieldLaws.{got_field}
use Rattle.mask_bits.proofs.BitLaws.{ones_count}
use Rattle.mask_walk.proofs.ones_from.Goals as goal

pub overflow_cast-result : goal.overflow_cast-result
overflow_cast-result c =
    let h = ones-le 8 c.get8.result (omega arith) in
    search rules

pub returns : goal.returns
returns c =
    let a = c.args in
    ap ones (c.get8.ensures ∙ got_field 8 a.t.now (32 + a.i) a.w (omega arith)) ∙ ones_count a.t.now (32 + a.i) a.w
