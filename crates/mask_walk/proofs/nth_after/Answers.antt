use borrow.Author.Rules.{rules}
use native.Mathlib.Omega.{arith}
use Prim.Native.Nat.{◌+◌}
use mathlib.Core.Path.{sym, ◌∙◌}
use Rattle.mask_bits.specs.Bits.{bits_at}
use Rattle.mask_bits.proofs.BitLaws.{length_bits, set_below}
use Rattle.slots.proofs.SlotLaws.{nth_hit}
use Rattle.mask_walk.proofs.nth_after.Goals as goal

pub overflow_cast-result : goal.overflow_cast-result
overflow_cast-result c =
    let a = c.args in
    let l = set_below a.t.now a.from.0 (sym c.is_set.ensures ∙ c.if-is_set.true) in
    search rules

pub returns-then-is_set : goal.returns-then-is_set
returns-then-is_set c =
    let a = c.args in
    let set = sym c.is_set.ensures ∙ c.if-is_set.true in
    let below = set_below a.t.now a.from.0 set in
    sym (nth_hit (bits_at a.t.now) a.from.0 (a.from.0 + 1) a.n.0 (omega (arith, length_bits a.t.now)) set c.if-n-eq1.true)

pub returns : goal.returns
returns c = c.nth_far.ensures
