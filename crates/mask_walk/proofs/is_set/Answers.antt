use borrow.Author.Tests.{le-ltb}
use native.Mathlib.Omega.{arith}
use mathlib.Core.Path.{sym}
use mathlib.Core.Bool.{false}
use lib.ListN.{get_or-eq_default}
use Rattle.mask_bits.specs.Bits.{bits_at}
use Rattle.mask_bits.proofs.BitLaws.{length_bits, bit_at_lem}
use Rattle.mask_walk.proofs.is_set.Goals as goal

pub returns-then-i-lt255 : goal.returns-then-i-lt255
returns-then-i-lt255 c =
    let a = c.args in
    rw c.bit.ensures (sym (bit_at_lem a.t.now a.i (omega arith)))

pub returns-else-i-lt255 : goal.returns-else-i-lt255
returns-else-i-lt255 c =
    let a = c.args in
    rw (le-ltb a.i 255 c.if-i-lt255.false) (sym (get_or-eq_default (bits_at a.t.now) false (omega (arith, length_bits a.t.now))))
