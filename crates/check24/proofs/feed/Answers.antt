use native.Mathlib.Omega.{arith}
use Prim.Native.Nat.{◌/◌, ◌%◌, ◌^◌, ◌<◌}
use lib.Bits.{xor_lt}
use Rattle.check24.proofs.EightLaws.{shifted_lt}
use Rattle.check24.proofs.feed.Goals as goal

pub shift24-requires : goal.shift24-requires
shift24-requires c =
    let a = c.args in
    xor_lt 24 a.r (a.x / 2 ^ 24) c.requires.0 (omega arith)

pub shift24-requires-2 : goal.shift24-requires-2
shift24-requires-2 c =
    let a = c.args in
    let h : c.shift24.result < 2 ^ 24 = rw c.shift24.ensures (shifted_lt 24 _ (xor_lt 24 a.r (a.x / 2 ^ 24) c.requires.0 (omega arith))) in
    xor_lt 24 c.shift24.result (a.x % 2 ^ 24) h (omega arith)

pub returns : goal.returns
returns c = rw (c.shift24-2.ensures, c.shift24.ensures)
