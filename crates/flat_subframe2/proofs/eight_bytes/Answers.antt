use native.Mathlib.Omega.{arith}
use Prim.Native.Nat.{◌/◌, ◌%◌}
use mathlib.Core.Path.{◌≡◌, ◌∙◌}
use Rattle.flat_subframe2.proofs.eight_bytes.Goals as goal

pub returns : goal.returns
returns c =
    let x = c.args.x in
    let high : x / 72057594037927936 % 256 ≡ x / 72057594037927936 = omega arith in
    c.to_be_bytes.ensures ∙ rw high
