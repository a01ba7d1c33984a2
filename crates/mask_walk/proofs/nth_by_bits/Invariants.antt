use Prim.Native.Nat.{◌+◌}
use mathlib.Core.Path.{◌≡◌}
use lib.ListN.{drop}
use Rattle.slots.specs.Slots.{nth_from}
use Rattle.mask_bits.specs.Bits.{bits_at}
use Rattle.mask_walk.proofs.nth_by_bits.Given as goal

abbrev pub invariant-loop-i : goal.invariant-loop-i
invariant-loop-i l =
    nth_from (drop l.from (bits_at l.t)) (l.from + 1) l.n ≡ nth_from (drop l.i (bits_at l.t)) (l.i + 1) l.left
