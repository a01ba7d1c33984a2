use Prim.Native.Nat.{◌+◌, ◌*◌}
use mathlib.Core.Path.{◌≡◌}
use lib.ListN.{drop}
use Rattle.slots.specs.Slots.{nth_from}
use Rattle.mask_bits.specs.Bits.{bits_at}
use Rattle.mask_walk.proofs.nth_from_byte.Given as goal

abbrev pub invariant-loop-j : goal.invariant-loop-j
invariant-loop-j l =
    nth_from (drop (8 * l.first) (bits_at l.t)) (8 * l.first + 1) l.n ≡ nth_from (drop (8 * l.j) (bits_at l.t)) (8 * l.j + 1) l.left
