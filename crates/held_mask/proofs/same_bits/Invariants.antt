use Prim.Native.Nat.{◌*◌}
use mathlib.Core.Path.{◌≡◌}
use lib.ListN.{drop}
use Rattle.contents.specs.Parts.{mask_bits_at}
use Rattle.held_mask.specs.Mask.{same_bits}
use Rattle.held_mask.proofs.same_bits.Given as goal

abbrev pub invariant-loop-k : goal.invariant-loop-k
invariant-loop-k l = same_bits (mask_bits_at l.t 32) (mask_bits_at l.bytes 0) ≡ same_bits (drop (51 * l.k) (mask_bits_at l.t 32)) (drop (51 * l.k) (mask_bits_at l.bytes 0))
