use Prim.Native.Nat.{◌*◌}
use mathlib.Core.Path.{◌≡◌}
use lib.ListN.{length, drop}
use Rattle.bits.specs.Bits.{puts_at}
use Rattle.d1_subframes.specs.Subframe.{word_widths, sents_of, subframe_of}
use Rattle.d1_subframes.proofs.subframe_of.Given as goal

abbrev pub invariant-loop-i : goal.invariant-loop-i
invariant-loop-i l =
    (length l.out ≡ 38) × (puts_at l.out (30 * l.i) (drop l.i word_widths) (drop l.i (sents_of l.d)) ≡ subframe_of l.d)
