use mathlib.Core.Path.{◌≡◌}
use lib.ListN.{length, drop}
use Rattle.bits.specs.Bits.{puts_at}
use Rattle.d1_subframes.specs.Subframe.{info_widths, offset_of, infos_of, data_of}
use Rattle.d1_subframes.proofs.data_of.Given as goal

abbrev pub invariant-loop-i : goal.invariant-loop-i
invariant-loop-i l =
    (length l.out ≡ 28) × (puts_at l.out (offset_of l.i) (drop l.i info_widths) (drop l.i (infos_of l.s)) ≡ data_of l.s)
