use mathlib.Core.Path.{◌≡◌}
use Rattle.bits.specs.Bits.{put_rows}
use Rattle.writing.specs.Write.{mask_widths, mask_row}
use Rattle.writing.proofs.put_mask_bits.Given as goal

abbrev pub invariant-loop-i : goal.invariant-loop-i
invariant-loop-i l = l.room ≡ put_rows l.initial.room l.at mask_widths (mask_row l.bytes) l.i
