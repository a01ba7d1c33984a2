use mathlib.Core.Path.{◌≡◌}
use Rattle.bits.specs.Pick.{pick}
use Rattle.bits.specs.Bits.{put_rows}
use Rattle.records.specs.Clock.{clock_widths}
use Rattle.fitting.specs.Fits.{eight}
use Rattle.writing.specs.Fits.{clock_row}
use Rattle.writing.proofs.put_clock_rows.Given as goal

abbrev pub invariant-loop-i : goal.invariant-loop-i
invariant-loop-i l =
    (l.each ≡ pick l.slotted 27 18) × (l.ws ≡ eight (clock_widths l.slotted)) × (l.room ≡ put_rows l.initial.room l.at (clock_widths l.slotted) (clock_row l.ks) l.i)
