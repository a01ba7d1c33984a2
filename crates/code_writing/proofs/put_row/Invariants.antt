use mathlib.Core.Path.{◌≡◌}
use Rattle.bits.specs.Bits.{put_rows}
use Rattle.code_writing.specs.Codes.{code_widths, code_row}
use Rattle.code_writing.proofs.put_row.Given as goal

abbrev pub invariant-loop-i : goal.invariant-loop-i
invariant-loop-i l = l.room ≡ put_rows l.initial.room l.at code_widths (code_row l.codes) l.i
