use mathlib.Core.Path.{◌≡◌}
use Rattle.bits.specs.Bits.{put_rows}
use Rattle.records.specs.Orbit.{orbit_widths}
use Rattle.writing.specs.Fits.{orbit_row}
use Rattle.writing.proofs.put_orbit_rows.Given as goal

abbrev pub invariant-loop-i : goal.invariant-loop-i
invariant-loop-i l = l.room ≡ put_rows l.initial.room l.at orbit_widths (orbit_row l.os) l.i
