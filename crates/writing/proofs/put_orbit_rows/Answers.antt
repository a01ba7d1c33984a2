use mathlib.Core.Path.{sym, ◌∙◌}
use Rattle.bits.proofs.RowLaws.{rows_step, rows_none}
use Rattle.writing.proofs.put_orbit_rows.Goals as goal

pub loop-i-init : goal.loop-i-init
loop-i-init c = sym (rows_none _ _ _ _)

pub loop-i-preserved : goal.loop-i-preserved
loop-i-preserved c = rw (rows_step, ← c.loop-i.invariant) (c.puts.ensures ∙ rw (c.orbit_widths.ensures, c.orbit_vals.ensures))
