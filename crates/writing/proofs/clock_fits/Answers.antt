use Rattle.writing.proofs.FitLaws.{clock_eight}
use Rattle.writing.proofs.clock_fits.Goals as goal

pub returns : goal.returns
returns c = rw (c.clock_widths.ensures, c.clock_vals.ensures, clock_eight) at c.row_fits.ensures
