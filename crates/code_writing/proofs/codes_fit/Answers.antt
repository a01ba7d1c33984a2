use Rattle.code_writing.specs.Codes.{codes_fit}
use Rattle.code_writing.proofs.codes_fit.Goals as goal

pub returns-then-head_fits : goal.returns-then-head_fits
unfolding codes_fit
returns-then-head_fits c = rw (← c.head_fits.ensures, c.if-head_fits.true, c.row_fits.ensures)

pub returns-else-head_fits : goal.returns-else-head_fits
unfolding codes_fit
returns-else-head_fits c = rw (← c.head_fits.ensures, c.if-head_fits.false)
