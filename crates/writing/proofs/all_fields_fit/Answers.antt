use Rattle.writing.specs.Fits.{fits_all}
use Rattle.writing.proofs.all_fields_fit.Goals as goal

pub returns-then-parts_fit : goal.returns-then-parts_fit
unfolding fits_all
returns-then-parts_fit c = rw (← c.parts_fit.ensures, c.if-parts_fit.true, c.last_parts_fit.ensures)

pub returns-else-parts_fit : goal.returns-else-parts_fit
unfolding fits_all
returns-else-parts_fit c = rw (← c.parts_fit.ensures, c.if-parts_fit.false)
