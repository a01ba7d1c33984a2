use Rattle.writing.proofs.orbit_fits.Goals as goal

pub returns : goal.returns
returns c = rw (c.orbit_widths.ensures, c.orbit_vals.ensures) at c.row_fits.ensures
