use borrow.Author.Rules.{rules}
use Rattle.writing.specs.Fits.{parts_fit}
use Rattle.writing.proofs.parts_fit.Goals as goal

pub returns : goal.returns
unfolding parts_fit
returns c =
    rw (
      c.mask_bit-g.ensures,
      c.orbits_fit-f.ensures,
      c.clocks_fit-e.ensures,
      c.head_fits-d.ensures,
      c.head_fits-b.ensures,
      c.head_fits-a.ensures,
      c.layout_of-l.ensures,
    )
