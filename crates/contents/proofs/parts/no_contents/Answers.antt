use Rattle.contents.specs.Parts.{no_contents}
use Rattle.contents.proofs.parts.no_contents.Goals as goal

pub returns : goal.returns
unfolding no_contents
returns c =
    rw (c.no_codes.ensures, c.no_biases.ensures, c.no_orbits.ensures, c.no_clocks.ensures, c.no_mask.ensures)
