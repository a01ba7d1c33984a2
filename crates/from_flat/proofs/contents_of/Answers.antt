use borrow.Author.Rules.{rules}
use Rattle.from_flat.specs.Read.{flat_contents_of}
use Rattle.from_flat.proofs.contents_of.Goals as goal

pub returns : goal.returns
unfolding flat_contents_of
returns c =
    rw (
      c.read_code_part-code.ensures,
      c.read_bias_part-bias.ensures,
      c.read_orbit_part-orbit.ensures,
      c.read_clock_part-clock.ensures,
      c.read_mask-mask.ensures,
      c.byte-kind.ensures,
    )
