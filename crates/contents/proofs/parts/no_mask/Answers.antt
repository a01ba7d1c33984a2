use Rattle.bits.specs.Table.{table}
use Rattle.contents.specs.Parts.{no_mask}
use Rattle.contents.proofs.parts.no_mask.Goals as goal

pub returns : goal.returns
unfolding no_mask table
returns c = cc
