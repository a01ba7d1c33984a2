use mathlib.Core.Path.{refl}
use Rattle.bits.specs.Table.{table}
use Rattle.ura_codes.specs.Codes.{no_codes}
use Rattle.ura_codes.proofs.no_codes.Goals as goal

pub returns : goal.returns
unfolding no_codes table
returns c = refl
