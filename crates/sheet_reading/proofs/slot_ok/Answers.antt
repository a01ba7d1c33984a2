use mathlib.Core.Path.{refl}
use Rattle.sheet_reading.proofs.slot_ok.Goals as goal

pub returns : goal.returns
returns c = refl
