use mathlib.Core.Path.{sym}
use Rattle.sheet_reader.proofs.WalkLaws.{less_left}
use Rattle.sheet.proofs.showing.put_rows.Goals as goal

-- a row was found, so less is left
pub loop-row-smaller : goal.loop-row-smaller
loop-row-smaller c = rw c.next_place-place.ensures (less_left _ _ (sym c.in-Some.ensures))
