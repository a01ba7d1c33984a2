use Prim.Native.Nat.{◌+◌, ◌-◌, ◌*◌}
use mathlib.Core.Path.{◌≡◌}
use Rattle.sheet_form.specs.Reading.{wrong_from, wrong_at}
use Rattle.sheet_reading.proofs.read_sheet.Given as goal

abbrev pub invariant-loop-k : goal.invariant-loop-k
invariant-loop-k l =
    wrong_from l.rising l.sheet (l.header.rows - l.k) l.before (8 + 24 * l.k) ≡ wrong_at l.limit l.rising l.sheet
