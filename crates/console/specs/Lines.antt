-- Lines in a lent room.
use Rattle.std.specs.Prelude.{ℕ, ◌≤◌, List, length}
use Rattle.console.specs.declared.lines.Lines.{Lines}

-- the line lies in the room
abbrev pub Inside : Lines → List ℕ → Type 0
Inside l room = (l.start ≤ l.end) × (l.end ≤ length room)
