-- Demand 3: the list by looking back over the frames handed in, newest first. Nothing here runs the ledger.
use Rattle.std.specs.Prelude.{ℕ, Bool, List}
use Rattle.std.proofs.Math.Option.{Option}
use Rattle.lookback.specs.Walk.{rows}
use Rattle.in_force.specs.Back.{mask_in_force, orbit_in_force, clock_in_force, code_in_force}
use Rattle.held_orbits.specs.declared.HeldOrbit.{HeldOrbit}
use Rattle.broadcast.specs.Issues.{issue_of}
use Rattle.row.specs.Row.{qualifies, coded, row_from, row_of}
use Rattle.row.specs.declared.Row.{Row}

-- 02, CR 2: demand 3 reads with the replaced code: the orbit in force, with the URA of the code that replaces its own
abbrev pub coded_after : ℕ → List (List ℕ) → ℕ → HeldOrbit
coded_after prn h slot = coded (orbit_in_force prn h slot) (code_in_force prn h slot)

-- 01: a slot qualifies, for a ledger of the PRN after the frames h, with the broadcast issues given
unfoldable pub qualifies_after : ℕ → List (List ℕ) → List ℕ → ℕ → Bool
qualifies_after prn h is slot =
    qualifies (mask_in_force prn h) (coded_after prn h slot) (clock_in_force prn h slot) (issue_of is slot) slot

-- 01: the row of a slot, with the numbers of the records in force
unfoldable pub row_after : ℕ → List (List ℕ) → ℕ → Row
row_after prn h slot = row_from slot (coded_after prn h slot) (clock_in_force prn h slot)

-- the row of a slot that qualifies, none of another
unfoldable pub row_in_force : ℕ → List (List ℕ) → List ℕ → ℕ → Option Row
row_in_force prn h is slot =
    row_of (mask_in_force prn h) (coded_after prn h slot) (clock_in_force prn h slot) (issue_of is slot) slot

-- 01: the list: the rows of the slots that qualify, in rising slot order
unfoldable pub list_in_force : ℕ → List (List ℕ) → List ℕ → List Row
list_in_force prn h is = rows (row_in_force prn h is)
