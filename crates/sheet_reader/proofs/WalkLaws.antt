-- Laws of a reader's walk: what it finds at a place, where it goes from there, and the rows that it gives.
use Prim.Native.Nat.{ℕ, zero, suc, ◌+◌, ◌-◌, ◌*◌, ◌≤◌, ◌<◌}
use mathlib.Core.Path.{◌≡◌, refl}
use mathlib.Core.Logic.{dite}
use mathlib.Core.List.{List}
use mathlib.Core.Option.{none, some}
use native.Mathlib.Decide.{dec_lt}
use native.Mathlib.Omega.{arith}
use borrow.Author.Tests.{le-ltb, lt-ltb}
use Rattle.row.specs.declared.Row.{Row}
use Rattle.sheet_form.specs.Reading.{row_said, rows_said_from, rows_said}
use Rattle.sheet_reader.specs.Walk.{first_row, rows_end, next_says, next_found, place_after, Gives, AllGiven}
use Rattle.sheet_reader.specs.Walk.Gives.{done, found}
use Rattle.std.specs.Prelude as std

module _ (s : List ℕ) (at : ℕ) where
  -- a row is due: what it says is found
  pub found_row : at < rows_end s → next_found s at ≡ some (row_said s at)
  unfolding next_found
  found_row h = rw (lt-ltb at (rows_end s) h)

  -- the rows are over: none is found
  pub found_none : rows_end s ≤ at → next_found s at ≡ none
  unfolding next_found
  found_none h = rw (le-ltb at (rows_end s) h)

  -- a row is due: the next place is 24 bytes further
  pub place_on : at < rows_end s → place_after s at ≡ at + 24
  unfolding place_after
  place_on h = rw (lt-ltb at (rows_end s) h)

  -- the rows are over: the place is kept
  pub place_kept : rows_end s ≤ at → place_after s at ≡ at
  unfolding place_after
  place_kept h = rw (le-ltb at (rows_end s) h)

  -- a row was found: it was due
  found_due : {r : Row} → next_found s at ≡ some r → at < rows_end s
  found_due e =
      dite (dec_lt at (rows_end s)) (λ h. h) (λ h. let f = found_none (omega arith) in let z : ◌≡◌ {A = ℕ} 0 1 = cc in absurd (omega arith))

  -- after each row that is found less is left to the end of the rows: a walk ends
  pub less_left : {r : Row} → next_found s at ≡ some r → rows_end s - place_after s at < rows_end s - at
  less_left e = let h = found_due e in rw (place_on h) (omega arith)

module _ (s : List ℕ) where
  -- a reader at the place of the n-th row from the last gives these n rows
  gives_from : (n at : ℕ) → at + 24 * n ≡ rows_end s → Gives s at (rows_said_from s n at)
  unfolding rows_said_from
  gives_from zero at e = done (found_none s at (omega arith))
  gives_from (suc n) at e =
      found {rs = rows_said_from s n (at + 24)} (found_row s at (omega arith)) (rw (place_on s at (omega arith)) (gives_from n (at + 24) (omega arith)))

  -- what a reader gives from a place on is fixed
  gives_once : {at : ℕ} {rs qs : List Row} → Gives s at rs → Gives s at qs → rs ≡ qs
  gives_once (done e) (done f) = refl
  gives_once (done e) (found f g) = let z : ◌≡◌ {A = ℕ} 0 1 = cc in absurd (omega arith)
  gives_once (found e g) (done f) = let z : ◌≡◌ {A = ℕ} 0 1 = cc in absurd (omega arith)
  gives_once (found e g) (found f h) = let q = gives_once g h in cc

-- 02, CR 7: from the first row on a reader gives the rows of the sheet, in order, and no others; of any bytes
pub all_given : (s : List ℕ) → AllGiven s
all_given s =
    let g : Gives s first_row (rows_said s) = gives_from s _ first_row refl in
    record { given = g; no_other = λ rs h. gives_once s h g }

-- answers that say the same are the same: a promise of what is said admits a single answer
pub next_once : (a b : std.Option Row) → next_says a ≡ next_says b → a ≡ b
next_once (std.Some r) (std.Some q) e = cc
next_once (std.Some r) std.None e = let z : ◌≡◌ {A = ℕ} 0 1 = cc in absurd (omega arith)
next_once std.None (std.Some r) e = let z : ◌≡◌ {A = ℕ} 0 1 = cc in absurd (omega arith)
next_once std.None std.None e = refl
