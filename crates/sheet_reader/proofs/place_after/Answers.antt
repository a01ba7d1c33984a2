use borrow.Author.Rules.{rules}
use native.Mathlib.Omega.{arith}
use mathlib.Core.Path.{sym}
use Rattle.sheet_reader.proofs.WalkLaws.{place_on, place_kept}
use Rattle.sheet_reader.proofs.place_after.Goals as goal

-- the header's two bytes count at most 65535 rows
pub overflow_add-result : goal.overflow_add-result
overflow_add-result c = let k = c.shared_slice_known-1.given in record { fits = omega (arith, k 6, k 7) }

pub returns-then-at-rows_end : goal.returns-then-at-rows_end
returns-then-at-rows_end c = sym (place_on _ _ (omega arith))

pub returns-else-at-rows_end : goal.returns-else-at-rows_end
returns-else-at-rows_end c = sym (place_kept _ _ (omega arith))
