-- The canonical form of URA codes is its own, and what is read.
use mathlib.Core.Path.{◌≡◌}
use Prim.Native.Nat.{ℕ}
use lib.ListN.{get_or, length}
use Rattle.bits.proofs.TableLaws.{length_table, table_same}
use Rattle.ura_codes.specs.declared.CodePart.{CodePart}
use Rattle.canonical.specs.Canon.{canon_codes}

-- 70 codes stay as they are
pub codes_same : (u : CodePart) → length u.codes ≡ 70 → canon_codes u ≡ u
unfolding canon_codes
codes_same u e = rw (table_same u.codes 70 0 e)

-- and there are 70
pub codes_long : (u : CodePart) → length (canon_codes u).codes ≡ 70
unfolding canon_codes
codes_long u = length_table (λ (i : ℕ). get_or u.codes i 0) 70

pub codes_twice : (u : CodePart) → canon_codes (canon_codes u) ≡ canon_codes u
codes_twice u = codes_same (canon_codes u) (codes_long u)
