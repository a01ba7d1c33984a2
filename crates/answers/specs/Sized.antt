-- The C boundary: 39, a lent slice of a wrong length, before all else.
use Rattle.std.specs.Prelude.{ℕ, Bool, List, eqb, length}
use Rattle.bits.specs.Pick.{pick}
use Rattle.held_mask.specs.Size.{size}

-- 39 where a lent slice has a wrong length, else n
abbrev pub sized : Bool → ℕ → ℕ
sized ok n = pick ok n 39

-- as long as a ledger
abbrev pub is_ledger : List ℕ → Bool
is_ledger s = eqb (length s) size
