-- 02, CR 3: whether a record comes into force for a slot, by the row of bytes that is kept for it.
use Rattle.std.specs.Prelude.{ℕ, Bool, not, ◌&&◌, List, eqb, get_or}
use Rattle.bits.specs.Bytes.{row_at}
use Rattle.lent.specs.Held.{offset, all_there}
use Rattle.newest.specs.Newest.{replaces, stamp_at}
use Rattle.newest.specs.declared.Rows.{Rows}
use Rattle.newest.specs.declared.Stamp.{Stamp}

-- 02, CR 3: a record replaces the one that a row says; first byte 1 means held
abbrev pub replaces_row : List ℕ → Rows → Stamp → Bool
replaces_row r f new = replaces (eqb (get_or r 0 0) 1) (stamp_at r f.epoch f.ssr f.corr) new

-- 02, CR 3: a record replaces the one that is kept for a slot now; slot 0 is none
unfoldable pub comes_to : List ℕ → Rows → ℕ → Stamp → Bool
comes_to s f slot new = not (eqb slot 0) && (all_there f.size s f.first slot && replaces_row (row_at s (offset f.size f.first slot) f.size) f new)
