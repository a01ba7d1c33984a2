-- docs/FORM.md: a table is four rooms of a ledger's size, one behind the other. 02, CR 14.
use Rattle.std.specs.Prelude.{ℕ, ◌*◌, Bool, not, ◌&&◌, ◌||◌, List, [], ◌++◌, eqb, ltb, length, get_or, take, drop}
use Rattle.bits.specs.Pick.{pick}
use Rattle.frame.specs.Frame.{is_prn}
use Rattle.held_mask.specs.Size.{size}

-- 02, CR 14: one table of four ledgers
abbrev pub table_size : ℕ
table_size = size * 4

-- FORM: room i, from 0
unfoldable pub part : List ℕ → ℕ → List ℕ
part t i = take size (drop (size * i) t)

-- the table with other bytes in room i
unfoldable pub put_part : List ℕ → ℕ → List ℕ → List ℕ
put_part t i r = take (size * i) t ++ (r ++ drop size (drop (size * i) t))

-- FORM: the PRN byte of room i, its first
abbrev pub prn_in : List ℕ → ℕ → ℕ
prn_in t i = get_or t (size * i) 0

-- FORM: a room's PRN byte is 0, or one of the ten that stands in none of the three other rooms
abbrev pub is_right : ℕ → ℕ → ℕ → ℕ → Bool
is_right p x y z = eqb p 0 || (is_prn p && not (eqb p x) && not (eqb p y) && not (eqb p z))

-- 02, CR 14: bytes that are a table in the form fixed in docs/FORM.md: their length, and the four PRN bytes
unfoldable pub is_table : List ℕ → Bool
is_table t =
    eqb (length t) table_size
    && is_right (prn_in t 0) (prn_in t 1) (prn_in t 2) (prn_in t 3)
    && is_right (prn_in t 1) (prn_in t 0) (prn_in t 2) (prn_in t 3)
    && is_right (prn_in t 2) (prn_in t 0) (prn_in t 1) (prn_in t 3)
    && is_right (prn_in t 3) (prn_in t 0) (prn_in t 1) (prn_in t 2)

-- the first room with this PRN byte, 4 if there is none
unfoldable pub room_with : List ℕ → ℕ → ℕ
room_with t p = pick (eqb (prn_in t 0) p) 0 (pick (eqb (prn_in t 1) p) 1 (pick (eqb (prn_in t 2) p) 2 (pick (eqb (prn_in t 3) p) 3 4)))

-- 02, CR 14: the room that is open for a PRN of the ten, 4 if there is none; PRN 0 has no room, whatever a frame says
unfoldable pub room_of : List ℕ → ℕ → ℕ
room_of t prn = pick (is_prn prn) (room_with t prn) 4

-- 02, CR 14: a PRN's ledger is open
abbrev pub has_room : List ℕ → ℕ → Bool
has_room t prn = ltb (room_of t prn) 4

-- the first room that is free, 4 if all four are open
abbrev pub free_room : List ℕ → ℕ
free_room t = room_with t 0

-- the ledger of a PRN in a table; no bytes where there is none
unfoldable pub ledger_for : List ℕ → ℕ → List ℕ
ledger_for t prn = pick (is_table t) (part t (room_of t prn)) []
