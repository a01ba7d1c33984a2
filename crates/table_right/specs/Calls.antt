-- 02, CR 14: calls that each get the table as the last one left it, newest first; and which ledgers are open after them, by looking back.
use Rattle.std.specs.Prelude.{ℕ, ◌+◌, Bool, true, false, not, ◌&&◌, ◌||◌, List, [], ◌∷◌, eqb, ltb, length, replicate}
use Rattle.bits.specs.Pick.{pick}
use Rattle.bits.specs.Bits.{field_at}
use Rattle.frame.specs.Frame.{prn_of, is_prn}
use Rattle.table_form.specs.Table.{table_size}
use Rattle.table.specs.Calls.{opened, closed, taking_bytes}

-- 02, CR 14: the calls that can change a table; questions change nothing
pub data Call : Type 0 where
  Open : ℕ → Call
  Close : ℕ → Call
  Frame : List ℕ → Call

-- 02, CR 14: zero bytes of a table's length are the empty table
unfoldable pub empty_table : List ℕ
empty_table = replicate table_size 0

-- what a call makes of a table
unfoldable pub table_by : List ℕ → Call → List ℕ
table_by t (Open prn) = opened t prn
table_by t (Close prn) = closed t prn
table_by t (Frame f) = taking_bytes t f

-- the table after the calls, from the empty one
unfoldable pub table_after : List Call → List ℕ
table_after [] = empty_table
table_after (c ∷ h) = table_by (table_after h) c

-- 01: the ten PRNs, 1 to 5 and 59 to 63
abbrev pub the_ten : List ℕ
the_ten = 1 ∷ 2 ∷ 3 ∷ 4 ∷ 5 ∷ 59 ∷ 60 ∷ 61 ∷ 62 ∷ 63 ∷ []

-- of how many numbers a test holds
unfoldable pub how_many : (ℕ → Bool) → List ℕ → ℕ
how_many p [] = 0
how_many p (x ∷ xs) = how_many p xs + pick (p x) 1 0

-- 02, CR 14, by looking back: a PRN is open from an opening that finds fewer than four open, to its closing
unfoldable pub is_open : List Call → ℕ → Bool
is_open [] prn = false
is_open (Open p ∷ h) prn = is_open h prn || (eqb p prn && is_prn p && ltb (how_many (is_open h) the_ten) 4)
is_open (Close p ∷ h) prn = is_open h prn && not (eqb p prn)
is_open (Frame f ∷ h) prn = is_open h prn

-- how many are open after the calls
abbrev pub open_count : List Call → ℕ
open_count h = how_many (is_open h) the_ten

-- 02, CR 14: a frame of the PRN: one refused 1 or 3 belongs to none
unfoldable pub is_own : ℕ → List ℕ → Bool
is_own prn f = eqb (length f) 125 && eqb (field_at f 0 16) 0xEB90 && eqb (prn_of f) prn

-- 02, CR 14, by looking back: the PRN's frames since its opening, newest first
unfoldable pub frames_for : List Call → ℕ → List (List ℕ)
frames_for [] prn = []
frames_for (Open p ∷ h) prn = pick (eqb p prn && not (is_open h prn)) [] (frames_for h prn)
frames_for (Close p ∷ h) prn = frames_for h prn
frames_for (Frame f ∷ h) prn = pick (is_own prn f) (f ∷ frames_for h prn) (frames_for h prn)

-- the PRN's frames among calls, newest first
unfoldable pub own_frames : ℕ → List Call → List (List ℕ)
own_frames prn [] = []
own_frames prn (Open p ∷ h) = own_frames prn h
own_frames prn (Close p ∷ h) = own_frames prn h
own_frames prn (Frame f ∷ h) = pick (is_own prn f) (f ∷ own_frames prn h) (own_frames prn h)

-- none of the calls closes the PRN
unfoldable pub keeps_open : ℕ → List Call → Bool
keeps_open prn [] = true
keeps_open prn (Open p ∷ h) = keeps_open prn h
keeps_open prn (Close p ∷ h) = not (eqb p prn) && keeps_open prn h
keeps_open prn (Frame f ∷ h) = keeps_open prn h

-- a call is for the PRN: its opening, its closing, or a frame of it
unfoldable pub is_for : ℕ → Call → Bool
is_for prn (Open p) = eqb p prn
is_for prn (Close p) = eqb p prn
is_for prn (Frame f) = is_own prn f
