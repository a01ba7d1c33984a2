-- 02, CR 7: what is shown of sheets.
use Rattle.std.specs.Prelude.{ℕ, ◌<◌, ◌≡◌, true, List, [], ◌∷◌, length, take}
use Rattle.std.proofs.Math.Option.{none}
use Rattle.bits.specs.Bytes.{Bytes}
use Rattle.frame.specs.Frame.{is_prn}
use Rattle.in_force.specs.Back.{mask_in_force}
use Rattle.in_force.specs.Bytes.{Holds}
use Rattle.row.specs.declared.Row.{Row}
use Rattle.list_right.specs.InForce.{list_in_force}
use Rattle.list_right.specs.Good.{Good}
use Rattle.list_right.specs.Examples.{sent, issues}
use Rattle.sheet_form.specs.Layout.{sheet_of, sheet_length}
use Rattle.sheet_form.specs.Reading.{wrong_at, header_said, rows_said}
use Rattle.sheet_form.specs.declared.Header.{Header}
use Rattle.sheet_writing.specs.Writing.{most_sheet_rows, sheet_refusal, sheet_room, sheet_for}
use Rattle.sheet_right.specs.Allowed.{Allowed}

-- bytes are read, as this header and these rows
pub record ReadAs (limit : ℕ) (h : Header) (rs : List Row) (s : List ℕ) : Type 0 where
  pub bytes : Bytes s
  pub right : wrong_at limit true s ≡ none
  pub header : header_said s ≡ h
  pub rows : rows_said s ≡ rs

-- 02, CR 7: every sheet that the writer's rules can give is read, and read back; the limit is one that two bytes can say
abbrev pub AllRead : Type 0
AllRead = (limit : ℕ) (h : Header) (rs : List Row) → limit < 65536 → Allowed limit h rs → ReadAs limit h rs (sheet_of h rs)

-- 02, CR 7: and no other: bytes that are read are the sheet of what they say, which the writer's rules can give
pub record IsSheet (limit : ℕ) (s : List ℕ) : Type 0 where
  pub allowed : Allowed limit (header_said s) (rows_said s)
  pub same : s ≡ sheet_of (header_said s) (rows_said s)

-- 02, CR 7: so of all bytes that are read
abbrev pub NoOther : Type 0
NoOther = (limit : ℕ) (s : List ℕ) → Bytes s → wrong_at limit true s ≡ none → IsSheet limit s

-- the header of what is in force
abbrev pub header_in_force : ℕ → List (List ℕ) → List ℕ → Header
header_in_force prn h is =
    record { prn = prn; ssr = (mask_in_force prn h).ssr; iodp = (mask_in_force prn h).iodp; rows = length (list_in_force prn h is) }

-- 02, CR 7, with demand 3: what is written from a ledger that holds what is in force after the frames h is read as the list in force
abbrev pub WrittenRead : Type 0
WrittenRead =
    (s : List ℕ) (prn : ℕ) (h : List (List ℕ)) (is room : List ℕ)
    → is_prn prn ≡ true
    → Holds s prn h
    → sheet_refusal s is room ≡ 0
    → ReadAs most_sheet_rows (header_in_force prn h is) (list_in_force prn h is) (take (sheet_length (length (list_in_force prn h is))) (sheet_room s is room))

-- 02, CR 7: the 35 bytes of 01's example
abbrev pub example35 : List ℕ
example35 =
    0x01 ∷ 0x00 ∷ 0x05 ∷ 0x3C ∷ 0x01 ∷ 0x05 ∷ 0x00 ∷ 0x01
    ∷ 0x02 ∷ 0x00 ∷ 0x15 ∷ 0x13 ∷ 0x00 ∷ 0x25 ∷ 0x02
    ∷ 0x00 ∷ 0x00 ∷ 0x06 ∷ 0x40 ∷ 0xFF ∷ 0xFF ∷ 0xF3 ∷ 0x80 ∷ 0x00 ∷ 0x00 ∷ 0x05 ∷ 0x00 ∷ 0xFF ∷ 0xFF ∷ 0xF6 ∷ 0xA0 ∷ 0x13
    ∷ 0xFF ∷ 0x00 ∷ 0x00
    ∷ []

-- 02, CR 7: of any ledger that holds what is in force after 01's example, the sheet is those bytes
abbrev pub Example : Type 0
Example = (s : List ℕ) (h : List (List ℕ)) → Good 60 h sent → Holds s 60 h → sheet_for s issues ≡ example35
