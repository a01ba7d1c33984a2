-- 02, CR 11: readers and writers of two limits, an old one and a new one.
use Rattle.std.specs.Prelude.{ℕ, ◌≤◌, ◌<◌, ◌≡◌, Bool, true, not, List, [], ◌∷◌, eqb, ltb, length}
use Rattle.std.proofs.Math.Option.{some}
use Rattle.bits.specs.Pick.{pick}
use Rattle.bits.specs.Some.{first}
use Rattle.bits.specs.Bytes.{store_at}
use Rattle.held_mask.specs.Mask.{mask_at}
use Rattle.broadcast.specs.Issues.{issues_refusal}
use Rattle.list.specs.Rows.{list_in}
use Rattle.row.specs.declared.Row.{Row}
use Rattle.sheet_form.specs.Layout.{sheet_of, sheet_length}
use Rattle.sheet_form.specs.Reading.{wrong_at, header_said}
use Rattle.sheet_form.specs.declared.Header.{Header}
use Rattle.sheet_writing.specs.Writing.{most_sheet_rows, sheet_for, sheet_refusal, sheet_room}
use Rattle.sheet_right.specs.Allowed.{Allowed}

-- 02, CR 11: a raised limit
pub record Raised (old new : ℕ) : Type 0 where
  -- an old reader refuses a longer sheet at offset 0, where the header stands
  pub longer : (h : Header) (rs : List Row) → Allowed new h rs → old < length rs → wrong_at old true (sheet_of h rs) ≡ some 0
  -- and any bytes whose header says more rows, in whatever order they come
  pub refused : (rising : Bool) (s : List ℕ) → old < (header_said s).rows → wrong_at old rising s ≡ some 0
  -- of any other bytes, both readers answer the same
  pub shorter : (rising : Bool) (s : List ℕ) → (header_said s).rows ≤ old → wrong_at new rising s ≡ wrong_at old rising s
  -- sheets of up to the old limit are those that they were; their bytes, sheet_of, name no limit
  pub kept : (h : Header) (rs : List Row) → length rs ≤ old → Allowed new h rs → Allowed old h rs
  pub still : (h : Header) (rs : List Row) → Allowed old h rs → Allowed new h rs

-- 02, CR 7, before the limit was raised: 21 with more rows than the limit, between 20 and 22
unfoldable pub refusal_before : ℕ → List ℕ → List ℕ → List ℕ → ℕ
refusal_before limit s is room =
    first
    ((issues_refusal is, not (eqb (issues_refusal is) 0))
    ∷ (20, not (mask_at s).has)
    ∷ (21, ltb limit (length (list_in s is)))
    ∷ (22, ltb (length room) (sheet_length (length (list_in s is))))
    ∷ [])

-- what the room then held
unfoldable pub room_before : ℕ → List ℕ → List ℕ → List ℕ → List ℕ
room_before limit s is room = pick (eqb (refusal_before limit s is room) 0) (store_at room 0 (sheet_for s is)) room

-- 02, CR 11: sheets of up to so many rows keep their bytes, and what is refused is refused as it was
pub record KeptBytes (limit : ℕ) (s is room : List ℕ) : Type 0 where
  pub refusal : sheet_refusal s is room ≡ refusal_before limit s is room
  pub bytes : sheet_room s is room ≡ room_before limit s is room

-- 02, CR 11: the limit is raised from 64 to the number of assigned slots; no list has more, and sheets of up to 64 rows keep their bytes
pub record MoreRows : Type 0 where
  pub raised : Raised 64 most_sheet_rows
  pub most : (s is : List ℕ) → length (list_in s is) ≤ most_sheet_rows
  pub bytes : (s is room : List ℕ) → length (list_in s is) ≤ 64 → KeptBytes 64 s is room
