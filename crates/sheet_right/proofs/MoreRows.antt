-- 02, CR 11: a raised limit: a longer sheet is refused at its header, any other is judged as it was.
use Prim.Native.Nat.{ℕ, ◌≤◌, ◌<◌}
use mathlib.Core.Path.{◌≡◌, refl}
use mathlib.Core.Bool.{Bool, true, false, ◌&&◌}
use mathlib.Core.List.{List}
use mathlib.Core.Option.{some}
use native.Mathlib.Omega.{arith}
use lib.ListN.{length}
use borrow.Author.Tests.{le-leb, lt-leb, le-ltb}
use Rattle.lent.specs.Digits.{two_at}
use Rattle.list.specs.Rows.{list_in}
use Rattle.list.proofs.FitsLaws.{list_fits}
use Rattle.row.specs.declared.Row.{Row}
use Rattle.sheet_form.specs.Layout.{sheet_of}
use Rattle.sheet_form.specs.Reading.{header_ok, wrong_at, header_said}
use Rattle.sheet_form.specs.declared.Header.{Header}
use Rattle.sheet_writing.specs.Writing.{most_sheet_rows, sheet_refusal, sheet_room}
use Rattle.sheet_right.specs.Allowed.{Allowed}
use Rattle.sheet_right.specs.MoreRows.{Raised, refusal_before, room_before, KeptBytes, MoreRows}
use Rattle.sheet_right.proofs.AllRead.{any_order, count_is}

-- a test that fails fails with any other
and_false : (b : Bool) → b && false ≡ false
and_false true = refl
and_false false = refl

module _ (old new : ℕ) (l : old ≤ new) where
  -- a header that says too many rows is wrong
  too_many : (s : List ℕ) → old < two_at s 6 → header_ok old s ≡ false
  unfolding header_ok
  too_many s h = rw (lt-leb (two_at s 6) old h, and_false)

  refused : (rising : Bool) (s : List ℕ) → old < (header_said s).rows → wrong_at old rising s ≡ some 0
  unfolding wrong_at
  refused rising s h = rw (too_many s h)

  -- any other is right for both limits or for neither
  header_same : (s : List ℕ) → two_at s 6 ≤ old → header_ok new s ≡ header_ok old s
  unfolding header_ok
  header_same s h = rw (le-leb (two_at s 6) old h, le-leb (two_at s 6) new (omega arith))

  shorter : (rising : Bool) (s : List ℕ) → (header_said s).rows ≤ old → wrong_at new rising s ≡ wrong_at old rising s
  unfolding wrong_at
  shorter rising s h = rw (header_same s h)

  -- what is allowed under one limit is under any that it keeps within
  within : (a b : ℕ) (h : Header) (rs : List Row) → length rs ≤ b → Allowed a h rs → Allowed b h rs
  within a b h rs m A = record { prn = A.prn; ssr = A.ssr; iodp = A.iodp; count = A.count; few = m; rows = A.rows; rising = A.rising }

  pub raised : Raised old new
  raised = record {
    longer = λ h rs A m. refused true (sheet_of h rs) (rw (count_is new h rs (any_order new h rs A)) m);
    refused = refused;
    shorter = shorter;
    kept = λ h rs m A. within new old h rs m A;
    still = λ h rs A. within old new h rs (omega (arith, A.few)) A;
  }

-- a list of up to the limit was not refused for it
module _ (limit : ℕ) (s is room : List ℕ) (few : length (list_in s is) ≤ limit) where
  refusal_kept : sheet_refusal s is room ≡ refusal_before limit s is room
  unfolding sheet_refusal refusal_before
  refusal_kept = rw (le-ltb limit (length (list_in s is)) few)

  pub kept_bytes : KeptBytes limit s is room
  unfolding sheet_room room_before
  kept_bytes = record { refusal = refusal_kept; bytes = rw refusal_kept }

-- THE LIMIT IS RAISED
pub more_rows : MoreRows
more_rows = record { raised = raised 64 most_sheet_rows (omega arith); most = list_fits; bytes = kept_bytes 64 }
