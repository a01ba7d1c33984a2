-- 02, CR 7: which sheets are read, where another is wrong, and what a sheet says. Fields are judged in order, each by itself and those before it.
use Rattle.std.specs.Prelude.{ℕ, zero, suc, ◌+◌, ◌/◌, ◌%◌, Bool, not, ◌&&◌, ◌||◌, List, [], ◌∷◌, eqb, ltb, leb, ℤ, pos, negsuc, get_or, length}
use Rattle.std.proofs.Math.Option.{Option, none, some}
use Rattle.bits.specs.Pick.{pick}
use Rattle.lent.specs.Digits.{two_at, four_at}
use Rattle.records.specs.Signed.{signed_of}
use Rattle.slots.specs.Slots.{satellite_of}
use Rattle.ura.specs.Ura.{ura_of}
use Rattle.frame.specs.Frame.{is_prn}
use Rattle.row.specs.declared.Row.{Row}
use Rattle.sheet_form.specs.declared.Header.{Header}

-- n bytes from `at` on are all there
abbrev pub reaches : List ℕ → ℕ → ℕ → Bool
reaches s at n = leb (at + n) (length s)

-- 02, CR 7: the tag and the length of the field at `at`
abbrev pub opens : List ℕ → ℕ → ℕ → ℕ → Bool
opens s at tag size = eqb (get_or s at 0) tag && eqb (two_at s (at + 1)) size

-- 02, CR 7: the number of four bytes from `at` on, two's complement
abbrev pub value_at : List ℕ → ℕ → ℤ
value_at s at = signed_of 32 (four_at s at)

-- a number without its sign
abbrev pub absolute : ℤ → ℕ
absolute (pos x) = x
absolute (negsuc m) = m + 1

-- 02, CR 7: a value that a usable raw number gives: one of -most to most, times the scale
unfoldable pub is_given : ℕ → ℕ → ℤ → Bool
is_given scale most z = eqb (absolute z % scale) 0 && leb (absolute z / scale) most

-- 02, CR 7: the header is right: all of it is there, PRN among the ten, SSR at most 3, IODP at most 15, at most so many rows
unfoldable pub header_ok : ℕ → List ℕ → Bool
header_ok limit s =
    reaches s 0 8
    && opens s 0 1 5
    && is_prn (get_or s 3 0)
    && leb (get_or s 4 0) 3
    && leb (get_or s 5 0) 15
    && leb (two_at s 6) limit

-- 02, CR 7: slots 1 to 174, above the one before where rows must rise
abbrev pub slot_ok : Bool → ℕ → ℕ → Bool
slot_ok rising before slot = leb 1 slot && leb slot 174 && (not rising || ltb before slot)

-- 02, CR 7: radial and clock are raw × 16 of a usable 15-bit number, along and cross raw × 64 of a usable 13-bit number
abbrev pub values_ok : List ℕ → ℕ → Bool
values_ok s at =
    is_given 16 16383 (value_at s (at + 7))
    && is_given 64 4095 (value_at s (at + 11))
    && is_given 64 4095 (value_at s (at + 15))
    && is_given 16 16383 (value_at s (at + 19))

-- 02, CR 7: the row at `at` is right: all of it is there, its slot, IODN at most 1023, Corr at most 7, its values, URA 1 to 63
unfoldable pub row_ok : Bool → ℕ → List ℕ → ℕ → Bool
row_ok rising before s at =
    reaches s at 24
    && opens s at 2 21
    && slot_ok rising before (get_or s (at + 3) 0)
    && leb (two_at s (at + 4)) 1023
    && leb (get_or s (at + 6) 0) 7
    && values_ok s at
    && leb 1 (get_or s (at + 23) 0)
    && leb (get_or s (at + 23) 0) 63

-- 02, CR 7: the end stands at `at`
abbrev pub end_ok : List ℕ → ℕ → Bool
end_ok s at = reaches s at 3 && opens s at 255 0

-- 02, CR 7: where the end is wrong, or a byte comes after it
abbrev pub wrong_end : List ℕ → ℕ → Option ℕ
wrong_end s at = pick (end_ok s at) (pick (eqb (length s) (at + 3)) none (some (at + 3))) (some at)

-- 02, CR 7: the tag of the first field that is wrong, missing or cut short, of n rows from `at` on and the end; `before` is the slot before them
unfoldable pub wrong_from : Bool → List ℕ → ℕ → ℕ → ℕ → Option ℕ
wrong_from rising s zero before at = wrong_end s at
wrong_from rising s (suc n) before at =
    pick (row_ok rising before s at) (wrong_from rising s n (get_or s (at + 3) 0) (at + 24)) (some at)

-- 02, CR 7: the offset of refusal 23, none where the sheet is read. At most `limit` rows (02, CR 11); rising slots or any order (02, CR 10)
unfoldable pub wrong_at : ℕ → Bool → List ℕ → Option ℕ
wrong_at limit rising s = pick (header_ok limit s) (wrong_from rising s (two_at s 6) 0 8) (some 0)

-- 02, CR 7: what the header says
abbrev pub header_said : List ℕ → Header
header_said s = record { prn = get_or s 3 0; ssr = get_or s 4 0; iodp = get_or s 5 0; rows = two_at s 6 }

-- 02, CR 7: what the row at `at` says
abbrev pub row_said : List ℕ → ℕ → Row
row_said s at =
    record {
      slot = record { 0 = get_or s (at + 3) 0 };
      system = (satellite_of (get_or s (at + 3) 0)).system;
      number = (satellite_of (get_or s (at + 3) 0)).number;
      iodn = two_at s (at + 4);
      corr = get_or s (at + 6) 0;
      radial = value_at s (at + 7);
      along = value_at s (at + 11);
      cross = value_at s (at + 15);
      clock = value_at s (at + 19);
      ura = ura_of (get_or s (at + 23) 0);
    }

-- 02, CR 7: what n rows from `at` on say
unfoldable pub rows_said_from : List ℕ → ℕ → ℕ → List Row
rows_said_from s zero at = []
rows_said_from s (suc n) at = row_said s at ∷ rows_said_from s n (at + 24)

-- 02, CR 7: the rows of a sheet
abbrev pub rows_said : List ℕ → List Row
rows_said s = rows_said_from s (two_at s 6) 8
