-- 02, CR 7: the correction sheet as bytes. Fields are tag [1 byte], length [2 bytes], content; numbers are high byte first.
use Rattle.std.specs.Prelude.{ℕ, ◌+◌, ◌*◌, ◌/◌, ◌%◌, List, [], ◌∷◌, ◌++◌, ℤ, length}
use Rattle.records.specs.Signed.{raw_half}
use Rattle.ura.specs.Ura.{code_of}
use Rattle.row.specs.declared.Row.{Row}
use Rattle.sheet_form.specs.declared.Header.{Header}

-- 02, CR 7: a number of two bytes
abbrev pub bytes_of_two : ℕ → List ℕ
bytes_of_two n = n / 256 ∷ n % 256 ∷ []

-- 02, CR 7: a number of four bytes, two's complement
abbrev pub bytes_of_four : ℤ → List ℕ
bytes_of_four z = bytes_of_two (raw_half 2147483648 z / 65536) ++ bytes_of_two (raw_half 2147483648 z % 65536)

-- 02, CR 7: tag (1), length (2), content
abbrev pub tagged : ℕ → List ℕ → List ℕ
tagged tag content = tag ∷ length content / 256 ∷ length content % 256 ∷ content

-- 02, CR 7, tag 01: PRN, IOD SSR, IODP (a byte each), row count (2)
unfoldable pub header_field : Header → List ℕ
header_field h = tagged 1 (h.prn ∷ h.ssr ∷ h.iodp ∷ bytes_of_two h.rows)

-- 02, CR 7, tag 02: slot (1), IODN (2), IOD Corr (1), radial, along, cross, clock (4 each, two's complement), URA code (1)
unfoldable pub row_field : Row → List ℕ
row_field r =
    tagged 2
    (r.slot.0
    ∷ (bytes_of_two r.iodn
    ++ (r.corr
    ∷ (bytes_of_four r.radial ++ (bytes_of_four r.along ++ (bytes_of_four r.cross ++ (bytes_of_four r.clock ++ (code_of r.ura ∷ []))))))))

-- 02, CR 7: the fields of some rows, in order
unfoldable pub row_fields : List Row → List ℕ
row_fields [] = []
row_fields (r ∷ rs) = row_field r ++ row_fields rs

-- 02, CR 7, tag FF: length 0, ends it
abbrev pub end_field : List ℕ
end_field = tagged 255 []

-- 02, CR 7: the sheet of a header and rows
unfoldable pub sheet_of : Header → List Row → List ℕ
sheet_of h rs = header_field h ++ (row_fields rs ++ end_field)

-- 02, CR 7: a header of 8 bytes, 24 for each row, an end of 3
abbrev pub sheet_length : ℕ → ℕ
sheet_length n = 8 + 24 * n + 3
