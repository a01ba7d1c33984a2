-- A sheet that the writer's rules can give is bytes.
use Prim.Native.Nat.{ℕ, zero, suc, ◌≤◌, ◌<◌}
use mathlib.Core.Path.{◌≡◌, refl}
use mathlib.Core.Bool.{true}
use mathlib.Core.Logic.{dite}
use mathlib.Core.List.{List, [], ◌∷◌, ◌++◌, Memᴰ}
use native.Mathlib.Decide.{dec_lt}
use native.Mathlib.Omega.{arith}
use lib.Dec.{lit<}
use lib.IntN.{ℤ}
use lib.Signed.{mag}
use borrow.Author.Tests.{le-leb, lt-leb}
use Rattle.bits.specs.Bytes.{Bytes}
use Rattle.records.specs.Signed.{raw_half}
use Rattle.records.proofs.SignedLaws.{raw_lt}
use Rattle.frame.specs.Frame.{is_prn}
use Rattle.row.specs.declared.Row.{Row}
use Rattle.sheet_form.specs.Layout.{bytes_of_two, bytes_of_four, header_field, row_field, row_fields, end_field, sheet_of}
use Rattle.sheet_form.specs.declared.Header.{Header}
use Rattle.sheet_right.specs.Allowed.{RowAllowed, Allowed}
use Rattle.sheet_right.proofs.ValueLaws.{given_small}

-- the same of a list, as a record, so that the list is read off it
record IsBytes (l : List ℕ) : Type 0 where
  each : Bytes l

no_bytes : IsBytes []
no_bytes = record { each = λ j. lit< tt }

byte_first : {b : ℕ} {bs : List ℕ} → b < 256 → IsBytes bs → IsBytes (b ∷ bs)
byte_first {b} {bs} h B = record { each = go }
  where
    go : Bytes (b ∷ bs)
    go zero = h
    go (suc j) = B.each j

bytes_both : (a : List ℕ) {b : List ℕ} → IsBytes a → IsBytes b → IsBytes (a ++ b)
bytes_both [] A B = B
bytes_both (x ∷ a) A B = byte_first (A.each 0) (bytes_both a (record { each = λ j. A.each (suc j) }) B)

-- ---- the numbers
two_bytes : (n : ℕ) {t : List ℕ} → n < 65536 → IsBytes t → IsBytes (bytes_of_two n ++ t)
two_bytes n l B = byte_first (omega arith) (byte_first (omega arith) B)

four_bytes : (z : ℤ) {t : List ℕ} → mag z < 2147483648 → IsBytes t → IsBytes (bytes_of_four z ++ t)
four_bytes z l B =
    let r : raw_half 2147483648 z < 4294967296 = raw_lt 2147483648 z l in
    byte_first (omega arith) (byte_first (omega arith) (byte_first (omega arith) (byte_first (omega arith) B)))

-- a PRN of the ten is a byte
prn_byte : (prn : ℕ) → is_prn prn ≡ true → prn < 256
prn_byte prn e =
    dite (dec_lt prn 256)
    (λ l. l)
    (λ n.
    absurd
    (let z : ◌≡◌ {A = ℕ} 0 1 =
    (let f = rw (le-leb 1 prn (omega arith), lt-leb prn 5 (omega arith), le-leb 59 prn (omega arith), lt-leb prn 63 (omega arith)) at e in cc) in
    omega arith))

-- ---- the fields
row_bytes : (r : Row) → RowAllowed r → IsBytes (row_field r)
unfolding row_field
row_bytes r A =
    byte_first (lit< tt)
    (byte_first (lit< tt)
    (byte_first (lit< tt)
    (byte_first (omega (arith, A.high))
    (two_bytes r.iodn (omega (arith, A.iodn))
    (byte_first (omega (arith, A.corr))
    (four_bytes r.radial (omega (arith, given_small 16 16383 r.radial A.radial))
    (four_bytes r.along (omega (arith, given_small 64 4095 r.along A.along))
    (four_bytes r.cross (omega (arith, given_small 64 4095 r.cross A.cross))
    (four_bytes r.clock (omega (arith, given_small 16 16383 r.clock A.clock))
    (byte_first (omega (arith, A.coded)) no_bytes))))))))))

rows_bytes : (rs : List Row) → ((r : Row) → Memᴰ r rs → RowAllowed r) → IsBytes (row_fields rs)
unfolding row_fields
rows_bytes [] A = no_bytes
rows_bytes (r ∷ rs) A = bytes_both (row_field r) (row_bytes r (A r (Memᴰ.head refl))) (rows_bytes rs (λ x m. A x (Memᴰ.tail m)))

end_bytes : IsBytes end_field
end_bytes = byte_first (lit< tt) (byte_first (lit< tt) (byte_first (lit< tt) no_bytes))

header_bytes : (h : Header) → is_prn h.prn ≡ true → h.ssr ≤ 3 → h.iodp ≤ 15 → h.rows < 65536 → IsBytes (header_field h)
unfolding header_field
header_bytes h p s i l =
    byte_first (lit< tt)
    (byte_first (lit< tt)
    (byte_first (lit< tt)
    (byte_first (prn_byte h.prn p)
    (byte_first (omega arith)
    (byte_first (omega arith)
    (two_bytes h.rows l no_bytes))))))

-- THE SHEET IS BYTES
pub sheet_bytes : (limit : ℕ) (h : Header) (rs : List Row) → limit < 65536 → Allowed limit h rs → Bytes (sheet_of h rs)
unfolding sheet_of
sheet_bytes limit h rs l A =
    (bytes_both (header_field h)
    (header_bytes h A.prn A.ssr A.iodp (omega (arith, A.count, A.few)))
    (bytes_both (row_fields rs) (rows_bytes rs A.rows) end_bytes)
    ).each
