-- Laws of a sheet's fields: their lengths, and equal numbers.
use mathlib.Core.Path.{◌≡◌, refl}
use Prim.Native.Nat.{ℕ, ◌/◌, ◌%◌, ◌<◌}
use mathlib.Core.List.{List, [], ◌∷◌}
use lib.ListN.{get_or, length}
use native.Mathlib.Omega.{arith}
use mir.Syntax.{w16, w32}
use Rattle.std.specs.Int.{to_be_bytes}
use Rattle.row.specs.declared.Row.{Row}
use Rattle.sheet_form.specs.Layout.{bytes_of_two, header_field, row_field}
use Rattle.sheet_form.specs.declared.Header.{Header}

pub header_long : (h : Header) → length (header_field h) ≡ 8
unfolding header_field
header_long h = refl

pub row_long : (r : Row) → length (row_field r) ≡ 24
unfolding row_field
row_long r = refl

-- the bytes of a number, high byte first
abbrev pub quads : ℕ → List ℕ
quads n = n / 65536 / 256 ∷ n / 65536 % 256 ∷ n % 65536 / 256 ∷ n % 65536 % 256 ∷ []

pub two_bytes : (n : ℕ) → n < 65536 → to_be_bytes w16 n ≡ bytes_of_two n
two_bytes n h =
    let a : n / 256 % 256 ≡ n / 256 = omega arith in
    rw a

pub four_bytes : (n : ℕ) → n < 4294967296 → to_be_bytes w32 n ≡ quads n
four_bytes n h =
    let a : n / 16777216 % 256 ≡ n / 65536 / 256 = omega arith in
    let b : n / 256 % 256 ≡ n % 65536 / 256 = omega arith in
    let c : n % 256 ≡ n % 65536 % 256 = omega arith in
    rw (a, b, c)

-- what the digits of two and of four bytes make
abbrev two : List ℕ → List ℕ → List ℕ
two x rest = get_or x 0 0 ∷ get_or x 1 0 ∷ rest

abbrev four : List ℕ → List ℕ → List ℕ
four x rest = get_or x 0 0 ∷ get_or x 1 0 ∷ get_or x 2 0 ∷ get_or x 3 0 ∷ rest

-- the bytes of a row's field, by the digits of its numbers
abbrev pub row_digits : ℕ → List ℕ → ℕ → List ℕ → List ℕ → List ℕ → List ℕ → ℕ → List ℕ
row_digits slot iodn corr ra al cr ck code = 2 ∷ 0 ∷ 21 ∷ slot ∷ two iodn (corr ∷ four ra (four al (four cr (four ck (code ∷ [])))))

-- equal numbers, equal bytes
pub row_same : (slot corr : ℕ) {iodn iodn' ra ra' al al' cr cr' ck ck' : List ℕ} {code code' : ℕ} → iodn ≡ iodn' → ra ≡ ra' → al ≡ al' → cr ≡ cr' → ck ≡ ck' → code ≡ code'
    → row_digits slot iodn corr ra al cr ck code ≡ row_digits slot iodn' corr ra' al' cr' ck' code'
row_same slot corr n a b d e f = rw (n, a, b, d, e, f)
