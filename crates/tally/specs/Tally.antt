-- docs/FORM.md: a tally is 160 bytes, the counter of refusal number n at 4 × n, four bytes, high byte first. 02, CR 14.
use Rattle.std.specs.Prelude.{ℕ, ◌+◌, ◌*◌, ◌/◌, ◌%◌, Bool, ◌&&◌, List, [], ◌∷◌, eqb, leb, ltb, length, get_or, set}
use Rattle.bits.specs.Pick.{pick}
use Rattle.bits.specs.Table.{table}
use Rattle.bits.specs.Bytes.{store_at}
use Rattle.lent.specs.Digits.{four_at}
use Rattle.tally.specs.declared.Tally.{Tally}

-- FORM: the bytes of a tally
abbrev pub tally_size : ℕ
tally_size = 160

-- as long as a tally
abbrev pub is_tally : List ℕ → Bool
is_tally y = eqb (length y) tally_size

-- 02, CR 14: refusal numbers are 1 to 39; 0 is taken and is not counted
abbrev pub is_counted : ℕ → Bool
is_counted n = leb 1 n && leb n 39

-- 02, CR 14: one more, stopping at 4,294,967,295
abbrev pub one_more : ℕ → ℕ
one_more x = pick (ltb x 4294967295) (x + 1) x

-- the four bytes of a number, high byte first
abbrev pub bytes_of : ℕ → List ℕ
bytes_of x = x / 65536 / 256 ∷ x / 65536 % 256 ∷ x % 65536 / 256 ∷ x % 65536 % 256 ∷ []

-- 02, CR 14: the counters with that of the refusal number one more; other numbers change nothing
unfoldable pub raised_of : Tally → ℕ → Tally
raised_of t n = pick (is_counted n) (record { counts = set t.counts n (one_more (get_or t.counts n 0)) }) t

-- the counters that the bytes of a tally say
unfoldable pub tally_of : List ℕ → Tally
tally_of y = record { counts = table (λ (i : ℕ). four_at y (4 * i)) 40 }

-- 02, CR 14: the tally with the refusal number counted up; bytes of another length, and other numbers, change nothing
unfoldable pub counted : List ℕ → ℕ → List ℕ
counted y n = pick (is_tally y && is_counted n) (store_at y (4 * n) (bytes_of (one_more (four_at y (4 * n))))) y
