-- Numbers as lent bytes hold them: flags, two bytes, four bytes, a number with its sign.
use Rattle.std.specs.Prelude.{ℕ, ◌+◌, ◌*◌, ◌/◌, ◌%◌, Bool, List, eqb, ℤ, pos, negsuc, get_or}
use Rattle.bits.specs.Pick.{pick}

-- a flag: 1 if it holds, else 0
abbrev pub flag_of : Bool → ℕ
flag_of b = pick b 1 0

-- the number that a high and a low byte say
abbrev pub pair_of : ℕ → ℕ → ℕ
pair_of hi lo = 256 * hi + lo

-- the number that a high and a low number of two bytes say
abbrev pub quad_of : ℕ → ℕ → ℕ
quad_of hi lo = 65536 * hi + lo

-- a number with its sign as one without: 0, -1, 1, -2, .. are 0, 1, 2, 3, ..
abbrev pub zig_of : ℤ → ℕ
zig_of (pos x) = 2 * x
zig_of (negsuc m) = 2 * m + 1

-- the number with its sign that one without stands for
abbrev pub zag_of : ℕ → ℤ
zag_of n = pick (eqb (n % 2) 0) (pos (n / 2)) (negsuc (n / 2))

-- the number that two bytes from `at` on say; past the end they are 0
abbrev pub two_at : List ℕ → ℕ → ℕ
two_at s at = pair_of (get_or s at 0) (get_or s (at + 1) 0)

-- the number that four bytes from `at` on say
abbrev pub four_at : List ℕ → ℕ → ℕ
four_at s at = quad_of (pair_of (get_or s at 0) (get_or s (at + 1) 0)) (pair_of (get_or s (at + 2) 0) (get_or s (at + 3) 0))
