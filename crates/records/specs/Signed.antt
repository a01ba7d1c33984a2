-- Two's complement (01, Message fields: "Radial, along, cross and C0 are two's complement"), for any width.
use Rattle.std.specs.Prelude.{ℕ, ◌-◌, ◌*◌, ◌^◌, List, ℤ, pos, negsuc, ltb}
use Rattle.bits.specs.Pick.{pick}
use Rattle.bits.specs.Bits.{field_at}

-- the number that the bits of x say, where the highest weighs half: below half they say themselves, from there on they count up to -1
abbrev pub signed_half : ℕ → ℕ → ℤ
signed_half half x = pick (ltb x half) (pos x) (negsuc (2 * half - 1 - x))

-- the number that the n bits of x say
abbrev pub signed_of : ℕ → ℕ → ℤ
signed_of n x = signed_half (2 ^ (n - 1)) x

-- the number that the n bits from bit `at` on say
abbrev pub signed_at : ℕ → List ℕ → ℕ → ℤ
signed_at n s at = signed_of n (field_at s at n)

-- the bits that say z, where the highest weighs half
abbrev pub raw_half : ℕ → ℤ → ℕ
raw_half half (pos x) = x
raw_half half (negsuc m) = 2 * half - 1 - m
