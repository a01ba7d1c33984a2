-- The check of 24 bits (01, Parity and check bits): high bit first, register starting at zero.
use Rattle.std.specs.Prelude.{ℕ, ◌+◌, ◌*◌, ◌^◌, List, [], ◌∷◌, Bool, eqb}
use Rattle.std.specs.Int.Bits.{bit_xor}
use Rattle.bits.specs.Bits.{bits_from, field_at}
use Rattle.bits.specs.Poly.{times_x}

-- 01, Parity and check bits: exponents 24, 23, 18, 17, 14, 11, 10, 7, 6, 5, 4, 3, 1, 0
abbrev pub polynomial : ℕ
polynomial = 2 ^ 24 + 2 ^ 23 + 2 ^ 18 + 2 ^ 17 + 2 ^ 14 + 2 ^ 11 + 2 ^ 10 + 2 ^ 7 + 2 ^ 6 + 2 ^ 5 + 2 ^ 4 + 2 ^ 3 + 2 + 1

-- 01, Parity and check bits: the register r after one bit more, which is added to its top
unfoldable pub feed_of : ℕ → ℕ → ℕ
feed_of r b = times_x 23 polynomial (bit_xor r (b * 2 ^ 23))

-- 01, Parity and check bits: the register r after the bits of a list, the first of them first
unfoldable pub check_bits : ℕ → List ℕ → ℕ
check_bits r [] = r
check_bits r (b ∷ bs) = check_bits (feed_of r b) bs

-- 01, Parity and check bits: the check of the n bits from bit `at` on, the register starting at zero
unfoldable pub check_of : List ℕ → ℕ → ℕ → ℕ
check_of s at n = check_bits 0 (bits_from s at n)

-- 01, Message fields: the 24 bits after the n bits from bit `at` on are their check
abbrev pub check_ok : List ℕ → ℕ → ℕ → Bool
check_ok s at n = eqb (check_of s at n) (field_at s (at + n) 24)
