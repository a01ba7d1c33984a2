-- The field of 64 (01, Parity and check bits): a number below 64 is a polynomial in vector form, its low digit the constant term; 1 + x + x^6 is zero.
use Rattle.std.specs.Prelude.{ℕ, zero, suc, ◌/◌, ◌%◌, ltb}
use Rattle.std.specs.Int.Bits.{bit_xor}
use Rattle.bits.specs.Pick.{pick}
use Rattle.bits.specs.Poly.{times_x}

-- 01, Parity and check bits: a times x, where 1 + x + x^6, as a number 67, is zero
unfoldable pub twice_of : ℕ → ℕ
twice_of a = times_x 5 67 a

-- 01, Parity and check bits: the sum of s and a where b is odd, else s
unfoldable pub add_if : ℕ → ℕ → ℕ → ℕ
add_if s a b = pick (ltb 0 (b % 2)) (bit_xor s a) s

-- 01, Parity and check bits: s plus a times the n low digits of b
unfoldable pub product_run : ℕ → ℕ → ℕ → ℕ → ℕ
product_run zero s a b = s
product_run (suc n) s a b = product_run n (add_if s a b) (twice_of a) (b / 2)

-- 01, Parity and check bits: the product of two elements; of any number its six low digits count
unfoldable pub product : ℕ → ℕ → ℕ
product a b = product_run 6 0 (a % 64) (b % 64)
