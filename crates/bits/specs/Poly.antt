-- Polynomials over the field of two, as numbers: the low digit is the constant term, and the sum is `bit_xor`.
use Rattle.std.specs.Prelude.{ℕ, ◌*◌, ◌^◌, ltb}
use Rattle.std.specs.Int.Bits.{bit_xor}
use Rattle.bits.specs.Pick.{pick}

-- a times x, where the polynomial p, of degree k + 1, is zero
unfoldable pub times_x : ℕ → ℕ → ℕ → ℕ
times_x k p a = pick (ltb a (2 ^ k)) (a * 2) (bit_xor (a * 2) p)
