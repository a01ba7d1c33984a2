-- The register stays within 24 bits, and the check of a run of bits a turn at a time.
use mathlib.Core.Path.{◌≡◌, sym, ap}
use mathlib.Core.List.{List}
use Prim.Native.Nat.{ℕ, ◌+◌, ◌-◌, ◌*◌, ◌^◌, ◌<◌, ◌≤◌}
use native.Mathlib.Omega.{arith}
use lib.Dec.{lit<}
use lib.Bits.{bit_xor, xor_lt}
use Rattle.bits.specs.Bits.{bit_at, bits_from}
use Rattle.bits.proofs.RunLaws.{bits_step, bits_none}
use Rattle.bits.proofs.XorLaws.{times_x_lt}
use Rattle.check24.specs.Check.{polynomial, feed_of, check_bits}

-- a bit added to the register's top, and then times x
pub in_lt : (r b : ℕ) → r < 2 ^ 24 → b < 2 → bit_xor r (b * 2 ^ 23) < 2 ^ 24
in_lt r b h k = xor_lt 24 r (b * 2 ^ 23) h (omega arith)

pub feed_lt : (r b : ℕ) → r < 2 ^ 24 → b < 2 → feed_of r b < 2 ^ 24
unfolding feed_of
feed_lt r b h k = times_x_lt 23 (polynomial - 2 ^ 24) (lit< tt) (bit_xor r (b * 2 ^ 23)) (in_lt r b h k)

-- one bit more, and none left
pub check_step : (s : List ℕ) (i n r : ℕ) → 0 < n → check_bits (feed_of r (bit_at s i)) (bits_from s (i + 1) (n - 1)) ≡ check_bits r (bits_from s i n)
unfolding check_bits
check_step s i n r h = sym (ap (check_bits r) (bits_step s i n h))

pub check_end : (s : List ℕ) (i n r : ℕ) → n ≤ 0 → r ≡ check_bits r (bits_from s i n)
unfolding check_bits
check_end s i n r h = sym (ap (check_bits r) (bits_none s i n h))
