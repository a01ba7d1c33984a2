-- Numbers as lent bytes hold them: there and back, for every number.
use mathlib.Core.Path.{◌≡◌, refl, ap}
use mathlib.Core.Bool.{Bool, true, false}
use Prim.Native.Nat.{ℕ, ◌+◌, ◌*◌, ◌/◌, ◌%◌}
use lib.Dec.{eqb}
use lib.IntN.{ℤ, pos, negsuc}
use native.Mathlib.Omega.{arith}
use borrow.Author.Tests.{eq-eqb, ne_eqb}
use Rattle.lent.specs.Digits.{flag_of, pair_of, quad_of, zig_of, zag_of}

-- two bytes back
pub pair_back : (v : ℕ) → pair_of (v / 256) (v % 256) ≡ v
pair_back v = omega arith

-- four bytes back
pub quad_back : (v : ℕ) → quad_of (pair_of (v / 65536 / 256) (v / 65536 % 256)) (pair_of (v % 65536 / 256) (v % 65536 % 256)) ≡ v
quad_back v = omega arith

-- a number with its sign back
pub zag_zig : (z : ℤ) → zag_of (zig_of z) ≡ z
zag_zig (pos x) = rw (eq-eqb (2 * x % 2) 0 (omega arith)) (ap pos (omega arith))
zag_zig (negsuc m) = rw (ne_eqb ((2 * m + 1) % 2) 0 (λ q. omega arith)) (ap negsuc (omega arith))

-- a flag reads back
pub flag_back : (b : Bool) → eqb (flag_of b) 1 ≡ b
flag_back true = refl
flag_back false = refl
