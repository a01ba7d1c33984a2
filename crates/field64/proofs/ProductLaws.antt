-- Bounds of the field's product.
use mathlib.Core.Bool.{Bool, true, false}
use Prim.Native.Nat.{ℕ, zero, suc, ◌/◌, ◌%◌, ◌<◌}
use native.Mathlib.Nat.{mod-lt, zero-lt-suc}
use lib.Dec.{ltb, ltb→lt, lit<}
use lib.Bits.{xor_lt}
use Rattle.bits.specs.Pick.{pick}
use Rattle.bits.specs.Poly.{times_x}
use Rattle.field64.specs.Field.{twice_of, add_if, product_run, product}
use Rattle.bits.proofs.Below.{below}

-- each stays below 64
pub twice_lt : (a : ℕ) → a < 64 → twice_of a < 64
unfolding twice_of times_x
twice_lt a h = ltb→lt (twice_of a) 64 (below (λ k. ltb (twice_of k) 64) 64 tt a h)

pick_lt : (t : Bool) {a b m : ℕ} → a < m → b < m → pick t a b < m
pick_lt true h k = h
pick_lt false h k = k

pub add_if_lt : (s a b : ℕ) → s < 64 → a < 64 → add_if s a b < 64
unfolding add_if
add_if_lt s a b h k = pick_lt (ltb 0 (b % 2)) (xor_lt 6 s a h k) h

pub run_lt : (n s a b : ℕ) → s < 64 → a < 64 → product_run n s a b < 64
unfolding product_run
run_lt zero s a b h k = h
run_lt (suc n) s a b h k = run_lt n (add_if s a b) (twice_of a) (b / 2) (add_if_lt s a b h k) (twice_lt a k)

pub product_lt : (a b : ℕ) → product a b < 64
unfolding product
product_lt a b = run_lt 6 0 (a % 64) (b % 64) (lit< tt) (mod-lt a (zero-lt-suc 63))
