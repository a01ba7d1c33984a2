-- The tables' rule (02, CR 5): each element but zero is the power at its logarithm, so the product by the tables is the field's.
use mathlib.Core.Path.{◌≡◌, refl, sym, ap, ap₂, ◌∙◌}
use mathlib.Core.Bool.{Bool, true, false, ◌||◌}
use mathlib.Core.List.{List}
use mathlib.Core.Logic.{dite}
use Prim.Native.Nat.{ℕ, zero, suc, ◌+◌, ◌-◌, ◌%◌, ◌<◌}
use native.Mathlib.Nat.{add-zero, add-suc, mod-lt, zero-lt-suc}
use native.Mathlib.Decide.{ℕ_discrete}
use native.Mathlib.Omega.{arith}
use lib.Dec.{T, eqb, eqb→eq, ltb, ltb→lt, lit<}
use lib.ListN.{get_or}
use borrow.Author.Tests.{ne_eqb}
use Rattle.bits.specs.Poly.{times_x}
use Rattle.bits.proofs.Below.{all, both, both_left, both_right, below}
use Rattle.bits.proofs.TableLaws.{get_or_table}
use Rattle.field64.specs.Field.{twice_of, product}
use Rattle.field64.specs.Logarithms.{power, log_from, powers, logs, product_by}
use Rattle.field64.proofs.ProductLaws.{twice_lt}
use Rattle.field64.proofs.FieldLaws.{six, product_mod_left, product_mod_right, product_zero_left, product_zero_right, product_one_right, product_twice}

-- the product by any tables: of zero, and of others
module _ (ls ps : List ℕ) (a b : ℕ) where
  pub by_zero : (eqb (a % 64) 0 || eqb (b % 64) 0) ≡ true → 0 ≡ product_by ls ps a b
  unfolding product_by
  by_zero e = sym (rw e refl)

  pub by_logs : (eqb (a % 64) 0 || eqb (b % 64) 0) ≡ false → get_or ps ((get_or ls (a % 64) 0 + get_or ls (b % 64) 0) % 63) 0 ≡ product_by ls ps a b
  unfolding product_by
  by_logs e = sym (rw e refl)

-- the logarithm of an element
log : ℕ → ℕ
log a = get_or logs a 0

-- one test over the 63 elements but zero: the power at the logarithm is the element, and the logarithm is below 63
powered : ℕ → Bool
powered n = eqb (power (log_from (n + 1) 1 0 63)) (n + 1)

small : ℕ → Bool
small n = ltb (log_from (n + 1) 1 0 63) 63

test : T (all (λ (n : ℕ). both (powered n) (small n)) 63)
unfolding powered small power log_from twice_of times_x
test = tt

log_shown : (a : ℕ) → a < 64 → log a ≡ log_from a 1 0 63
unfolding log logs
log_shown a h = get_or_table (λ (k : ℕ). log_from k 1 0 63) 64 a 0 h

power_lt : (n : ℕ) → power n < 64
unfolding power
power_lt zero = lit< tt
power_lt (suc n) = twice_lt (power n) (power_lt n)

-- the product of two powers is the power at the sum
pub power_add : (i j : ℕ) → product (power i) (power j) ≡ power (i + j)
unfolding power
power_add i zero = product_one_right (power i) (power_lt i) ∙ ap power (sym (add-zero i))
power_add i (suc j) = product_twice (power i) (power j) (power_lt j) ∙ ap twice_of (power_add i j) ∙ ap power (sym (add-suc i j))

-- after 63 the powers come again, by one test as far as two logarithms reach
again : ℕ → Bool
again n = eqb (power (n % 63)) (power n)

test_again : T (all again 125)
unfolding again power twice_of times_x
test_again = tt

power_mod : (n : ℕ) → n < 125 → power (n % 63) ≡ power n
unfolding again
power_mod n h = eqb→eq (power (n % 63)) (power n) (below again 125 test_again n h)

-- an element but zero is the power at its logarithm, which is below 63
pub log_power : (a : ℕ) → a < 64 → (a ≡ 0 → ⊥) → (power (log_from a 1 0 63) ≡ a) × (log_from a 1 0 63 < 63)
unfolding powered small
log_power a h z =
    let n = a - 1 in
    let e : a ≡ n + 1 = omega arith in
    let l : n < 63 = omega arith in
    let t = below (λ (k : ℕ). both (powered k) (small k)) 63 test n l in
    rw e (
      eqb→eq (power (log_from (n + 1) 1 0 63)) (n + 1) (both_left (powered n) (small n) t),
      ltb→lt (log_from (n + 1) 1 0 63) 63 (both_right (powered n) (small n) t),
    )

-- the same by the table
power_log : (a : ℕ) → a < 64 → (a ≡ 0 → ⊥) → (power (log a) ≡ a) × (log a < 63)
power_log a h z = rw (log_shown a h) (log_power a h z)

by_powers : (a b : ℕ) → a < 64 → b < 64 → (a ≡ 0 → ⊥) → (b ≡ 0 → ⊥) → get_or powers ((log a + log b) % 63) 0 ≡ product a b
unfolding powers
by_powers a b h k z y =
    let p = power_log a h z in
    let q = power_log b k y in
    get_or_table power 63 ((log a + log b) % 63) 0 (mod-lt (log a + log b) (zero-lt-suc 62))
    ∙ power_mod (log a + log b) (omega arith)
    ∙ sym (power_add (log a) (log b))
    ∙ ap₂ product p.0 q.0

-- the product by these tables is the field's
pub product_by_lem : (a b : ℕ) → product_by logs powers a b ≡ product a b
unfolding log
product_by_lem a b =
    rw (← product_mod_left a b, ← product_mod_right (a % 64) b)
    (dite (ℕ_discrete (a % 64) 0)
    (λ z. sym (by_zero logs powers a b (rw z refl)) ∙ rw z (sym (product_zero_left (b % 64))))
    (λ z.
    dite (ℕ_discrete (b % 64) 0)
    (λ y. sym (by_zero logs powers a b (rw (ne_eqb (a % 64) 0 z, y) refl)) ∙ rw y (sym (product_zero_right (a % 64))))
    (λ y. sym (by_logs logs powers a b (rw (ne_eqb (a % 64) 0 z) (ne_eqb (b % 64) 0 y))) ∙ by_powers (a % 64) (b % 64) (six a) (six b) z y)))
