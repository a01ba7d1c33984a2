-- The padded tables' rule: the power at the sum of two logarithms is the field's product, zero or not.
use mathlib.Core.Path.{◌≡◌, refl, sym, ap, ap₂, ◌∙◌}
use mathlib.Core.Logic.{dite}
use Prim.Native.Nat.{ℕ, ◌+◌, ◌%◌, ◌<◌, ◌≤◌}
use native.Mathlib.Decide.{ℕ_discrete}
use native.Mathlib.Nat.{mod-eq_of_lt}
use native.Mathlib.Omega.{arith}
use lib.ListN.{get_or}
use borrow.Author.Tests.{ne_eqb, lt-ltb, le-ltb}
use Rattle.bits.proofs.TableLaws.{get_or_table}
use Rattle.field64.specs.Field.{product}
use Rattle.field64.specs.Logarithms.{power, log_from}
use Rattle.field64.specs.Padded.{pad_log, pad_power, pad_logs, pad_powers}
use Rattle.field64.proofs.FieldLaws.{six, product_mod_left, product_mod_right, product_zero_left, product_zero_right}
use Rattle.field64.proofs.LogLaws.{log_power, power_add}

pad_zero : (a : ℕ) → a % 64 ≡ 0 → pad_log a ≡ 126
unfolding pad_log
pad_zero a z = rw z refl

pad_some : (a : ℕ) → (a % 64 ≡ 0 → ⊥) → pad_log a ≡ log_from (a % 64) 1 0 63
unfolding pad_log
pad_some a z = rw (ne_eqb (a % 64) 0 z) refl

past : (n : ℕ) → 126 ≤ n → pad_power n ≡ 0
unfolding pad_power
past n h = rw (le-ltb n 126 h) refl

within : (n : ℕ) → n < 126 → pad_power n ≡ power n
unfolding pad_power
within n h = rw (lt-ltb n 126 h) refl

-- every logarithm is so small that the sum of two is within a byte
pub pad_lt : (a : ℕ) → pad_log a < 127
pad_lt a =
    dite (ℕ_discrete (a % 64) 0)
    (λ z. omega (arith, pad_zero a z))
    (λ z. omega (arith, pad_some a z, (log_power (a % 64) (six a) z).1))

-- the power at the sum of two logarithms
pub pad_product : (a b : ℕ) → pad_power (pad_log a + pad_log b) ≡ product a b
pad_product a b =
    rw (← product_mod_left a b, ← product_mod_right (a % 64) b)
    (dite (ℕ_discrete (a % 64) 0)
    (λ z. past (pad_log a + pad_log b) (omega (arith, pad_zero a z)) ∙ rw z (sym (product_zero_left (b % 64))))
    (λ z.
    dite (ℕ_discrete (b % 64) 0)
    (λ y. past (pad_log a + pad_log b) (omega (arith, pad_zero b y)) ∙ rw y (sym (product_zero_right (a % 64))))
    (λ y.
    let p = log_power (a % 64) (six a) z in
    let q = log_power (b % 64) (six b) y in
    ap pad_power (ap₂ (λ (x y : ℕ). x + y) (pad_some a z) (pad_some b y))
    ∙ within _ (omega (arith, p.1, q.1))
    ∙ sym (power_add _ _)
    ∙ ap₂ product p.0 q.0)))

pub pad_at : (a : ℕ) → a < 256 → get_or pad_logs a 0 ≡ pad_log a
unfolding pad_logs
pad_at a h = get_or_table pad_log 256 a 0 h

-- the same by the tables: a is a byte, and l is the logarithm of b
pub padded : (a b l : ℕ) → a < 256 → l ≡ pad_log b → get_or pad_powers ((get_or pad_logs a 0 + l) % 256) 0 ≡ product a b
unfolding pad_powers
padded a b l h e =
    let s : pad_log a + pad_log b < 256 = omega (arith, pad_lt a, pad_lt b) in
    rw (e, pad_at a h, mod-eq_of_lt s) (get_or_table pad_power 256 (pad_log a + pad_log b) 0 s ∙ pad_product a b)
