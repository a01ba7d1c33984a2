-- The field's product by logarithms (02, CR 5): each element but zero is one of the 63 powers of x.
use Rattle.std.specs.Prelude.{ℕ, zero, suc, ◌+◌, ◌%◌, ◌||◌, List, eqb, get_or}
use Rattle.bits.specs.Pick.{pick}
use Rattle.bits.specs.Table.{table}
use Rattle.field64.specs.Field.{twice_of}

-- 02, CR 5: x to the power n
unfoldable pub power : ℕ → ℕ
power zero = 1
power (suc n) = twice_of (power n)

-- 02, CR 5: the first of k exponents from n on whose power is a, where p is x to the power n; 0 if none is
unfoldable pub log_from : ℕ → ℕ → ℕ → ℕ → ℕ
log_from a p n zero = 0
log_from a p n (suc k) = pick (eqb p a) n (log_from a (twice_of p) (n + 1) k)

-- 02, CR 5: the table of 63 powers
unfoldable pub powers : List ℕ
powers = table power 63

-- 02, CR 5: the table of 64 logarithms; zero has none, its entry is 0
unfoldable pub logs : List ℕ
logs = table (λ (a : ℕ). log_from a 1 0 63) 64

-- 02, CR 5: the product by tables of logarithms and powers: the power at the sum of the logarithms; zero apart
unfoldable pub product_by : List ℕ → List ℕ → ℕ → ℕ → ℕ
product_by ls ps a b = pick (eqb (a % 64) 0 || eqb (b % 64) 0) 0 (get_or ps ((get_or ls (a % 64) 0 + get_or ls (b % 64) 0) % 63) 0)
