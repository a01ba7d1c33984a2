-- 01, Examples to hold against it: the field's three products.
use mathlib.Core.Path.{◌≡◌, refl}
use Rattle.bits.specs.Poly.{times_x}
use Rattle.field64.specs.Field.{twice_of, add_if, product_run, product}

-- 2 × 32 = 3, 2 × 63 = 61, 32 × 32 = 48
pub products : (product 2 32 ≡ 3) × (product 2 63 ≡ 61) × (product 32 32 ≡ 48)
unfolding product product_run add_if twice_of times_x
products = (refl, refl, refl)
