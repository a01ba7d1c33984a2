-- Numbers with their signs are equal where their 32 bits are.
use Prim.Native.Nat.{suc, ◌-◌, ◌<◌}
use mathlib.Core.Path.{◌≡◌, refl}
use mathlib.Core.Bool.{Bool, true, false}
use native.Mathlib.Omega.{arith}
use borrow.Author.Tests.{eq-eqb, ne_eqb, eqb-true, eqb-false}
use lib.Dec.{eqb}
use lib.IntN.{ℤ, pos, negsuc}
use mir.Syntax.{w32}
use mir.Val.{of_z, SFits}
use Rattle.sheet_checking.specs.Same.{same_number_of}

-- two numbers are equal exactly where their bits are
pub same_bits : (x y : ℤ) → SFits w32 x → SFits w32 y → eqb (of_z w32 x) (of_z w32 y) ≡ same_number_of x y
same_bits (pos x) (pos y) h k = refl
same_bits (pos x) (negsuc n) h k =
    ne_eqb x (4294967296 - suc n) (λ e. let a : x < 2147483648 = h.sfits in let b : n < 2147483648 = k.sfits in omega arith)
same_bits (negsuc m) (pos y) h k =
    ne_eqb (4294967296 - suc m) y (λ e. let a : m < 2147483648 = h.sfits in let b : y < 2147483648 = k.sfits in omega arith)
same_bits (negsuc m) (negsuc n) h k = go (eqb m n) refl
  where
    go : (b : Bool) → eqb m n ≡ b → eqb (4294967296 - suc m) (4294967296 - suc n) ≡ b
    go true e = eq-eqb (4294967296 - suc m) (4294967296 - suc n) (let f = eqb-true m n e in omega arith)
    go false e =
        ne_eqb (4294967296 - suc m) (4294967296 - suc n)
        (λ (g : 4294967296 - suc m ≡ 4294967296 - suc n). eqb-false m n e (let a : m < 2147483648 = h.sfits in let b : n < 2147483648 = k.sfits in omega arith))
