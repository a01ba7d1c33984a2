-- A raw number is the lowest of its width, by its sixteen bits.
use Prim.Native.Nat.{ℕ, suc, ◌-◌, ◌<◌}
use mathlib.Core.Path.{◌≡◌, refl}
use mathlib.Core.Bool.{Bool, true, false}
use native.Mathlib.Omega.{arith}
use borrow.Author.Tests.{eq-eqb, ne_eqb, eqb-true, eqb-false}
use lib.Dec.{eqb}
use lib.IntN.{ℤ, pos, negsuc}
use mir.Syntax.{w16}
use mir.Val.{of_z, SFits}
use Rattle.row.specs.Row.{lowest}

-- the bits of −(n + 1) are 65535 − n
pub lowest_bits : (n : ℕ) → n < 32768 → (x : ℤ) → SFits w16 x → eqb (of_z w16 x) (65535 - n) ≡ lowest n x
lowest_bits n l (pos v) h = ne_eqb v (65535 - n) (λ e. let k : v < 32768 = h.sfits in omega arith)
lowest_bits n l (negsuc v) h = go (eqb v n) refl
  where
    go : (b : Bool) → eqb v n ≡ b → eqb (65536 - suc v) (65535 - n) ≡ b
    go true e = eq-eqb (65536 - suc v) (65535 - n) (let f = eqb-true v n e in omega arith)
    go false e = ne_eqb (65536 - suc v) (65535 - n) (λ (g : 65536 - suc v ≡ 65535 - n). eqb-false v n e (let k : v < 32768 = h.sfits in omega arith))
