-- A code held against its six bits.
use mathlib.Core.Path.{◌≡◌, refl}
use mathlib.Core.Bool.{Bool, true, false, ◌&&◌}
use mathlib.Core.List.{[], ◌∷◌}
use Prim.Native.Nat.{ℕ}
use lib.Dec.{ltb}
use Rattle.fitting.specs.Fits.{fits}
use Rattle.code_writing.specs.Codes.{code_widths}

pub code_fits : (v : ℕ) → ltb v 64 ≡ fits code_widths (v ∷ [])
unfolding fits
code_fits v = elim (ltb v 64) as (λ (b : Bool). b ≡ (b && true)) [ true ↦ refl | false ↦ refl ]
