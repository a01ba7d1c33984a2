-- What the test of 16 says of a row and of records: every value within its width.
use mathlib.Core.Path.{◌≡◌, refl}
use mathlib.Core.Bool.{Bool, true, ◌&&◌}
use mathlib.Core.List.{List, [], ◌∷◌}
use Prim.Native.Nat.{ℕ, zero, suc, ◌<◌, ◌^◌}
use lib.Dec.{ltb}
use native.Mathlib.Omega.{arith}
use borrow.Author.Tests.{ltb-true, lt-ltb}
use Rattle.bits.specs.Bits.{Within}
use Rattle.fitting.specs.Fits.{fits, all_fit}
use Rattle.fitting.proofs.FitLaws.{and_left, and_right}

-- two tests that hold, together
pub and_both : (a b : Bool) → a ≡ true → b ≡ true → (a && b) ≡ true
and_both a b p q = rw (p, q)

-- as many values as widths
abbrev pub Paired : List ℕ → List ℕ → Type 0
Paired [] [] = Unit {0}
Paired [] (v ∷ vs) = ⊥
Paired (w ∷ ws) [] = ⊥
Paired (w ∷ ws) (v ∷ vs) = Paired ws vs

-- what the test says of a row
pub fits_within : (ws vs : List ℕ) → Paired ws vs → fits ws vs ≡ true → Within ws vs
unfolding fits
fits_within [] [] p e = tt
fits_within [] (v ∷ vs) p e = absurd p
fits_within (w ∷ ws) [] p e = absurd p
fits_within (w ∷ ws) (v ∷ vs) p e =
    (ltb-true v (2 ^ w) (and_left (ltb v (2 ^ w)) (fits ws vs) e), fits_within ws vs p (and_right (ltb v (2 ^ w)) (fits ws vs) e))

-- and what it asks of it
pub within_fits : (ws vs : List ℕ) → Within ws vs → fits ws vs ≡ true
unfolding fits
within_fits [] vs w = refl
within_fits (x ∷ ws) [] w = refl
within_fits (x ∷ ws) (v ∷ vs) w = and_both (ltb v (2 ^ x)) (fits ws vs) (lt-ltb v (2 ^ x) w.0) (within_fits ws vs w.1)

-- of each of n records
pub all_fits : (ws : List ℕ) (f : ℕ → List ℕ) (n : ℕ) → ((i : ℕ) → i < n → Within ws (f i)) → all_fit ws f n ≡ true
unfolding all_fit
all_fits ws f zero h = refl
all_fits ws f (suc n) h =
    and_both (all_fit ws f n) (fits ws (f n)) (all_fits ws f n (λ i l. h i (omega arith))) (within_fits ws (f n) (h n (omega arith)))
