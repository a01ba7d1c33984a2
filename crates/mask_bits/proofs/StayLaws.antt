-- 02, CR 12: no assigned place moves.
use mathlib.Core.Path.{◌≡◌, refl, sym, ◌∙◌}
use mathlib.Core.Logic.{dite}
use mathlib.Core.Bool.{Bool, true, false}
use mathlib.Core.List.{List, [], ◌∷◌}
use Prim.Native.Nat.{ℕ, zero, suc, ◌+◌, ◌-◌, ◌≤◌, ◌<◌}
use native.Mathlib.Decide.{ℕ_discrete}
use native.Mathlib.Omega.{arith}
use lib.ListN.{take}
use Rattle.slots.specs.Slots.{nth_from}
use Rattle.mask_bits.specs.NoPlaceMoves.{PlacesStay}
use Rattle.mask_bits.proofs.PlaceLaws.{more, one, clear, none_in, nth_from_lem}

-- where two rows agree on their first m bits, a place that has the slot of one of these in the one has it in the other
stays : (xs ys : List Bool) (k n m : ℕ) → take m xs ≡ take m ys → 1 ≤ nth_from xs k n → nth_from xs k n < k + m → nth_from ys k n ≡ nth_from xs k n
stays xs ys k n zero e p q = absurd (let z : ⊥ = omega (arith, nth_from_lem xs k n (λ y. omega arith)) in z)
stays [] ys k n (suc m) e p q = absurd (let y = none_in k n in let z : ⊥ = omega arith in z)
stays (x ∷ xs) [] k n (suc m) e p q = absurd (let z : ◌≡◌ {A = ℕ} 0 1 = cc in let y : ⊥ = omega arith in y)
stays (true ∷ xs) (false ∷ ys) k n (suc m) e p q = absurd (let z : ◌≡◌ {A = ℕ} 0 1 = cc in let y : ⊥ = omega arith in y)
stays (false ∷ xs) (true ∷ ys) k n (suc m) e p q = absurd (let z : ◌≡◌ {A = ℕ} 0 1 = cc in let y : ⊥ = omega arith in y)
stays (false ∷ xs) (false ∷ ys) k n (suc m) e p q =
    let f = clear xs k n in
    clear ys k n ∙ stays xs ys (k + 1) n m (cc) (omega arith) (omega arith) ∙ sym f
stays (true ∷ xs) (true ∷ ys) k n (suc m) e p q =
    dite (ℕ_discrete n 1)
    (λ y. rw (y, one ys k, one xs k) refl)
    (λ y.
    let f = more xs k n y in
    more ys k n y ∙ stays xs ys (k + 1) (n - 1) m (cc) (omega arith) (omega arith) ∙ sym f)

pub no_place_moves : PlacesStay
no_place_moves xs ys e = record {
  there = λ n p q. stays xs ys 1 n 174 e p (omega arith);
  back = λ n p q. stays ys xs 1 n 174 (sym e) p (omega arith);
}
