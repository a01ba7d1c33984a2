-- What an issue that is joined may rely on.
use mathlib.Core.Path.{◌≡◌, refl}
use mathlib.Core.Bool.{Bool, true, false, not, ◌||◌}
use mathlib.Core.List.{List, [], ◌∷◌}
use Prim.Native.Nat.{ℕ, ◌≤◌}
use native.Mathlib.Omega.{arith}
use lib.Dec.{eqb, ltb}
use lib.ListN.{length}
use borrow.Author.Tests.{eqb-true, not-false, ltb-false}
use Rattle.bits.specs.Some.{any_of, first}
use Rattle.bits.proofs.TestLaws.{none_holds}
use Rattle.broadcast.specs.Issues.{is_ill}
use Rattle.joining.specs.Join.{join_refusal}

-- where none applies neither the list's length nor the PRN is wrong
by_none : (l p q : Bool) → first ((1, l) ∷ (11, p) ∷ (17, q) ∷ []) ≡ 0 → (l ≡ false) × (p ≡ false)
by_none true p q e = absurd (let z : ◌≡◌ {A = ℕ} 1 0 = e in omega arith)
by_none false true q e = absurd (let z : ◌≡◌ {A = ℕ} 11 0 = e in omega arith)
by_none false false q e = (refl, refl)

-- where none applies the slot of the PRN is in the list
pub join_fits : (is : List ℕ) (prn iodc : ℕ) → join_refusal is prn iodc ≡ 0 → (length is ≡ 255) × (1 ≤ prn) × (prn ≤ 63)
unfolding join_refusal
join_fits is prn iodc e =
    let z = by_none (not (eqb (length is) 255)) (ltb prn 1 || ltb 63 prn) (ltb 1023 iodc || any_of is_ill is) e in
    let p = none_holds (ltb prn 1) (ltb 63 prn) z.1 in
    (eqb-true (length is) 255 (not-false _ z.0), ltb-false prn 1 p.0, ltb-false 63 prn p.1)
