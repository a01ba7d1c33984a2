-- Of how many numbers a test holds: one more where one number is added, and the ten once each.
use mathlib.Core.Path.{◌≡◌, refl, sym}
use mathlib.Core.Logic.{◌≢◌, dite}
use Prim.Native.Nat.{ℕ, ◌+◌, ◌<◌}
use mathlib.Core.Bool.{Bool, true, false, not, ◌||◌, ◌&&◌}
use mathlib.Core.List.{List, [], ◌∷◌}
use lib.Dec.{T, eqb, leb, eqb→eq}
use native.Mathlib.Decide.{ℕ_discrete}
use native.Mathlib.Omega.{arith}
use borrow.Author.Tests.{eq-eqb, ne_eqb, leb-true}
use Rattle.bits.specs.Pick.{pick}
use Rattle.bits.proofs.Below.{below}
use Rattle.bits.proofs.TestLaws.{both_hold}
use Rattle.frame.specs.Frame.{is_prn}
use Rattle.table_right.specs.Calls.{the_ten, how_many}

pub many_same : (p q : ℕ → Bool) (xs : List ℕ) → ((x : ℕ) → q x ≡ p x) → how_many q xs ≡ how_many p xs
unfolding how_many
many_same p q [] e = refl
many_same p q (x ∷ xs) e = rw (e x, many_same p q xs e)

-- q holds where p does, and of k besides
module _ (p q : ℕ → Bool) (k : ℕ) (no : p k ≡ false) (yes : q k ≡ true) (e : (x : ℕ) → x ≢ k → q x ≡ p x) where
  one_more : (x : ℕ) → pick (q x) 1 0 ≡ pick (p x) 1 0 + pick (eqb k x) 1 0
  one_more x =
      dite (ℕ_discrete x k)
      (λ z. rw (z, yes, no, eq-eqb k k refl))
      (λ z. rw (e x z, ne_eqb k x (λ w. z (sym w))) (omega arith))

  pub many_more : (xs : List ℕ) → how_many q xs ≡ how_many p xs + how_many (eqb k) xs
  unfolding how_many
  many_more [] = refl
  many_more (x ∷ xs) = omega (arith, many_more xs, one_more x)

-- a PRN of the ten stands among them once
abbrev once : ℕ → Bool
once k = not (is_prn k) || eqb (how_many (eqb k) the_ten) 1

pub prn_below : (k : ℕ) → is_prn k ≡ true → k < 64
prn_below k h = go (leb 1 k && leb k 5) refl h
  where
    go : (b : Bool) → leb 1 k && leb k 5 ≡ b → b || (leb 59 k && leb k 63) ≡ true → k < 64
    go true e q = omega (arith, leb-true k 5 (both_hold (leb 1 k) (leb k 5) e).1)
    go false e q = omega (arith, leb-true k 63 (both_hold (leb 59 k) (leb k 63) q).1)

pub ten_once : (k : ℕ) → is_prn k ≡ true → how_many (eqb k) the_ten ≡ 1
unfolding how_many
ten_once k h = go (is_prn k) h (below once 64 tt k (prn_below k h))
  where
    go : (b : Bool) → b ≡ true → T (not b || eqb (how_many (eqb k) the_ten) 1) → how_many (eqb k) the_ten ≡ 1
    go true e t = eqb→eq (how_many (eqb k) the_ten) 1 t
    go false e t = absurd (let z : ◌≡◌ {A = Bool} false true = e in let o : ◌≡◌ {A = ℕ} 0 1 = cc in omega arith)
