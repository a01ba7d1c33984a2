-- A broadcast list that is not refused has 255 entries, none of them ill.
use Prim.Native.Nat.{ℕ}
use mathlib.Core.Path.{◌≡◌, refl}
use mathlib.Core.List.{List}
use mathlib.Core.Logic.{dite}
use mathlib.Core.Bool.{Bool, true, false}
use native.Mathlib.Decide.{ℕ_discrete}
use native.Mathlib.Omega.{arith}
use borrow.Author.Tests.{eq-eqb, ne_eqb}
use lib.ListN.{length}
use Rattle.bits.specs.Pick.{pick}
use Rattle.bits.specs.Some.{any_of}
use Rattle.broadcast.specs.Issues.{is_ill, issues_refusal}

pub issues_long : (is : List ℕ) → issues_refusal is ≡ 0 → length is ≡ 255
unfolding issues_refusal
issues_long is e =
    dite (ℕ_discrete (length is) 255) (λ q. q)
    (λ n. absurd (let z : ◌≡◌ {A = ℕ} 1 0 = rw (ne_eqb (length is) 255 n) at e in omega arith))

pub issues_sound : (is : List ℕ) → issues_refusal is ≡ 0 → any_of is_ill is ≡ false
unfolding issues_refusal
issues_sound is e = go (any_of is_ill is) (rw (eq-eqb (length is) 255 (issues_long is e)) at e)
  where
    go : (b : Bool) → ◌≡◌ {A = ℕ} (pick b 17 0) 0 → b ≡ false
    go true h = absurd (let z : ◌≡◌ {A = ℕ} 17 0 = h in omega arith)
    go false h = refl
