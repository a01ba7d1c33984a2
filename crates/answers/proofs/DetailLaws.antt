-- Laws of the detail of what is said: 0 exactly where nothing is, and the number modulo 256.
use mathlib.Core.Path.{◌≡◌, ap, ◌∙◌, sym}
use mathlib.Core.Logic.{dite}
use mathlib.Core.List.{List, []}
use Prim.Native.Nat.{ℕ, ◌%◌, ◌<◌}
use lib.Dec.{eqb}
use native.Mathlib.Decide.{ℕ_discrete}
use native.Mathlib.Omega.{arith}
use borrow.Author.Tests.{ne_eqb}
use Rattle.verdict.specs.Verdict.{number_in}
use Rattle.answers.specs.Detail.{detail_in}

-- of what gives the number 0 only where it says nothing
pub detail_zero : (said : List ℕ) → (number_in said ≡ 0 → said ≡ []) → eqb (detail_in said) 0 ≡ eqb (number_in said) 0
detail_zero said h =
    dite (ℕ_discrete (number_in said) 0)
    (λ e. ap (λ (x : List ℕ). eqb (detail_in x) 0) (h e) ∙ sym (ap (λ (x : List ℕ). eqb (number_in x) 0) (h e)))
    (λ n. rw (ne_eqb (number_in said) 0 n) (ne_eqb (detail_in said) 0 (λ e. n (omega arith))))

-- include/quieuvodan.h: the number is the detail modulo 256
pub detail_number : (said : List ℕ) → number_in said < 256 → detail_in said % 256 ≡ number_in said
detail_number said h = omega arith
