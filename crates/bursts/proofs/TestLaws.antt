-- Two lists that a computed test finds equal before and after 25 neighbouring bits are a run of 25.
use mathlib.Core.Path.{◌≡◌, sym, ◌∙◌, subst}
use mathlib.Core.Logic.{◌≢◌, dite}
use mathlib.Core.Bool.{Bool}
use mathlib.Core.List.{List}
use Prim.Native.Nat.{ℕ, ◌+◌, ◌-◌, ◌*◌, ◌<◌, ◌≤◌}
use native.Mathlib.Decide.{dec_lt}
use native.Mathlib.Omega.{arith}
use lib.Dec.{T, eqb, eqb→eq}
use lib.ListN.{length}
use Rattle.bits.specs.Bits.{bit_at}
use Rattle.bits.proofs.Below.{all, below}
use Rattle.bits.proofs.RunLaws.{bit_none}
use Rattle.bursts.specs.Run.{Changed, Run}

-- whether bit j, counted from bit i on, is the same in both
unfoldable pub same_from : List ℕ → List ℕ → ℕ → ℕ → Bool
same_from s t i j = eqb (bit_at s (i + j)) (bit_at t (i + j))

module _ (s t : List ℕ) where
  tested : (i n : ℕ) → T (all (same_from s t i) n) → (j : ℕ) → i ≤ j → j < i + n → bit_at s j ≡ bit_at t j
  unfolding same_from
  tested i n h j l k =
      let e : i + (j - i) ≡ j = omega arith in
      subst (λ (x : ℕ). bit_at s x ≡ bit_at t x) e (eqb→eq _ _ (below (same_from s t i) n h (j - i) (omega arith)))

  -- before bit p, and m bits after the 25, up to the last byte's end
  pub run_tested : (p m : ℕ) → length t ≡ length s → p + 25 + m ≡ 8 * length s → T (all (same_from s t 0) p) → T (all (same_from s t (p + 25)) m)
      → bit_at s p ≢ bit_at t p → Run (p + 25) 25 s t
  run_tested p m l e a b c = record { long = l; first = p; near = within; inside = λ i d. (within i d).1; one = p; more = c }
    where
      after : (i : ℕ) → p + 25 ≤ i → bit_at s i ≡ bit_at t i
      after i h =
          dite (dec_lt i (p + 25 + m)) (λ k. tested (p + 25) m b i h k)
          (λ k. sym (bit_none s i (omega arith)) ∙ bit_none t i (omega arith))

      within : (i : ℕ) → Changed s t i → (p ≤ i) × (i < p + 25)
      within i d =
          dite (dec_lt i p) (λ k. absurd (d (tested 0 p a i (omega arith) (omega arith))))
          (λ k. dite (dec_lt i (p + 25)) (λ h. (omega arith, h)) (λ h. absurd (d (after i (omega arith)))))
