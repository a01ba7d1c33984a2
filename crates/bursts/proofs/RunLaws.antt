-- 02, CR 8, of the check alone: a run of errors within at most 24 neighbouring positions is caught, whatever the number of bits under the check.
use mathlib.Core.Path.{◌≡◌}
use mathlib.Core.Logic.{◌⊎◌, inl, inr, dite}
use mathlib.Core.Bool.{true, false}
use mathlib.Core.List.{List}
use Prim.Native.Nat.{ℕ, ◌+◌, ◌<◌, ◌≤◌}
use native.Mathlib.Decide.{ℕ_discrete}
use native.Mathlib.Omega.{arith}
use Rattle.bits.specs.Bits.{bit_at}
use Rattle.check24.specs.Check.{check_ok}
use Rattle.bursts.specs.Run.{Run}
use Rattle.bursts.proofs.BurstLaws.{burst_caught}

module _ {n k : ℕ} {s t : List ℕ} (R : Run n k s t) where
  -- a bit past the n bits is as it was
  pub past : (i : ℕ) → n ≤ i → bit_at s i ≡ bit_at t i
  past i o = dite (ℕ_discrete (bit_at s i) (bit_at t i)) (λ e. e) (λ c. let l = R.inside i c in absurd (let z : ⊥ = omega arith in z))

  -- and so is one outside 24 positions that hold the run
  outside : k ≤ 24 → (i : ℕ) → (i < R.first) ⊎ (R.first + 24 ≤ i) → bit_at s i ≡ bit_at t i
  outside h i o = dite (ℕ_discrete (bit_at s i) (bit_at t i)) (λ e. e) (λ c. let r = R.near i c in absurd (go r o))
    where
      go : (R.first ≤ i) × (i < R.first + k) → (i < R.first) ⊎ (R.first + 24 ≤ i) → ⊥
      go r (inl l) = omega arith
      go r (inr l) = omega arith

-- a run within at most 24 positions of n bits and their 24 check bits is caught
pub run_caught : (n k : ℕ) (s t : List ℕ) → k ≤ 24 → Run (n + 24) k s t → check_ok s 0 n ≡ true → check_ok t 0 n ≡ false
run_caught n k s t h R ok =
    let l : R.one < n + 24 = R.inside R.one R.more in
    burst_caught s t 0 n R.first ok (λ i a b o. outside R h i o) R.one (omega arith) (omega arith) R.more
