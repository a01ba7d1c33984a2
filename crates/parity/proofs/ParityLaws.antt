-- The parity check's walk over the groups, a turn at a time.
use Rattle.std.proofs.Common.{◌≡◌, ℕ, suc, ◌+◌, ◌-◌, ◌<◌, ◌≤◌, true, false, not, ◌&&◌, List, sym, add-zero, arith}
use mathlib.Core.Bool.{not-not}
use Rattle.bits.specs.Pick.{pick}
use Rattle.parity.specs.Parity.{zero_from, group_fails, first_from, failing_from}

-- the parity of one group more
pub zero_suc : (s : List ℕ) (g n : ℕ) → zero_from s g (suc n) ≡ (not (group_fails s g) && zero_from s (g + 1) n)
unfolding zero_from group_fails
zero_suc s g n = rw not-not

-- the next group of a walk down: what was found above it, with that group
module _ (s : List ℕ) (g n : ℕ) (above : 0 < g) (within : g ≤ n) where
  first_down : first_from s (g - 1) (n - (g - 1)) ≡ pick (group_fails s (g - 1)) g (first_from s g (n - g))
  unfolding first_from
  first_down =
      let e : n - (g - 1) ≡ suc (n - g) = omega arith in
      let d : g - 1 + 1 ≡ g = omega arith in
      rw (e, d)

  failing_down : failing_from s (g - 1) (n - (g - 1)) ≡ failing_from s g (n - g) + pick (group_fails s (g - 1)) 1 0
  unfolding failing_from
  failing_down =
      let e : n - (g - 1) ≡ suc (n - g) = omega arith in
      let d : g - 1 + 1 ≡ g = omega arith in
      rw (e, d)

  -- it fails
  pub down_fails : group_fails s (g - 1) ≡ true
      → (g ≡ first_from s (g - 1) (n - (g - 1))) × (failing_from s g (n - g) + 1 ≡ failing_from s (g - 1) (n - (g - 1)))
  down_fails f = (sym (rw f at first_down), sym (rw f at failing_down))

  -- it passes
  pub down_passes : group_fails s (g - 1) ≡ false
      → (first_from s g (n - g) ≡ first_from s (g - 1) (n - (g - 1))) × (failing_from s g (n - g) ≡ failing_from s (g - 1) (n - (g - 1)))
  down_passes f = (sym (rw f at first_down), sym (rw (f, add-zero) at failing_down))
