-- The failing groups of a frame: none exactly if the parity holds; the first and how many lie within the 81.
use Rattle.std.proofs.Common.{◌≡◌, ℕ, zero, suc, ◌+◌, ◌≤◌, Bool, true, false, not, ◌&&◌, eqb, List, sym, refl, ◌∙◌, add-zero, arith, ne_eqb}
use Rattle.bits.specs.Pick.{pick}
use Rattle.parity.specs.Parity.{zero_from, parity_ok, group_fails, first_from, failing_from, failed_groups}
use Rattle.parity.proofs.ParityLaws.{zero_suc}

-- of n groups from group g on: each sum is zero exactly if none fails
zero_none : (s : List ℕ) (g n : ℕ) → zero_from s g n ≡ eqb (failing_from s g n) 0
unfolding zero_from failing_from
zero_none s g zero = refl
zero_none s g (suc n) = zero_suc s g n ∙ go (group_fails s g) (zero_none s (g + 1) n)
  where
    go : (t : Bool) → zero_from s (g + 1) n ≡ eqb (failing_from s (g + 1) n) 0 → (not t && zero_from s (g + 1) n) ≡ eqb (failing_from s (g + 1) n + pick t 1 0) 0
    go true h = sym (ne_eqb (failing_from s (g + 1) n + 1) 0 (λ e. omega arith))
    go false h = rw add-zero h

-- the first is 0 exactly if none fails
first_none : (s : List ℕ) (g n : ℕ) → eqb (first_from s g n) 0 ≡ eqb (failing_from s g n) 0
unfolding first_from failing_from
first_none s g zero = refl
first_none s g (suc n) = go (group_fails s g) (first_none s (g + 1) n)
  where
    go : (t : Bool) → eqb (first_from s (g + 1) n) 0 ≡ eqb (failing_from s (g + 1) n) 0
        → eqb (pick t (g + 1) (first_from s (g + 1) n)) 0 ≡ eqb (failing_from s (g + 1) n + pick t 1 0) 0
    go true h = ne_eqb (g + 1) 0 (λ e. omega arith) ∙ sym (ne_eqb (failing_from s (g + 1) n + 1) 0 (λ e. omega arith))
    go false h = rw add-zero h

first_le : (s : List ℕ) (g n : ℕ) → first_from s g n ≤ g + n
unfolding first_from
first_le s g zero = omega arith
first_le s g (suc n) = go (group_fails s g) (first_le s (g + 1) n)
  where
    go : (t : Bool) → first_from s (g + 1) n ≤ g + 1 + n → pick t (g + 1) (first_from s (g + 1) n) ≤ g + suc n
    go true h = omega arith
    go false h = omega arith

failing_le : (s : List ℕ) (g n : ℕ) → failing_from s g n ≤ n
unfolding failing_from
failing_le s g zero = omega arith
failing_le s g (suc n) = go (group_fails s g) (failing_le s (g + 1) n)
  where
    go : (t : Bool) → failing_from s (g + 1) n ≤ n → failing_from s (g + 1) n + pick t 1 0 ≤ suc n
    go true h = omega arith
    go false h = omega arith

-- of the 81 groups of a frame
module _ (frame : List ℕ) where
  pub parity_none : parity_ok frame ≡ eqb (failed_groups frame).failing 0
  unfolding parity_ok failed_groups
  parity_none = zero_none frame 0 81

  pub first_zero : eqb (failed_groups frame).first 0 ≡ eqb (failed_groups frame).failing 0
  unfolding failed_groups
  first_zero = first_none frame 0 81

  pub first_most : (failed_groups frame).first ≤ 81
  unfolding failed_groups
  first_most = first_le frame 0 81

  pub failing_most : (failed_groups frame).failing ≤ 81
  unfolding failed_groups
  failing_most = failing_le frame 0 81
