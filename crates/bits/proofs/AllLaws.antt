-- std's test of all of a list, as a table of conditions has it: of each index below its length, one more at a time.
use mathlib.Core.Path.{◌≡◌, ◌∙◌, sym, ap, refl}
use mathlib.Core.Bool.{Bool, true, ◌&&◌}
use mathlib.Core.List.{List}
use Prim.Native.Nat.{ℕ, zero, suc, ◌+◌, ◌≤◌, ◌<◌}
use lib.ListN.{get_or, length, take}
use Rattle.std.proofs.Math.Seq.{take-length}
use native.Mathlib.Omega.{arith}
use native.Mathlib.Numerals.{add-one}
use Rattle.std.specs.List.{list_all}
use Rattle.std.proofs.lemmas.List.Folds.{list_all_more}

module _ {A : Type 0} (p : A → Bool) (xs : List A) (d : A) (a : ℕ → Bool) where
  -- as far as index i
  all_so_far : a 0 ≡ true → ((i : ℕ) → i < length xs → a (i + 1) ≡ (a i && p (get_or xs i d))) → (i : ℕ) → i ≤ length xs → list_all p (take i xs) ≡ a i
  all_so_far none more zero l = sym none
  all_so_far none more (suc i) l =
      let h : i < length xs = omega arith in
      rw (← add-one i, list_all_more p xs i d h, all_so_far none more i (omega arith)) (sym (more i h))

  -- a is the test of the indices below its argument
  pub all_counted : a 0 ≡ true → ((i : ℕ) → i < length xs → a (i + 1) ≡ (a i && p (get_or xs i d))) → list_all p xs ≡ a (length xs)
  all_counted none more =
      let e : take (length xs) xs ≡ xs = take-length xs in
      rw e at (all_so_far none more (length xs) (omega arith))
