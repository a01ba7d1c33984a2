-- A loop that looks from the front for an element with a property, a turn at a time.
use mathlib.Core.Path.{◌≡◌}
use Prim.Native.Nat.{ℕ, ◌+◌, ◌≤◌, ◌<◌}
use mathlib.Core.Bool.{Bool, true, false, ◌||◌}
use mathlib.Core.List.{List}
use lib.ListN.{get_or, length, drop, drop_of_length-le}
use lib.Seq.{drop-cons}
use native.Mathlib.Numerals.{add-one}
use Rattle.bits.specs.Some.{any_of}

module _ {A : Type 0} where
  pub some_step : (p : A → List A → Bool) (xs : List A) (i : ℕ) (z : A) → i < length xs → any_of p (drop i xs) ≡ p (get_or xs i z) (drop (i + 1) xs) || any_of p (drop (i + 1) xs)
  unfolding any_of
  some_step p xs i z l = rw (drop-cons xs i z l, add-one i)

  pub some_hit : (p : A → List A → Bool) (xs : List A) (i : ℕ) (z : A) → i < length xs → p (get_or xs i z) (drop (i + 1) xs) ≡ true → any_of p (drop i xs) ≡ true
  unfolding any_of
  some_hit p xs i z l e = rw (drop-cons xs i z l, ← (add-one i), e)

  pub some_miss : (p : A → List A → Bool) (xs : List A) (i : ℕ) (z : A) → i < length xs → p (get_or xs i z) (drop (i + 1) xs) ≡ false → any_of p (drop i xs) ≡ any_of p (drop (i + 1) xs)
  unfolding any_of
  some_miss p xs i z l e = rw (drop-cons xs i z l, add-one i, (rw (add-one i) at e))

  pub some_end : (p : A → List A → Bool) (xs : List A) (i : ℕ) → length xs ≤ i → any_of p (drop i xs) ≡ false
  unfolding any_of
  some_end p xs i l = rw (drop_of_length-le xs l)
