-- Rows of one length, one after the other: stored, and read again. For any bytes.
use mathlib.Core.Path.{◌≡◌, refl, sym, ◌∙◌}
use mathlib.Core.Logic.{⊎_elim}
use Prim.Native.Nat.{ℕ, zero, suc, ◌+◌, ◌*◌, ◌<◌, ◌≤◌}
use mathlib.Core.List.{List, ◌++◌}
use lib.ListN.{get_or, length, length-append, get_or-append}
use lib.Seq.{get_or-append-add}
use native.Mathlib.Nat.{not-suc-le-zero, eq-or-lt_of_le, le_of_suc-le-suc, mul-le-mul_left, mul-suc}
use native.Mathlib.Numerals.{add-one}
use native.Mathlib.Omega.{arith}
use Rattle.bits.specs.Bytes.{store_at}
use Rattle.flat_numbers.specs.Rows.{rows_to}
use Rattle.flat_numbers.proofs.StoreLaws.{store_append}

-- the byte after m others
pub right : (xs ys : List ℕ) (m n at : ℕ) → length xs ≡ m → at ≡ m + n → get_or (xs ++ ys) at 0 ≡ get_or ys n 0
right xs ys m n at e p = rw (p, ← e) (get_or-append-add xs ys n 0)

-- rows of one length
module _ (f : ℕ → List ℕ) (w : ℕ) (long : (i : ℕ) → length (f i) ≡ w) where
  pub length_rows : (n : ℕ) → length (rows_to f n) ≡ w * n
  unfolding rows_to
  length_rows zero = omega arith
  length_rows (suc n) = length-append (rows_to f n) (f n) ∙ omega (arith, length_rows n, long n)

  -- a loop's first turn, and each turn
  pub rows_start : (s : List ℕ) (at : ℕ) → s ≡ store_at s at (rows_to f 0)
  unfolding rows_to store_at
  rows_start s at = refl

  pub rows_next : (s t : List ℕ) (at n k : ℕ) → t ≡ store_at s at (rows_to f n) → k ≡ at + w * n → store_at t k (f n) ≡ store_at s at (rows_to f (n + 1))
  unfolding rows_to
  rows_next s t at n k e p =
      rw (e, p, add-one n, ← length_rows n) (sym (store_append s at (rows_to f n) (f n)))

  -- byte k of row i
  pub row_at_lem : (n i k : ℕ) → i < n → k < w → get_or (rows_to f n) (w * i + k) 0 ≡ get_or (f i) k 0
  unfolding rows_to
  row_at_lem zero i k h l = absurd (not-suc-le-zero h)
  row_at_lem (suc n) i k h l =
      ⊎_elim
      (λ (e : i ≡ n). rw e (right (rows_to f n) (f n) (w * n) k (w * n + k) (length_rows n) refl))
      (λ (b : i < n).
      let m : w * suc i ≤ w * n = mul-le-mul_left w b in
      get_or-append (rows_to f n) (f n) 0 (w * i + k) (omega (arith, length_rows n, mul-suc w i)) ∙ row_at_lem n i k b l)
      (eq-or-lt_of_le (le_of_suc-le-suc h))
