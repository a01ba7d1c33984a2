-- What the counters of a tally's bytes say after a refusal number was counted: its own one more, every other as it was.
use mathlib.Core.Path.{◌≡◌, refl, sym, ap, ◌∙◌}
use mathlib.Core.Logic.{◌≢◌, ◌⊎◌, inl, inr, dite}
use Prim.Native.Nat.{ℕ, ◌+◌, ◌*◌, ◌/◌, ◌%◌, ◌≤◌}
use mathlib.Core.Bool.{true}
use mathlib.Core.List.{List}
use lib.ListN.{length, get_or}
use native.Mathlib.Decide.{dec_lt}
use native.Mathlib.Omega.{arith}
use Rattle.bits.specs.Bytes.{store_at}
use Rattle.bits.proofs.ByteLaws.{length_store, store_in, store_out}
use Rattle.lent.specs.Digits.{four_at}
use Rattle.lent.proofs.DigitLaws.{quad_back}
use Rattle.tally.specs.Tally.{tally_size, is_counted, one_more, bytes_of, counted}
use Rattle.tally.proofs.CountLaws.{count_one}

-- four bytes stored are read again
four_back : (y : List ℕ) (at v : ℕ) → at + 4 ≤ length y → four_at (store_at y at (bytes_of v)) at ≡ v
four_back y at v h =
    let u = store_at y at (bytes_of v) in
    let zero : at + 0 ≡ at = omega arith in
    let a : get_or u at 0 ≡ v / 65536 / 256 = ap (λ (k : ℕ). get_or u k 0) (sym zero) ∙ store_in y at (bytes_of v) 0 h (omega arith) in
    let b : get_or u (at + 1) 0 ≡ v / 65536 % 256 = store_in y at (bytes_of v) 1 h (omega arith) in
    let c : get_or u (at + 2) 0 ≡ v % 65536 / 256 = store_in y at (bytes_of v) 2 h (omega arith) in
    let d : get_or u (at + 3) 0 ≡ v % 65536 % 256 = store_in y at (bytes_of v) 3 h (omega arith) in
    rw (a, b, c, d) (quad_back v)

-- and leave four others
four_other : (y : List ℕ) (at v k : ℕ) → (k + 4 ≤ at) ⊎ (at + 4 ≤ k) → four_at (store_at y at (bytes_of v)) k ≡ four_at y k
four_other y at v k (inl h) =
    rw (
      store_out y at (bytes_of v) k (inl (omega arith)),
      store_out y at (bytes_of v) (k + 1) (inl (omega arith)),
      store_out y at (bytes_of v) (k + 2) (inl (omega arith)),
      store_out y at (bytes_of v) (k + 3) (inl (omega arith)),
    )
four_other y at v k (inr h) =
    rw (
      store_out y at (bytes_of v) k (inr (omega arith)),
      store_out y at (bytes_of v) (k + 1) (inr (omega arith)),
      store_out y at (bytes_of v) (k + 2) (inr (omega arith)),
      store_out y at (bytes_of v) (k + 3) (inr (omega arith)),
    )

module _ (y : List ℕ) (n : ℕ) (long : length y ≡ tally_size) (yes : is_counted n ≡ true) (near : n ≤ 39) where
  -- 02, CR 14: how often the number was given, one more, stopping at 4,294,967,295
  pub counter_own : four_at (counted y n) (4 * n) ≡ one_more (four_at y (4 * n))
  counter_own =
      let x = one_more (four_at y (4 * n)) in
      ap (λ (u : List ℕ). four_at u (4 * n)) (sym (count_one y n long x yes refl)) ∙ four_back y (4 * n) x (omega arith)

  pub counter_other : (m : ℕ) → m ≢ n → four_at (counted y n) (4 * m) ≡ four_at y (4 * m)
  counter_other m other =
      let x = one_more (four_at y (4 * n)) in
      ap (λ (u : List ℕ). four_at u (4 * m)) (sym (count_one y n long x yes refl))
      ∙ four_other y (4 * n) x (4 * m) (dite (dec_lt m n) (λ l. inl (omega arith)) (λ l. inr (omega arith)))

  pub tally_long : length (counted y n) ≡ tally_size
  tally_long =
      let x = one_more (four_at y (4 * n)) in
      ap (λ (u : List ℕ). length u) (sym (count_one y n long x yes refl)) ∙ length_store y (4 * n) (bytes_of x) ∙ long
