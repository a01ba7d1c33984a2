-- A row of records that is blank from the start, and is filled up to the count.
use mathlib.Core.Path.{◌≡◌, refl, sym, ◌∙◌}
use mathlib.Core.Bool.{Bool, true, false, ◌&&◌}
use mathlib.Core.List.{List, [], ◌∷◌, ◌++◌, append_assoc, append-nil}
use mathlib.Core.Logic.{◌⊎◌, inl, inr}
use Prim.Native.Nat.{ℕ, zero, suc, ◌+◌, ◌≤◌, ◌<◌}
use native.Mathlib.Omega.{arith}
use native.Mathlib.Numerals.{add-one}
use lib.Dec.{ltb}
use lib.ListN.{get_or, length, drop, drop_of_length-le}
use borrow.Author.Tests.{ltb-true, ltb-false}
use Rattle.bits.specs.Table.{table}
use Rattle.bits.proofs.TableLaws.{drop_one}

-- the walk goes on below 23 and below the count, and stops at the first of the two
pub turn : (i n : ℕ) → ltb i 23 && ltb i n ≡ true → (i < 23) × (i < n)
turn i n e = go (ltb i 23) (ltb i n) refl refl e
  where
    go : (a b : Bool) → ltb i 23 ≡ a → ltb i n ≡ b → a && b ≡ true → (i < 23) × (i < n)
    go true true p q e = (ltb-true i 23 p, ltb-true i n q)
    go true false p q e = absurd (let z : ◌≡◌ {A = ℕ} 0 1 = cc in omega arith)
    go false b p q e = absurd (let z : ◌≡◌ {A = ℕ} 0 1 = cc in omega arith)

pub stop : (i n : ℕ) → ltb i 23 && ltb i n ≡ false → (23 ≤ i) ⊎ (n ≤ i)
stop i n e = go (ltb i 23) (ltb i n) refl refl e
  where
    go : (a b : Bool) → ltb i 23 ≡ a → ltb i n ≡ b → a && b ≡ false → (23 ≤ i) ⊎ (n ≤ i)
    go true true p q e = absurd (let z : ◌≡◌ {A = ℕ} 0 1 = cc in omega arith)
    go true false p q e = inr (ltb-false i n q)
    go false b p q e = inl (ltb-false i 23 p)

module _ {A : Type 0} (f : ℕ → A) (d : List A) (z : A) where
  -- what is left of the row is what it is to be
  pub fill_rest : (m i : ℕ) → length d ≡ i + m → ((j : ℕ) → i ≤ j → j < i + m → f j ≡ get_or d j z) → table f i ++ drop i d ≡ table f (i + m)
  unfolding table
  fill_rest zero i l e =
      let n : i + 0 ≡ i = omega arith in
      let past : length d ≤ i = omega arith in
      rw (drop_of_length-le d past, n) (append-nil (table f i))
  fill_rest (suc m) i l e =
      let n : i + suc m ≡ suc i + m = omega arith in
      rw (drop_one d i z (omega arith), ← e i (omega arith) (omega arith), n, add-one i)
      (sym (append_assoc (table f i) (f i ∷ []) (drop (suc i) d)) ∙ fill_rest m (suc i) (omega arith) (λ j h k. e j (omega arith) (omega arith)))
