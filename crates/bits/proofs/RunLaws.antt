-- Laws of a run of bits.
use mathlib.Core.Path.{◌≡◌, refl, sym, ap, ap₂, ◌∙◌, subst}
use mathlib.Core.Logic.{⊎_elim}
use mathlib.Core.List.{List, [], ◌∷◌, ◌++◌}
use Prim.Native.Nat.{ℕ, zero, suc, ◌+◌, ◌-◌, ◌/◌, ◌%◌, ◌^◌, ◌<◌, ◌≤◌}
use native.Mathlib.Nat.{not-suc-le-zero, eq-or-lt_of_le, zero-div, zero-add, add-zero}
use native.Mathlib.Numerals.{sub-one}
use native.Mathlib.Omega.{arith}
use lib.ListN.{length, get_or-eq_default}
use Rattle.bits.specs.Bits.{bit_at, bits_from}

pub bit_none : (s : List ℕ) (i : ℕ) → length s ≤ i / 8 → 0 ≡ bit_at s i
unfolding bit_at
bit_none s i h = sym (rw (get_or-eq_default s 0 {n = i / 8} h) (ap (λ (x : ℕ). x % 2) (zero-div (2 ^ (7 - i % 8)))))

-- one bit more
pub bits_step : (s : List ℕ) (i n : ℕ) → 0 < n → bits_from s i n ≡ bit_at s i ∷ bits_from s (i + 1) (n - 1)
unfolding bits_from
bits_step s i zero h = absurd (not-suc-le-zero h)
bits_step s i (suc n) h = ap (λ (m : ℕ). bit_at s i ∷ bits_from s (i + 1) m) (sym (sub-one (suc n)))

pub bits_none : (s : List ℕ) (i n : ℕ) → n ≤ 0 → bits_from s i n ≡ []
unfolding bits_from
bits_none s i zero h = refl
bits_none s i (suc n) h = absurd (not-suc-le-zero h)

-- a run of bits in two parts
pub bits_append : (s : List ℕ) (i m n : ℕ) → bits_from s i (m + n) ≡ bits_from s i m ++ bits_from s (i + m) n
unfolding bits_from
bits_append s i zero n = ap₂ (bits_from s) (sym (add-zero i)) (zero-add n)
bits_append s i (suc m) n =
    let e : suc m + n ≡ suc (m + n) = omega arith in
    let f : i + 1 + m ≡ i + suc m = omega arith in
    rw e (ap {B = List ℕ} (λ l. bit_at s i ∷ l) (bits_append s (i + 1) m n ∙ ap (λ (k : ℕ). bits_from s (i + 1) m ++ bits_from s k n) f))

-- runs are equal where their bits are
pub bits_ext : (s t : List ℕ) (i n : ℕ) → ((j : ℕ) → i ≤ j → j < i + n → bit_at s j ≡ bit_at t j) → bits_from s i n ≡ bits_from t i n
unfolding bits_from
bits_ext s t i zero h = refl
bits_ext s t i (suc n) h =
    ap₂ {C = List ℕ} (λ b l. b ∷ l) (h i (omega arith) (omega arith)) (bits_ext s t (i + 1) n (λ j a b. h j (omega arith) (omega arith)))

-- and their bits where they are
pub bits_at : (s t : List ℕ) (i n : ℕ) → bits_from s i n ≡ bits_from t i n → (j : ℕ) → i ≤ j → j < i + n → bit_at s j ≡ bit_at t j
unfolding bits_from
bits_at s t i zero e j a b = absurd (let z : ⊥ = omega arith in z)
bits_at s t i (suc n) e j a b =
    let here : bit_at s i ≡ bit_at t i = cc in
    let rest : bits_from s (i + 1) n ≡ bits_from t (i + 1) n = cc in
    ⊎_elim (λ q. subst (λ (k : ℕ). bit_at s k ≡ bit_at t k) q here) (λ l. bits_at s t (i + 1) n rest j (omega arith) (omega arith)) (eq-or-lt_of_le a)

pub bits_length : (s : List ℕ) (i n : ℕ) → length (bits_from s i n) ≡ n
unfolding bits_from
bits_length s i zero = refl
bits_length s i (suc n) = ap suc (bits_length s (i + 1) n)
