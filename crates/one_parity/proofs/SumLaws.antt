-- Sums in the field of 64 over a range: laws of any terms.
use Prim.Native.Nat.{ℕ, zero, suc, ◌+◌, ◌<◌}
use mathlib.Core.Path.{◌≡◌, refl, sym, ap, ap₂, ◌∙◌}
use mathlib.Core.Logic.{dite}
use mathlib.Core.List.{List, [], ◌∷◌}
use native.Mathlib.Decide.{ℕ_discrete}
use native.Mathlib.Nat.{not-suc-le-zero, add-zero, add-suc}
use native.Mathlib.Omega.{arith}
use borrow.Author.Tests.{eq-eqb, ne_eqb}
use lib.Dec.{eqb, lit<}
use lib.Bits.{bit_xor, xor_lt, xor_comm, xor_zero_r}
use Rattle.bits.specs.Pick.{pick}
use Rattle.bits.proofs.XorLaws.{xor_assoc, xor_swap}
use Rattle.field64.specs.Field.{product}
use Rattle.field64.proofs.FieldLaws.{product_xor_left, product_xor_right, product_zero_left, product_zero_right}
use Rattle.one_parity.specs.Inverse.{sum_to}

pub sum_ext : (f g : ℕ → ℕ) (n : ℕ) → ((i : ℕ) → i < n → f i ≡ g i) → sum_to f n ≡ sum_to g n
unfolding sum_to
sum_ext f g zero h = refl
sum_ext f g (suc n) h = ap₂ bit_xor (sum_ext f g n (λ i l. h i (omega arith))) (h n (omega arith))

pub sum_lt : (f : ℕ → ℕ) (n : ℕ) → ((i : ℕ) → f i < 64) → sum_to f n < 64
unfolding sum_to
sum_lt f zero h = lit< tt
sum_lt f (suc n) h = xor_lt 6 (sum_to f n) (f n) (sum_lt f n h) (h n)

pub sum_zero : (n : ℕ) → sum_to (λ (i : ℕ). 0) n ≡ 0
unfolding sum_to
sum_zero zero = refl
sum_zero (suc n) = ap (λ (x : ℕ). bit_xor x 0) (sum_zero n)

pub sum_xor : (f g : ℕ → ℕ) (n : ℕ) → sum_to (λ (i : ℕ). bit_xor (f i) (g i)) n ≡ bit_xor (sum_to f n) (sum_to g n)
unfolding sum_to
sum_xor f g zero = refl
sum_xor f g (suc n) = ap (λ (x : ℕ). bit_xor x (bit_xor (f n) (g n))) (sum_xor f g n) ∙ xor_swap (sum_to f n) (sum_to g n) (f n) (g n)

-- a factor before or after the sum
pub sum_left : (c : ℕ) (f : ℕ → ℕ) (n : ℕ) → sum_to (λ (i : ℕ). product c (f i)) n ≡ product c (sum_to f n)
unfolding sum_to
sum_left c f zero = sym (product_zero_right c)
sum_left c f (suc n) = ap (λ (x : ℕ). bit_xor x (product c (f n))) (sum_left c f n) ∙ sym (product_xor_right c (sum_to f n) (f n))

pub sum_right : (c : ℕ) (f : ℕ → ℕ) (n : ℕ) → sum_to (λ (i : ℕ). product (f i) c) n ≡ product (sum_to f n) c
unfolding sum_to
sum_right c f zero = sym (product_zero_left c)
sum_right c f (suc n) = ap (λ (x : ℕ). bit_xor x (product (f n) c)) (sum_right c f n) ∙ sym (product_xor_left (sum_to f n) (f n) c)

-- sums of sums in either order
pub sum_swap : (f : ℕ → ℕ → ℕ) (m n : ℕ) → sum_to (λ (i : ℕ). sum_to (f i) n) m ≡ sum_to (λ (k : ℕ). sum_to (λ (i : ℕ). f i k) m) n
unfolding sum_to
sum_swap f zero n = sym (sum_zero n)
sum_swap f (suc m) n =
    ap (λ (x : ℕ). bit_xor x (sum_to (f m) n)) (sum_swap f m n) ∙ sym (sum_xor (λ (k : ℕ). sum_to (λ (i : ℕ). f i k) m) (f m) n)

-- a sum in two parts
pub sum_split : (f : ℕ → ℕ) (m n : ℕ) → sum_to f (m + n) ≡ bit_xor (sum_to f m) (sum_to (λ (j : ℕ). f (m + j)) n)
unfolding sum_to
sum_split f m zero = rw (add-zero m) (sym (xor_zero_r (sum_to f m)))
sum_split f m (suc n) =
    ap (sum_to f) (add-suc m n)
    ∙ ap (λ (x : ℕ). bit_xor x (f (m + n))) (sum_split f m n)
    ∙ xor_assoc (sum_to f m) (sum_to (λ (j : ℕ). f (m + j)) n) (f (m + n))

-- a sum with a single term
pub sum_single : (f : ℕ → ℕ) (p n : ℕ) → p < n → sum_to (λ (k : ℕ). pick (eqb p k) (f k) 0) n ≡ f p
unfolding sum_to
sum_single f p zero h = absurd (not-suc-le-zero h)
sum_single f p (suc n) h =
    dite (ℕ_discrete p n)
    (λ e.
    rw (e, eq-eqb n n refl)
    (ap (λ (x : ℕ). bit_xor x (f n)) (sum_ext _ (λ (k : ℕ). 0) n (λ k l. rw (ne_eqb p k (λ q. omega arith))) ∙ sum_zero n)))
    (λ ne. rw (ne_eqb p n ne) (ap (λ (x : ℕ). bit_xor x 0) (sum_single f p n (omega arith)) ∙ xor_zero_r (f p)))

-- ---- a sum by the entries where a is not zero
abbrev keep : ℕ → ℕ → List (ℕ × ℕ) → List (ℕ × ℕ)
keep zero j ts = ts
keep (suc x) j ts = (suc x, j) ∷ ts

-- the elements a j that are not zero, each with its index j below n
unfoldable pub terms : (ℕ → ℕ) → ℕ → List (ℕ × ℕ)
terms a zero = []
terms a (suc n) = keep (a n) n (terms a n)

unfoldable pub sum_over : (ℕ → ℕ → ℕ) → List (ℕ × ℕ) → ℕ
sum_over f [] = 0
sum_over f (t ∷ ts) = bit_xor (f t.0 t.1) (sum_over f ts)

pub sum_terms : (f : ℕ → ℕ → ℕ) (a : ℕ → ℕ) (n : ℕ) → ((j : ℕ) → f 0 j ≡ 0) → sum_to (λ (j : ℕ). f (a j) j) n ≡ sum_over f (terms a n)
unfolding sum_to sum_over terms
sum_terms f a zero h = refl
sum_terms f a (suc n) h = ap (λ (x : ℕ). bit_xor x (f (a n) n)) (sum_terms f a n h) ∙ go (a n)
  where
    go : (x : ℕ) → bit_xor (sum_over f (terms a n)) (f x n) ≡ sum_over f (keep x n (terms a n))
    go zero = ap (bit_xor (sum_over f (terms a n))) (h n) ∙ xor_zero_r (sum_over f (terms a n))
    go (suc x) = xor_comm (sum_over f (terms a n)) (f (suc x) n)
