-- Laws of the test of 16: values held against widths, one at a time and record by record.
use mathlib.Core.Path.{◌≡◌, refl, sym, ◌∙◌}
use mathlib.Core.Logic.{⊎_elim}
use Prim.Native.Nat.{ℕ, zero, suc, ◌+◌, ◌<◌, ◌^◌}
use mathlib.Core.Bool.{Bool, true, false, ◌&&◌, true≢false}
use mathlib.Core.List.{List, [], ◌∷◌}
use lib.Dec.{ltb}
use lib.ListN.{get_or, length}
use native.Mathlib.Nat.{not-suc-le-zero, eq-or-lt_of_le, le_of_suc-le-suc}
use native.Mathlib.Numerals.{add-one}
use Rattle.std.specs.List.{list_all, zip}
use Rattle.bits.proofs.AllLaws.{all_counted}
use Rattle.layout.specs.Layout.{part_widths}
use Rattle.fitting.specs.Fits.{eight, head_vals, fits, all_fit}

-- both of two tests that hold together
pub and_left : (a b : Bool) → (a && b) ≡ true → a ≡ true
and_left true b e = refl
and_left false b e = e

pub and_right : (a b : Bool) → (a && b) ≡ true → b ≡ true
and_right true b e = e
and_right false b e = absurd (true≢false (sym e))

-- each pair of a width and a value
pub fits_pairs : (ws vs : List ℕ) → list_all (λ (p : ℕ × ℕ). ltb p.1 (2 ^ p.0)) (zip ws vs) ≡ fits ws vs
unfolding fits
fits_pairs [] vs = refl
fits_pairs (w ∷ ws) [] = refl
fits_pairs (w ∷ ws) (v ∷ vs) = rw (fits_pairs ws vs)

-- the same for records: each of a list of them passes the test of its values
pub all_fit_each : {A : Type 0} (ws : List ℕ) (f : ℕ → List ℕ) (p : A → Bool) (xs : List A) (d : A) (n : ℕ) → length xs ≡ n → ((i : ℕ) → p (get_or xs i d) ≡ fits ws (f i)) → list_all p xs ≡ all_fit ws f n
unfolding all_fit
all_fit_each ws f p xs d n long same =
    rw (← long) (all_counted p xs d (all_fit ws f) refl (λ i l. rw (add-one i, same i)))

-- the same, one record more at a time
pub all_none : (ws : List ℕ) (f : ℕ → List ℕ) → all_fit ws f 0 ≡ true
unfolding all_fit
all_none ws f = refl

pub all_more : (ws : List ℕ) (f : ℕ → List ℕ) (n : ℕ) → all_fit ws f n ≡ true → fits ws (f n) ≡ true → all_fit ws f (n + 1) ≡ true
unfolding all_fit
all_more ws f n e g = rw (add-one n, e, g)

pub all_fit_lem : (ws : List ℕ) (f : ℕ → List ℕ) (n : ℕ) → all_fit ws f n ≡ true → (i : ℕ) → i < n → fits ws (f i) ≡ true
unfolding all_fit
all_fit_lem ws f zero e i h = absurd (not-suc-le-zero h)
all_fit_lem ws f (suc n) e i h =
    ⊎_elim
    (λ (q : i ≡ n). rw q (and_right (all_fit ws f n) (fits ws (f n)) e))
    (λ (l : i < n). all_fit_lem ws f n (and_left (all_fit ws f n) (fits ws (f n)) e) i l)
    (eq-or-lt_of_le (le_of_suc-le-suc h))

-- a test that does not hold
pub not_so : (b : Bool) → (b ≡ true → ⊥) → b ≡ false
not_so true h = absurd (h refl)
not_so false h = refl

-- one that does not fit is enough
pub all_miss : (ws : List ℕ) (f : ℕ → List ℕ) (n i : ℕ) → i < n → fits ws (f i) ≡ false → all_fit ws f n ≡ false
all_miss ws f n i l e = not_so (all_fit ws f n) (λ h. true≢false (sym (all_fit_lem ws f n h i l) ∙ e))

-- a row filled up to eight with fields of no width
pub head_eight : (iodp start epoch ssr p v : ℕ) → fits (eight (part_widths iodp start)) (eight (head_vals epoch ssr p v)) ≡ fits (part_widths iodp start) (head_vals epoch ssr p v)
unfolding fits
head_eight iodp start epoch ssr p v = refl
