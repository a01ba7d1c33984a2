-- A search that finds nothing, element by element.
use mathlib.Core.Path.{◌≡◌, refl, sym, ap, ◌∙◌}
use mathlib.Core.Logic.{dite, ◌≢◌}
use mathlib.Core.Bool.{Bool, true, false, ◌||◌, true≢false}
use mathlib.Core.List.{List, [], ◌∷◌}
use Prim.Native.Nat.{ℕ, zero, suc, ◌+◌, ◌-◌, ◌≤◌, ◌<◌}
use lib.Dec.{eqb}
use lib.ListN.{get_or, length, drop, length-drop}
use lib.Seq.{get_or-drop}
use native.Mathlib.Nat.{not-suc-le-zero, le_of_suc-le-suc}
use native.Mathlib.Decide.{ℕ_discrete}
use native.Mathlib.Omega.{arith}
use borrow.Author.Tests.{eq-eqb, ne_eqb, le-ltb, ltb-false}
use Rattle.bits.specs.Some.{any_of}
use Rattle.bits.specs.Table.{table}
use Rattle.bits.proofs.TableLaws.{length_table, get_or_table}
use Rattle.judge.specs.Judge.{is_high, is_same, is_again}
use Rattle.written_back.specs.Limits.{Once}

pub or_left : (a b : Bool) → (a || b) ≡ false → a ≡ false
or_left true b e = absurd (true≢false e)
or_left false b e = refl

pub or_right : (a b : Bool) → (a || b) ≡ false → b ≡ false
or_right true b e = absurd (true≢false e)
or_right false b e = e

module _ {A : Type 0} (p : A → List A → Bool) (z : A) where
  -- no element has the property: it is not found
  pub none_found : (xs : List A) → ((i : ℕ) → i < length xs → p (get_or xs i z) (drop (suc i) xs) ≡ false) → any_of p xs ≡ false
  unfolding any_of
  none_found [] h = refl
  none_found (x ∷ xs) h =
      let a : p x xs ≡ false = h 0 (omega arith) in
      rw a (none_found xs (λ i l. h (suc i) (omega arith)))

  -- not found: no element has it
  pub found_none : (xs : List A) → any_of p xs ≡ false → (i : ℕ) → i < length xs → p (get_or xs i z) (drop (suc i) xs) ≡ false
  unfolding any_of
  found_none [] e i h = absurd (not-suc-le-zero h)
  found_none (x ∷ xs) e zero h = or_left (p x xs) (any_of p xs) e
  found_none (x ∷ xs) e (suc i) h = found_none xs (or_right (p x xs) (any_of p xs) e) i (le_of_suc-le-suc h)

-- ---- 01, 12: a slot that is not blank stands once
again_not : (x : ℕ) (rest : List ℕ) → (x ≢ 0 → any_of (is_same x) rest ≡ false) → is_again x rest ≡ false
again_not x rest h = dite (ℕ_discrete x 0) (λ e. rw (eq-eqb x 0 e)) (λ n. rw (ne_eqb x 0 n) (h n))

not_again : (x : ℕ) (rest : List ℕ) → is_again x rest ≡ false → x ≢ 0 → any_of (is_same x) rest ≡ false
not_again x rest e n = rw (ne_eqb x 0 n) at e

once_found : (xs : List ℕ) → ((i j : ℕ) → i < j → j < length xs → get_or xs i 0 ≢ 0 → get_or xs j 0 ≢ get_or xs i 0) → any_of is_again xs ≡ false
once_found xs h =
    none_found is_again 0 xs
    (λ i l.
    let x = get_or xs i 0 in
    again_not x (drop (suc i) xs)
    (λ n.
    none_found (is_same x) 0 (drop (suc i) xs)
    (λ j m. ne_eqb (get_or (drop (suc i) xs) j 0) x (λ q. h i (suc i + j) (omega arith) (omega (arith, length-drop (suc i) xs)) n (sym (get_or-drop (suc i) xs j 0) ∙ q)))))

pub eqb_no : (a b : ℕ) → eqb a b ≡ false → a ≢ b
eqb_no a b e q = true≢false (sym (eq-eqb a b q) ∙ e)

found_once : (xs : List ℕ) → any_of is_again xs ≡ false → (i j : ℕ) → i < j → j < length xs → get_or xs i 0 ≢ 0 → get_or xs j 0 ≢ get_or xs i 0
found_once xs e i j l h n q =
    let x = get_or xs i 0 in
    let k = j - suc i in
    let g : suc i + k ≡ j = omega arith in
    let s = not_again x (drop (suc i) xs) (found_none is_again 0 xs e i (omega arith)) n in
    eqb_no (get_or (drop (suc i) xs) k 0) x (found_none (is_same x) 0 (drop (suc i) xs) s k (omega (arith, length-drop (suc i) xs)))
    (get_or-drop (suc i) xs k 0 ∙ ap (λ (m : ℕ). get_or xs m 0) g ∙ q)

-- ---- 01, 11 and 12, of slots in a table
pub low_found : (f : ℕ → ℕ) (n : ℕ) → ((i : ℕ) → i < n → f i ≤ 255) → any_of is_high (table f n) ≡ false
low_found f n h =
    none_found is_high 0 (table f n)
    (λ i l.
    let b : i < n = omega (arith, length_table f n) in
    rw (get_or_table f n i 0 b) (le-ltb 255 (f i) (h i b)))

pub found_low : (f : ℕ → ℕ) (n : ℕ) → any_of is_high (table f n) ≡ false → (i : ℕ) → i < n → f i ≤ 255
found_low f n e i l =
    let h : i < length (table f n) = omega (arith, length_table f n) in
    ltb-false 255 (f i) (rw (get_or_table f n i 0 l) at (found_none is_high 0 (table f n) e i h))

pub single_found : (f : ℕ → ℕ) (n : ℕ) → Once n f → any_of is_again (table f n) ≡ false
single_found f n h =
    once_found (table f n)
    (λ i j l b.
    let k : j < n = omega (arith, length_table f n) in
    rw (get_or_table f n i 0 (omega arith), get_or_table f n j 0 k) (h i j l k))

pub found_single : (f : ℕ → ℕ) (n : ℕ) → any_of is_again (table f n) ≡ false → Once n f
found_single f n e i j l b =
    let h : j < length (table f n) = omega (arith, length_table f n) in
    rw (get_or_table f n i 0 (omega arith), get_or_table f n j 0 b) at (found_once (table f n) e i j l h)
