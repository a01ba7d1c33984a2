-- Laws of the places of a mask: 01, Slots and places.
use mathlib.Core.Path.{◌≡◌, refl, sym, ◌∙◌}
use mathlib.Core.Logic.{◌≢◌, ◌⊎◌, inl, inr, dite}
use mathlib.Core.Bool.{Bool, true, false, true≢false}
use mathlib.Core.List.{List, [], ◌∷◌}
use Prim.Native.Nat.{ℕ, zero, suc, ◌+◌, ◌-◌, ◌≤◌, ◌<◌}
use native.Mathlib.Nat.{not-suc-le-zero}
use native.Mathlib.Decide.{ℕ_discrete}
use native.Mathlib.Omega.{arith}
use lib.ListN.{length, get_or, drop, take, drop_of_length-le}
use borrow.Author.Tests.{eq-eqb, ne_eqb}
use Rattle.bits.proofs.TableLaws.{drop_one}
use Rattle.slots.specs.Slots.{set_count, nth_from}

-- a turn of a walk over a mask, at entry i
module _ (m : List Bool) (i k n : ℕ) (h : i < length m) where
  pub nth_hit : get_or m i false ≡ true → n ≡ 1 → nth_from (drop i m) k n ≡ k
  unfolding nth_from
  nth_hit e q = rw (drop_one m i false h, e, eq-eqb _ _ q)

  pub nth_pass : get_or m i false ≡ true → n ≢ 1 → nth_from (drop i m) k n ≡ nth_from (drop (i + 1) m) (k + 1) (n - 1)
  unfolding nth_from
  nth_pass e q = rw (drop_one m i false h, e, ne_eqb _ _ q)

  pub nth_skip : get_or m i false ≡ false → nth_from (drop i m) k n ≡ nth_from (drop (i + 1) m) (k + 1) n
  unfolding nth_from
  nth_skip e = rw (drop_one m i false h, e)

  pub count_hit : get_or m i false ≡ true → set_count (drop i m) ≡ set_count (drop (i + 1) m) + 1
  unfolding set_count
  count_hit e = rw (drop_one m i false h, e)

  pub count_skip : get_or m i false ≡ false → set_count (drop i m) ≡ set_count (drop (i + 1) m)
  unfolding set_count
  count_skip e = rw (drop_one m i false h, e) (omega arith)

pub nth_end : (m : List Bool) (i k n : ℕ) → length m ≤ i → nth_from (drop i m) k n ≡ 0
unfolding nth_from
nth_end m i k n h = rw (drop_of_length-le m h)

pub count_end : (m : List Bool) (i : ℕ) → length m ≤ i → set_count (drop i m) ≡ 0
unfolding set_count
count_end m i h = rw (drop_of_length-le m h)

-- the first set bit, and those after it
at_one : (bs : List Bool) (k : ℕ) → nth_from (true ∷ bs) k 1 ≡ k
unfolding nth_from
at_one bs k = refl

at_more : (bs : List Bool) (k n : ℕ) → n ≢ 1 → nth_from (true ∷ bs) k n ≡ nth_from bs (k + 1) (n - 1)
unfolding nth_from
at_more bs k n q = rw (ne_eqb n 1 q)

at_clear : (bs : List Bool) (k n : ℕ) → nth_from (false ∷ bs) k n ≡ nth_from bs (k + 1) n
unfolding nth_from
at_clear bs k n = refl

-- place 0, and a place above the number of set bits, have no slot
pub nth_none : (bs : List Bool) (k n : ℕ) → (n ≡ 0) ⊎ (set_count bs < n) → nth_from bs k n ≡ 0
unfolding set_count nth_from
nth_none [] k n o = refl
nth_none (false ∷ bs) k n (inl e) = nth_none bs (k + 1) n (inl e)
nth_none (false ∷ bs) k n (inr l) = nth_none bs (k + 1) n (inr (omega arith))
nth_none (true ∷ bs) k n (inl e) = at_more bs k n (λ q. omega arith) ∙ nth_none bs (k + 1) (n - 1) (inl (omega arith))
nth_none (true ∷ bs) k n (inr l) = at_more bs k n (λ q. omega arith) ∙ nth_none bs (k + 1) (n - 1) (inr (omega arith))

-- the slot x of a place: among those that the bits stand for, and its bit is set
pub record SlotIn (bs : List Bool) (k x : ℕ) : Type 0 where
  pub from : k ≤ x
  pub below : x < k + length bs
  pub set : get_or bs (x - k) false ≡ true

later : (b : Bool) (bs : List Bool) (k x : ℕ) → SlotIn bs (k + 1) x → SlotIn (b ∷ bs) k x
later b bs k x s =
    let e : x - k ≡ suc (x - (k + 1)) = omega arith in
    record { from = omega arith; below = omega arith; set = rw e s.set }

-- a place from 1 up to the number of set bits has such a slot
pub nth_in : (bs : List Bool) (k n : ℕ) → 1 ≤ n → n ≤ set_count bs → SlotIn bs k (nth_from bs k n)
unfolding set_count
nth_in [] k n l h = absurd (let z : ⊥ = omega arith in z)
nth_in (false ∷ bs) k n l h = rw (at_clear bs k n) (later false bs k _ (nth_in bs (k + 1) n l (omega arith)))
nth_in (true ∷ bs) k n l h =
    dite (ℕ_discrete n 1)
    (λ e. rw (e, at_one bs k) (record { from = omega arith; below = omega arith; set = let z : k - k ≡ 0 = omega arith in rw z }))
    (λ ne. rw (at_more bs k n ne) (later true bs k _ (nth_in bs (k + 1) (n - 1) (omega arith) (omega arith))))

-- a later place has a later slot
pub nth_rises : (bs : List Bool) (k m n : ℕ) → 1 ≤ m → m < n → n ≤ set_count bs → nth_from bs k m < nth_from bs k n
unfolding set_count
nth_rises [] k m n l r h = absurd (let z : ⊥ = omega arith in z)
nth_rises (false ∷ bs) k m n l r h = rw (at_clear bs k m, at_clear bs k n) (nth_rises bs (k + 1) m n l r (omega arith))
nth_rises (true ∷ bs) k m n l r h =
    let ne : n ≢ 1 = λ e. omega arith in
    dite (ℕ_discrete m 1)
    (λ e. rw (e, at_one bs k, at_more bs k n ne) (let s = nth_in bs (k + 1) (n - 1) (omega arith) (omega arith) in omega arith))
    (λ me. rw (at_more bs k m me, at_more bs k n ne) (nth_rises bs (k + 1) (m - 1) (n - 1) (omega arith) (omega arith) (omega arith)))

-- a set bit has a place: one more than the number of set bits before it
pub nth_found : (bs : List Bool) (k i : ℕ) → i < length bs → get_or bs i false ≡ true → (set_count (take i bs) + 1 ≤ set_count bs) × (nth_from bs k (set_count (take i bs) + 1) ≡ k + i)
unfolding set_count
nth_found [] k i h e = absurd (not-suc-le-zero h)
nth_found (true ∷ bs) k zero h e = (omega arith, at_one bs k ∙ omega arith)
nth_found (false ∷ bs) k zero h e = absurd (true≢false (sym e))
nth_found (true ∷ bs) k (suc i) h e =
    let c = set_count (take i bs) in
    let r = nth_found bs (k + 1) i (omega arith) e in
    let p : c + 1 + 1 - 1 ≡ c + 1 = omega arith in
    (omega arith, at_more bs k (c + 1 + 1) (λ q. omega arith) ∙ rw p (r.1 ∙ omega arith))
nth_found (false ∷ bs) k (suc i) h e =
    let c = set_count (take i bs) in
    let r = nth_found bs (k + 1) i (omega arith) e in
    let p : c + 0 + 1 ≡ c + 1 = omega arith in
    (omega arith, at_clear bs k (c + 0 + 1) ∙ rw p (r.1 ∙ omega arith))
