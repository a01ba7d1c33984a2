-- Laws of bytes stored into a room, of what is kept, and of a row of bytes.
use mathlib.Core.Path.{◌≡◌, refl, ap, ◌∙◌}
use mathlib.Core.Logic.{◌⊎◌, inl, inr, ⊎_elim}
use Prim.Native.Nat.{ℕ, zero, suc, ◌+◌, ◌≤◌, ◌<◌}
use mathlib.Core.List.{List, [], ◌∷◌}
use lib.ListN.{get_or, set, length, drop, length-set, drop_of_length-le}
use lib.Seq.{ext_get_or, get_or-set_same, get_or-set_other, drop-cons}
use native.Mathlib.Nat.{not-suc-le-zero, zero-add, add-zero}
use native.Mathlib.Numerals.{add-one}
use native.Mathlib.Omega.{arith}
use Rattle.bits.specs.Bytes.{store_at, Kept, row_at}
use Rattle.bits.proofs.TableLaws.{length_table, get_or_table, table_ext, table_same}

pub store_step : (s : List ℕ) (at : ℕ) (r : List ℕ) (i : ℕ) → i < length r → store_at s (at + i) (drop i r) ≡ store_at (set s (at + i) (get_or r i 0)) (at + (i + 1)) (drop (i + 1) r)
unfolding store_at
store_step s at r i l = let e : at + i + 1 ≡ at + (i + 1) = omega arith in rw (drop-cons r i 0 l) (rw (← e, ← add-one i))

pub store_end : (s : List ℕ) (at : ℕ) (r : List ℕ) (i : ℕ) → length r ≤ i → store_at s at (drop i r) ≡ s
unfolding store_at
store_end s at r i l = rw (drop_of_length-le r l)

pub length_store : (s : List ℕ) (at : ℕ) (r : List ℕ) → length (store_at s at r) ≡ length s
unfolding store_at
length_store s at [] = refl
length_store s at (b ∷ bs) = length_store (set s at b) (at + 1) bs ∙ length-set s at b

pub store_out : (s : List ℕ) (at : ℕ) (r : List ℕ) (j : ℕ) → (j < at) ⊎ (at + length r ≤ j) → get_or (store_at s at r) j 0 ≡ get_or s j 0
unfolding store_at
store_out s at [] j o = refl
store_out s at (b ∷ bs) j (inl h) = store_out (set s at b) (at + 1) bs j (inl (omega arith)) ∙ get_or-set_other s at j b 0 (λ q. omega arith)
store_out s at (b ∷ bs) j (inr h) = store_out (set s at b) (at + 1) bs j (inr (omega arith)) ∙ get_or-set_other s at j b 0 (λ q. omega arith)

pub store_in : (s : List ℕ) (at : ℕ) (r : List ℕ) (k : ℕ) → at + length r ≤ length s → k < length r → get_or (store_at s at r) (at + k) 0 ≡ get_or r k 0
unfolding store_at
store_in s at [] k l h = absurd (not-suc-le-zero h)
store_in s at (b ∷ bs) zero l h =
    rw (add-zero at) (store_out (set s at b) (at + 1) bs at (inl (omega arith)) ∙ get_or-set_same s at b 0 (omega arith))
store_in s at (b ∷ bs) (suc k) l h =
    let e : at + suc k ≡ at + 1 + k = omega arith in
    rw e (store_in (set s at b) (at + 1) bs k (omega (arith, length-set s at b)) (omega arith))

pub kept_same : (lo hi : ℕ) (s : List ℕ) → Kept lo hi s s
kept_same lo hi s = record { long = refl; out = λ j o. refl }

pub kept_trans : {lo hi : ℕ} {s t u : List ℕ} → Kept lo hi s t → Kept lo hi t u → Kept lo hi s u
kept_trans a b = record { long = b.long ∙ a.long; out = λ j o. b.out j o ∙ a.out j o }

pub kept_wide : {lo hi : ℕ} {s t : List ℕ} (lo' hi' : ℕ) → Kept lo hi s t → lo' ≤ lo → hi ≤ hi' → Kept lo' hi' s t
kept_wide lo' hi' a p q = record { long = a.long; out = λ j o. a.out j (⊎_elim (λ h. inl (omega arith)) (λ h. inr (omega arith)) o) }

pub kept_store : (lo hi : ℕ) (s : List ℕ) (at : ℕ) (r : List ℕ) → lo ≤ at → at + length r ≤ hi → Kept lo hi s (store_at s at r)
kept_store lo hi s at r p q = record { long = length_store s at r; out = λ j o. store_out s at r j (⊎_elim (λ h. inl (omega arith)) (λ h. inr (omega arith)) o) }

pub length_row : (s : List ℕ) (at n : ℕ) → length (row_at s at n) ≡ n
unfolding row_at
length_row s at n = length_table _ n

pub get_or_row : (s : List ℕ) (at n i : ℕ) → i < n → get_or (row_at s at n) i 0 ≡ get_or s (at + i) 0
unfolding row_at
get_or_row s at n i h = get_or_table _ n i 0 h

pub row_kept : {lo hi : ℕ} {s t : List ℕ} (at n : ℕ) → Kept lo hi s t → (at + n ≤ lo) ⊎ (hi ≤ at) → row_at t at n ≡ row_at s at n
unfolding row_at
row_kept at n k o = table_ext _ _ n (λ i h. k.out (at + i) (⊎_elim (λ g. inl (omega arith)) (λ g. inr (omega arith)) o))

-- the row stored is read back
pub row_store : (s : List ℕ) (at : ℕ) (r : List ℕ) → at + length r ≤ length s → row_at (store_at s at r) at (length r) ≡ r
row_store s at r l =
    ext_get_or 0 _ r (length_row (store_at s at r) at (length r))
    (λ i h. let g : i < length r = omega (arith, length_row (store_at s at r) at (length r)) in get_or_row (store_at s at r) at (length r) i g ∙ store_in s at r i l g)

-- a list of n bytes is the row of its n bytes
pub bytes_whole : (r : List ℕ) (n : ℕ) → length r ≡ n → row_at r 0 n ≡ r
unfolding row_at
bytes_whole r n e = table_ext _ (λ (i : ℕ). get_or r i 0) n (λ i h. ap (λ (j : ℕ). get_or r j 0) (zero-add i)) ∙ table_same r n 0 e
