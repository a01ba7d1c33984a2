-- Laws of the search for the next piece: where a frame stands, a turn of the search and its end, and what bounds a piece.
use mathlib.Core.Path.{◌≡◌, refl, sym, ◌∙◌}
use mathlib.Core.Logic.{dite}
use mathlib.Core.Bool.{Bool, true, false, true≢false}
use mathlib.Core.List.{List}
use Prim.Native.Nat.{ℕ, zero, suc, ◌+◌, ◌-◌, ◌≤◌, ◌<◌, min}
use native.Mathlib.Decide.{dec_le, ℕ_discrete}
use native.Mathlib.Omega.{arith}
use borrow.Author.Tests.{ne_eqb}
use lib.ListN.{length, take, drop, length-take, length-drop}
use Rattle.pieces.specs.Pieces.{is_frame, stands_at, piece_from, piece_length}

module _ (s : List ℕ) where
  -- no frame stands where fewer than 125 bytes are left
  pub none_stands : (p : ℕ) → length s < p + 125 → stands_at s p ≡ false
  unfolding stands_at is_frame
  none_stands p h = rw (ne_eqb (length (take 125 (drop p s))) 125 (λ e. omega (arith, length-take 125 (drop p s), length-drop p s)))

  pub stands_within : (p : ℕ) → stands_at s p ≡ true → p + 125 ≤ length s
  stands_within p e = dite (dec_le (p + 125) (length s)) (λ h. h) (λ h. absurd (true≢false (sym e ∙ none_stands p (omega arith))))

  -- ---- a turn of the search from p up to k, and its end
  pub from_hit : (p k : ℕ) → p < k → stands_at s p ≡ true → piece_from s p (k - p) ≡ p
  unfolding piece_from
  from_hit p k h e = let n : k - p ≡ suc (k - (p + 1)) = omega arith in rw (n, e)

  pub from_miss : (p k : ℕ) → p < k → stands_at s p ≡ false → piece_from s p (k - p) ≡ piece_from s (p + 1) (k - (p + 1))
  unfolding piece_from
  from_miss p k h e = let n : k - p ≡ suc (k - (p + 1)) = omega arith in rw (n, e)

  pub from_end : (p k : ℕ) → k ≤ p → piece_from s p (k - p) ≡ min 125 (length s)
  unfolding piece_from
  from_end p k h = let n : k - p ≡ 0 = omega arith in rw n

  pub at_start : stands_at s 0 ≡ true → piece_length s ≡ 125
  unfolding piece_length
  at_start e = rw e

  pub searched : stands_at s 0 ≡ false → piece_length s ≡ piece_from s 1 125
  unfolding piece_length
  searched e = rw e

  -- ---- what holds of each answer holds of the answer
  from_all : (P : ℕ → Type 0) (p n : ℕ) → P (min 125 (length s)) → ((q : ℕ) → p ≤ q → q < p + n → stands_at s q ≡ true → P q) → P (piece_from s p n)
  unfolding piece_from
  from_all P p zero z h = z
  from_all P p (suc n) z h = go (stands_at s p) refl (from_all P (p + 1) n z (λ q l u t. h q (omega arith) (omega arith) t))
    where
      go : (b : Bool) → stands_at s p ≡ b → P (piece_from s (p + 1) n) → P (piece_from s p (suc n))
      go true e next = rw e (h p (omega arith) (omega arith) e)
      go false e next = rw e next

  pub piece_all : (P : ℕ → Type 0) → P (min 125 (length s)) → ((q : ℕ) → 1 ≤ q → q ≤ 125 → q + 125 ≤ length s → P q) → P (piece_length s)
  piece_all P z h = go (stands_at s 0) refl
    where
      go : (b : Bool) → stands_at s 0 ≡ b → P (piece_length s)
      go true e = rw (at_start e) (let k : min 125 (length s) ≡ 125 = omega (arith, stands_within 0 e) in rw k at z)
      go false e = rw (searched e) (from_all P 1 125 z (λ q l u t. h q l (omega arith) (stands_within q t)))

  -- ---- a piece has at most 125 bytes, no more than there are, and one at least where there is one
  pub piece_most : piece_length s ≤ 125
  piece_most = piece_all (λ (n : ℕ). n ≤ 125) (omega arith) (λ q l u k. u)

  pub piece_within : piece_length s ≤ length s
  piece_within = piece_all (λ (n : ℕ). n ≤ length s) (omega arith) (λ q l u k. omega arith)

  pub piece_some : 1 ≤ length s → 1 ≤ piece_length s
  piece_some h = piece_all (λ (n : ℕ). 1 ≤ n) (omega arith) (λ q l u k. l)

  -- fewer than 125 bytes are one piece
  pub piece_rest : length s < 125 → piece_length s ≡ length s
  piece_rest h = piece_all (λ (n : ℕ). n ≡ length s) (omega arith) (λ q l u k. absurd (let z : ⊥ = omega arith in z))

  -- ---- a frame that stands further on is not passed over
  pub from_before : (p n m : ℕ) → p ≤ m → m < p + n → stands_at s m ≡ true → piece_from s p n ≤ m
  unfolding piece_from
  from_before p zero m l u e = absurd (let z : ⊥ = omega arith in z)
  from_before p (suc n) m l u e = go (stands_at s p) refl (λ k. from_before (p + 1) n m k (omega arith) e)
    where
      go : (b : Bool) → stands_at s p ≡ b → (p + 1 ≤ m → piece_from s (p + 1) n ≤ m) → piece_from s p (suc n) ≤ m
      go true t next = rw t l
      go false t next = dite (ℕ_discrete p m) (λ q. absurd (true≢false (sym e ∙ rw q at t))) (λ q. rw t (next (omega arith)))

  -- where none stands but perhaps at 125, the piece is 125 bytes, or what is left
  pub from_none : ((q : ℕ) → 1 ≤ q → q < 125 → stands_at s q ≡ false) → piece_from s 1 125 ≡ min 125 (length s)
  from_none none = from_all (λ (x : ℕ). x ≡ min 125 (length s)) 1 125 refl go
    where
      go : (q : ℕ) → 1 ≤ q → q < 1 + 125 → stands_at s q ≡ true → q ≡ min 125 (length s)
      go q l u t = dite (ℕ_discrete q 125) (λ e. omega (arith, stands_within q t)) (λ e. absurd (true≢false (sym t ∙ none q l (omega arith))))
