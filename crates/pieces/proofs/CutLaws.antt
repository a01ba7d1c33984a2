-- A log cut into pieces, one piece at a time; every byte is in exactly one piece, in order.
use mathlib.Core.Path.{◌≡◌, refl, ap, ◌∙◌}
use mathlib.Core.List.{List, [], ◌∷◌, ◌++◌}
use Prim.Native.Nat.{ℕ, zero, suc, ◌≤◌}
use native.Mathlib.Omega.{arith}
use lib.ListN.{length, take, drop, length-take, length-drop, take-append-drop}
use Rattle.pieces.specs.Pieces.{piece_length}
use Rattle.pieces.specs.Cut.{cut_to, cut, joined, Sized, InPieces}
use Rattle.pieces.proofs.PieceLaws.{piece_most, piece_some}

-- one piece less is shorter
shorter : (s : List ℕ) (n : ℕ) → 1 ≤ length s → length s ≤ suc n → length (drop (piece_length s) s) ≤ n
shorter s n h k = omega (arith, length-drop (piece_length s) s, piece_some s h)

-- as many as there are bytes are enough
pub enough : (n m : ℕ) (s : List ℕ) → length s ≤ n → length s ≤ m → cut_to n s ≡ cut_to m s
unfolding cut_to
enough zero zero [] h k = refl
enough zero (suc m) [] h k = refl
enough (suc n) zero [] h k = refl
enough (suc n) (suc m) [] h k = refl
enough zero m (b ∷ bs) h k = absurd (let z : ⊥ = omega arith in z)
enough (suc n) zero (b ∷ bs) h k = absurd (let z : ⊥ = omega arith in z)
enough (suc n) (suc m) (b ∷ bs) h k =
    let s = b ∷ bs in
    ap (λ (ps : List (List ℕ)). take (piece_length s) s ∷ ps)
    (enough n m (drop (piece_length s) s) (shorter s n (omega arith) h) (shorter s m (omega arith) k))

-- ---- one piece, then those of what is left
pub cut_step : (s : List ℕ) → 1 ≤ length s → cut s ≡ take (piece_length s) s ∷ cut (drop (piece_length s) s)
unfolding cut cut_to
cut_step [] h = absurd (let z : ⊥ = omega arith in z)
cut_step (b ∷ bs) h =
    let s = b ∷ bs in
    let d = drop (piece_length s) s in
    ap (λ (ps : List (List ℕ)). take (piece_length s) s ∷ ps) (enough (length bs) (length d) d (shorter s (length bs) h (omega arith)) (omega arith))

pub cut_end : (s : List ℕ) → length s ≡ 0 → cut s ≡ []
unfolding cut cut_to
cut_end [] h = refl
cut_end (b ∷ bs) h = absurd (let z : ⊥ = omega arith in z)

-- ---- every byte is in exactly one piece, in order
joined_to : (n : ℕ) (s : List ℕ) → length s ≤ n → joined (cut_to n s) ≡ s
unfolding cut_to joined
joined_to zero [] h = refl
joined_to zero (b ∷ bs) h = absurd (let z : ⊥ = omega arith in z)
joined_to (suc n) [] h = refl
joined_to (suc n) (b ∷ bs) h =
    let s = b ∷ bs in
    ap (λ (t : List ℕ). take (piece_length s) s ++ t) (joined_to n (drop (piece_length s) s) (shorter s n (omega arith) h)) ∙ take-append-drop (piece_length s) s

sized_to : (n : ℕ) (s : List ℕ) → length s ≤ n → Sized (cut_to n s)
unfolding cut_to Sized
sized_to zero s h = tt
sized_to (suc n) [] h = tt
sized_to (suc n) (b ∷ bs) h =
    let s = b ∷ bs in
    let e = length-take (piece_length s) s in (
      omega (arith, piece_some s (omega arith)),
      omega (arith, piece_most s),
      sized_to n (drop (piece_length s) s) (shorter s n (omega arith) h),
    )

pub in_pieces : (s : List ℕ) → InPieces s
unfolding cut
in_pieces s = record { all = joined_to (length s) s (omega arith); sized = sized_to (length s) s (omega arith) }
