-- A window of 250 bytes decides the next piece: constant memory is enough for any log.
use mathlib.Core.Path.{◌≡◌, refl, ap, ◌∙◌}
use mathlib.Core.List.{List, [], ◌∷◌}
use Prim.Native.Nat.{ℕ, zero, suc, ◌+◌, ◌-◌, ◌≤◌}
use native.Mathlib.Omega.{arith}
use lib.ListN.{take, drop, length-take}
use lib.Seq.{take-take}
use Rattle.pieces.specs.Pieces.{is_frame, stands_at, piece_from, piece_length}

-- what is dropped of what is taken
drop_take : (p n : ℕ) (s : List ℕ) → drop p (take (p + n) s) ≡ take n (drop p s)
drop_take zero n s = let e : 0 + n ≡ n = omega arith in rw e
drop_take (suc p) n [] = let e : suc p + n ≡ suc (p + n) = omega arith in rw e (nothing n)
  where
    nothing : (m : ℕ) → ◌≡◌ {A = List ℕ} [] (take m [])
    nothing zero = refl
    nothing (suc m) = refl
drop_take (suc p) n (b ∷ bs) = let e : suc p + n ≡ suc (p + n) = omega arith in rw e (drop_take p n bs)

module _ (s : List ℕ) (w : ℕ) (wide : 250 ≤ w) where
  stands_near : (p : ℕ) → p ≤ 125 → stands_at (take w s) p ≡ stands_at s p
  unfolding stands_at
  stands_near p h =
      let e : w ≡ p + (w - p) = omega arith in
      ap (λ (n : ℕ). is_frame (take 125 (drop p (take n s)))) e
      ∙ ap (λ (t : List ℕ). is_frame (take 125 t)) (drop_take p (w - p) s)
      ∙ ap is_frame (take-take 125 (w - p) (drop p s) (omega arith))

  from_near : (p n : ℕ) → p + n ≤ 126 → piece_from (take w s) p n ≡ piece_from s p n
  unfolding piece_from
  from_near p zero h = omega (arith, length-take w s)
  from_near p (suc n) h = rw (stands_near p (omega arith), from_near (p + 1) n (omega arith))

  pub near : piece_length (take w s) ≡ piece_length s
  unfolding piece_length
  near = rw (stands_near 0 (omega arith), from_near 1 125 (omega arith))
