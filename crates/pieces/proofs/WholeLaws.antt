-- A frame that no earlier frame overlaps is handed in whole, wherever it stands.
use mathlib.Core.Path.{◌≡◌, refl, sym, ap, ap₂, ◌∙◌}
use mathlib.Core.Logic.{dite}
use mathlib.Core.Bool.{Bool, true, false, true≢false}
use mathlib.Core.List.{List, [], ◌∷◌, ◌++◌}
use Prim.Native.Nat.{ℕ, zero, suc, ◌+◌, ◌≤◌}
use native.Mathlib.Decide.{dec_le, ℕ_discrete}
use native.Mathlib.Omega.{arith}
use borrow.Author.Tests.{ne_eqb}
use lib.ListN.{length, take, drop, length-append, length-drop, take-append-drop}
use lib.Seq.{take_at, drop_at, drop-append_seam, take-append-le, drop-append-le, drop-drop}
use Rattle.pieces.specs.Pieces.{is_frame, stands_at, piece_length}
use Rattle.pieces.specs.Cut.{cut, joined, Clear, HandedWhole}
use Rattle.pieces.proofs.PieceLaws.{at_start, searched, from_before, piece_most, piece_some}
use Rattle.pieces.proofs.CutLaws.{cut_step}

-- ---- where a frame stands
pub frame_long : (f : List ℕ) → is_frame f ≡ true → length f ≡ 125
unfolding is_frame
frame_long f e = dite (ℕ_discrete (length f) 125) (λ h. h) (λ h. absurd (true≢false (sym e ∙ rw (ne_eqb (length f) 125 h))))

pub stands_drop : (s : List ℕ) (m q : ℕ) → stands_at (drop m s) q ≡ stands_at s (m + q)
unfolding stands_at
stands_drop s m q = rw (drop-drop q m s)

pub stands_there : (before f after : List ℕ) → is_frame f ≡ true → stands_at (before ++ (f ++ after)) (length before) ≡ true
unfolding stands_at
stands_there before f after e = rw (drop-append_seam before (f ++ after), take_at f after 125 (frame_long f e)) e

-- ---- handed in whole
module _ (f after : List ℕ) where
  -- no piece that begins before the frame goes past its first byte
  before_frame : (before : List ℕ) → 1 ≤ length before → Clear before f after → piece_length (before ++ (f ++ after)) ≤ length before
  before_frame before h k = go (stands_at s 0) refl
    where
      s : List ℕ
      s = before ++ (f ++ after)

      go : (b : Bool) → stands_at s 0 ≡ b → piece_length s ≤ length before
      go true e = rw (at_start s e) (dite (dec_le 125 (length before)) (λ l. l) (λ l. absurd (true≢false (sym e ∙ k.clear 0 h (omega arith)))))
      go false e =
          dite (dec_le 126 (length before)) (λ l. omega (arith, piece_most s))
          (λ l. rw (searched s e) (from_before s 1 125 (length before) h (omega arith) (stands_there before f after k.frame)))

  -- a frame at the start is the first piece
  whole_first : Clear [] f after → HandedWhole [] f after
  unfolding joined
  whole_first k =
      let s = f ++ after in
      let long = frame_long f k.frame in
      let at = at_start s (stands_there [] f after k.frame) in
      record {
        pieces = [];
        earlier = refl;
        whole = cut_step s (omega (arith, length-append f after))
            ∙ ap₂ (λ (p : List ℕ) (t : List ℕ). p ∷ cut t) (ap (λ (i : ℕ). take i s) at ∙ take_at f after 125 long) (ap (λ (i : ℕ). drop i s) at ∙ drop_at f after 125 long);
      }

  module _ (before : List ℕ) (m : ℕ) (l : m ≤ length before) where
    -- what is left after a piece before the frame
    left : drop m (before ++ (f ++ after)) ≡ drop m before ++ (f ++ after)
    left = drop-append-le m before (f ++ after) l

    clear_next : Clear before f after → Clear (drop m before) f after
    clear_next k = record {
      frame = k.frame;
      clear = λ q u v. ap (λ (t : List ℕ). stands_at t q) (sym left)
          ∙ stands_drop (before ++ (f ++ after)) m q
          ∙ k.clear (m + q) (omega (arith, length-drop m before)) (omega (arith, length-drop m before));
    }

    whole_next : 1 ≤ length before → piece_length (before ++ (f ++ after)) ≡ m → HandedWhole (drop m before) f after → HandedWhole before f after
    unfolding joined
    whole_next h e on = record {
      pieces = take m before ∷ on.pieces;
      earlier = ap (λ (t : List ℕ). take m before ++ t) on.earlier ∙ take-append-drop m before;
      whole = cut_step (before ++ (f ++ after)) (omega (arith, length-append before (f ++ after)))
          ∙ ap (λ (i : ℕ). take i (before ++ (f ++ after)) ∷ cut (drop i (before ++ (f ++ after)))) e
          ∙ ap₂ (λ (p : List ℕ) (ps : List (List ℕ)). p ∷ ps) (take-append-le m before (f ++ after) l) (ap cut left ∙ on.whole);
    }

  whole_to : (n : ℕ) (before : List ℕ) → length before ≤ n → Clear before f after → HandedWhole before f after
  whole_to zero [] h k = whole_first k
  whole_to (suc n) [] h k = whole_first k
  whole_to zero (b ∷ bs) h k = absurd (let z : ⊥ = omega arith in z)
  whole_to (suc n) (b ∷ bs) h k =
      let s = (b ∷ bs) ++ (f ++ after) in
      let m = piece_length s in
      let l = before_frame (b ∷ bs) (omega arith) k in
      let some = piece_some s (omega (arith, length-append (b ∷ bs) (f ++ after))) in
      whole_next (b ∷ bs) m l (omega arith) refl (whole_to n (drop m (b ∷ bs)) (omega (arith, length-drop m (b ∷ bs))) (clear_next (b ∷ bs) m l k))

pub handed_whole : (before f after : List ℕ) → Clear before f after → HandedWhole before f after
handed_whole before f after k = whole_to f after (length before) before (omega arith) k
