-- Bytes in a row: those at an offset, and what is left after them.
use Prim.Native.Nat.{ℕ, ◌+◌, ◌≤◌, ◌<◌}
use mathlib.Core.Path.{◌≡◌, sym, ap, ◌∙◌}
use mathlib.Core.List.{List, ◌++◌}
use native.Mathlib.Omega.{arith}
use lib.ListN.{get_or, length, take, drop, length-append, length-drop, take-append-drop, get_or-append}
use lib.Seq.{get_or-drop, drop-drop, drop_at, length-take-le}
use Rattle.bits.specs.Bytes.{row_at}
use Rattle.bits.proofs.TableLaws.{table_ext, table_same}

module _ (s : List ℕ) (at n : ℕ) where
  -- a list of n bytes stands at the offset, and t after it
  module _ (a t : List ℕ) (l : length a ≡ n) (e : drop at s ≡ a ++ t) where
    pub window_of : row_at s at n ≡ a
    unfolding row_at
    window_of =
        table_ext _ (λ (i : ℕ). get_or a i 0) n
        (λ i h. sym (get_or-drop at s i 0) ∙ ap (λ (u : List ℕ). get_or u i 0) e ∙ get_or-append a t 0 i (omega arith))
        ∙ table_same a n 0 l

    pub rest_of : drop (at + n) s ≡ t
    rest_of = sym (drop-drop n at s) ∙ ap (drop n) e ∙ drop_at a t n l

    pub reach_of : 0 < n → at + n ≤ length s
    reach_of h = omega (arith, length-drop at s, ap length e, length-append a t)

  -- what is left from an offset on is the bytes that stand there, and what is left after them
  pub window_split : at + n ≤ length s → drop at s ≡ row_at s at n ++ drop (at + n) s
  window_split h =
      let l : length (take n (drop at s)) ≡ n = length-take-le n (drop at s) (omega (arith, length-drop at s)) in
      let e : drop at s ≡ take n (drop at s) ++ drop n (drop at s) = sym (take-append-drop n (drop at s)) in
      rw (window_of (take n (drop at s)) (drop n (drop at s)) l e, ← drop-drop n at s) e
