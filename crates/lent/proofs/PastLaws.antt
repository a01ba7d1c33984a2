-- Bytes stored as one part of a room: what is past the end is lost.
use mathlib.Core.Path.{◌≡◌, refl, sym, ap, ◌∙◌}
use Prim.Native.Nat.{ℕ, zero, suc, ◌+◌, ◌≤◌}
use mathlib.Core.List.{List, [], ◌∷◌, ◌++◌, append_assoc}
use lib.ListN.{length, take, drop, set, length-set}
use Rattle.std.proofs.lemmas.List.{take-append-drop, take_more_set, drop-drop}
use mathlib.Core.Logic.{◌⊎◌, inl, inr, ⊎_elim}
use lib.Seq.{set_out, drop-set-lt, take_all}
use native.Mathlib.Nat.{not-suc-le-zero}
use native.Mathlib.Omega.{arith}
use borrow.Rule.Slice.PartMut.{put_mid}
use Rattle.bits.specs.Bytes.{store_at}

pub store_past : (s : List ℕ) (at : ℕ) (r : List ℕ) → length s ≤ at → store_at s at r ≡ s
unfolding store_at
store_past s at [] l = refl
store_past s at (b ∷ bs) l = rw (set_out s at b l) (store_past s (at + 1) bs (omega arith))

-- as many as there is room for are stored: all of them, or up to the end
pub store_mid : (s : List ℕ) (at : ℕ) (r : List ℕ) (k : ℕ) → k ≤ length r → at + k ≤ length s → (length r ≤ k) ⊎ (length s ≤ at + k) → put_mid at k s (take k r) ≡ store_at s at r
unfolding store_at
store_mid s at [] (suc k) h l o = absurd (not-suc-le-zero h)
store_mid s at [] zero h l o = take-append-drop at s
store_mid s at (b ∷ bs) zero h l (inl q) = absurd (omega arith)
store_mid s at (b ∷ bs) zero h l (inr q) = take-append-drop at s ∙ sym (store_past s at (b ∷ bs) (omega arith))
store_mid s at (b ∷ bs) (suc k) h l o =
    let t = set s at b in
    let e : length t ≡ length s = length-set s at b in
    let g : drop k (drop (at + 1) t) ≡ drop (suc k) (drop at s) = simp drop-drop (rw (drop-set-lt (at + 1 + k) s at b (omega arith)) (ap (λ (n : ℕ). drop n s) (omega arith))) in
    let f : take (at + 1) t ≡ take at s ++ (b ∷ []) = take_more_set s at b (omega arith) in
    sym (rw (f, g) (append_assoc (take at s) (b ∷ []) _))
    ∙ store_mid t (at + 1) bs k (omega arith) (omega arith) (⊎_elim (λ q. inl (omega arith)) (λ q. inr (omega arith)) o)

pub store_whole : (s : List ℕ) (at : ℕ) (r : List ℕ) → at + length r ≤ length s → put_mid at (length r) s r ≡ store_at s at r
store_whole s at r l =
    ap (put_mid at (length r) s) (sym (take_all (length r) r (omega arith))) ∙ store_mid s at r (length r) (omega arith) l (inl (omega arith))
