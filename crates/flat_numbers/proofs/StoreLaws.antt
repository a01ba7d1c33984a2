-- Bytes stored one after the other are stored at once; bytes stored over a whole room are the room; bytes stored into a part of a
-- room are stored at its offset. For any bytes.
use mathlib.Core.Path.{◌≡◌, refl, sym, ap, ◌∙◌}
use Prim.Native.Nat.{ℕ, suc, ◌+◌, ◌≤◌}
use mathlib.Core.List.{List, [], ◌∷◌, ◌++◌}
use lib.ListN.{set, length, take, drop, length-set, length-drop, take-append-drop}
use lib.Seq.{ext_get_or, length-take-le, set-append_left}
use native.Mathlib.Nat.{add-zero, zero-add}
use native.Mathlib.Omega.{arith}
use Rattle.bits.specs.Bytes.{store_at}
use Rattle.bits.proofs.ByteLaws.{length_store, store_in}

pub store_append : (s : List ℕ) (at : ℕ) (xs ys : List ℕ) → store_at s at (xs ++ ys) ≡ store_at (store_at s at xs) (at + length xs) ys
unfolding store_at
store_append s at [] ys = rw (add-zero at)
store_append s at (x ∷ xs) ys =
    let e : at + 1 + length xs ≡ at + suc (length xs) = omega arith in
    store_append (set s at x) (at + 1) xs ys ∙ rw e

-- as a function's two stores have it
pub store_two : (s : List ℕ) (a b : ℕ) (xs ys : List ℕ) → a + length xs ≡ b → store_at (store_at s a xs) b ys ≡ store_at s a (xs ++ ys)
store_two s a b xs ys e = rw (← e) (sym (store_append s a xs ys))

-- a room that the bytes fill
pub store_whole : (s r : List ℕ) → length s ≡ length r → store_at s 0 r ≡ r
store_whole s r e =
    ext_get_or 0 (store_at s 0 r) r (length_store s 0 r ∙ e)
    (λ j h. rw (zero-add j) at (store_in s 0 r j (omega arith) (omega (arith, length_store s 0 r))))

set_behind : (p s : List ℕ) (i b : ℕ) → set (p ++ s) (length p + i) b ≡ p ++ set s i b
set_behind [] s i b = ap (λ (j : ℕ). set s j b) (zero-add i)
set_behind (x ∷ p) s i b =
    let e : suc (length p) + i ≡ suc (length p + i) = omega arith in
    ap (λ (j : ℕ). set (x ∷ (p ++ s)) j b) e ∙ ap (λ (t : List ℕ). x ∷ t) (set_behind p s i b)

-- bytes in front of those that are stored into stay in front
store_behind : (p s : List ℕ) (i : ℕ) (r : List ℕ) → store_at (p ++ s) (length p + i) r ≡ p ++ store_at s i r
unfolding store_at
store_behind p s i [] = refl
store_behind p s i (b ∷ bs) =
    let e : length p + i + 1 ≡ length p + (i + 1) = omega arith in
    rw (set_behind p s i b, e) (store_behind p (set s i b) (i + 1) bs)

-- and bytes behind them stay behind
store_before : (s q : List ℕ) (i : ℕ) (r : List ℕ) → i + length r ≤ length s → store_at (s ++ q) i r ≡ store_at s i r ++ q
unfolding store_at
store_before s q i [] h = refl
store_before s q i (b ∷ bs) h =
    rw (set-append_left s q i b (omega arith)) (store_before (set s i b) q (i + 1) bs (omega (arith, length-set s i b)))

-- n bytes of a room from `at` on were lent and come back with r stored into them: r is stored at `at`
pub part_store : (s : List ℕ) (at n : ℕ) (r : List ℕ) → at + n ≤ length s → length r ≤ n
    → take at s ++ (store_at (take n (drop at s)) 0 r ++ drop n (drop at s)) ≡ store_at s at r
part_store s at n r h l =
    let e : length (take at s) + 0 ≡ at = omega (arith, length-take-le at s (omega arith)) in
    let m : 0 + length r ≤ length (take n (drop at s)) = omega (arith, length-take-le n (drop at s) (omega (arith, length-drop at s))) in
    ap (λ (t : List ℕ). take at s ++ t) (sym (store_before (take n (drop at s)) (drop n (drop at s)) 0 r m) ∙ ap (λ (t : List ℕ). store_at t 0 r) (take-append-drop n (drop at s)))
    ∙ sym (store_behind (take at s) (drop at s) 0 r)
    ∙ rw (take-append-drop, e)
