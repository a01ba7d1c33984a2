-- The same bytes as a list of bits, fields appended one to another: what `put_at` and `puts_at` leave, said in that shape.
use mathlib.Core.Path.{◌≡◌, refl, sym, ap, ap₂, ◌∙◌}
use mathlib.Core.Logic.{dite}
use Prim.Native.Nat.{ℕ, zero, suc, ◌+◌, ◌*◌, ◌/◌, ◌%◌, ◌≤◌, ◌<◌}
use mathlib.Core.List.{List, [], ◌∷◌, ◌++◌, append_assoc, append-nil}
use lib.ListN.{get_or, set, length, drop, take, length-append, length-set, take-append-drop, drop_of_length-le}
use lib.Seq.{ext_get_or, get_or-set_same, get_or-set_other, take-set-le, drop-set-lt, drop-cons, drop-drop, length-take-le, take_at, drop_at}
use native.Mathlib.Nat.{add-suc, add-zero}
use native.Mathlib.Decide.{ℕ_discrete}
use native.Mathlib.Omega.{arith}
use Rattle.bits.specs.Bits.{bit_at, set_bit, put_at, puts_at, total}
use Rattle.bits.proofs.PutLaws.{bit_set_same, bit_set_other, length_set_bit, length_put}
use Rattle.bits.proofs.TableLaws.{length_table, get_or_table}
use Rattle.bits.specs.Table.{table}

-- all bits of bytes
unfoldable pub bits : List ℕ → List ℕ
bits s = table (bit_at s) (8 * length s)

-- n bits of v
unfoldable pub bits_of : ℕ → ℕ → List ℕ
bits_of zero v = []
bits_of (suc n) v = bits_of n (v / 2) ++ (v % 2 ∷ [])

-- a row of fields
unfoldable pub row_bits : List ℕ → List ℕ → List ℕ
row_bits [] vs = []
row_bits (w ∷ ws) [] = []
row_bits (w ∷ ws) (v ∷ vs) = bits_of w v ++ row_bits ws vs

pub length_bits : (s : List ℕ) → length (bits s) ≡ 8 * length s
unfolding bits
length_bits s = length_table (bit_at s) (8 * length s)

pub length_bits_of : (n v : ℕ) → length (bits_of n v) ≡ n
unfolding bits_of
length_bits_of zero v = refl
length_bits_of (suc n) v = length-append (bits_of n (v / 2)) (v % 2 ∷ []) ∙ omega (arith, length_bits_of n (v / 2))

bits_at : (s : List ℕ) (i : ℕ) → i < 8 * length s → get_or (bits s) i 0 ≡ bit_at s i
unfolding bits
bits_at s i h = get_or_table (bit_at s) (8 * length s) i 0 h

bits_set : (s : List ℕ) (i b : ℕ) → b < 2 → i < 8 * length s → bits (set_bit s i b) ≡ set (bits s) i b
bits_set s i b lb l =
    let t = set_bit s i b in
    let e : length t ≡ length s = length_set_bit s i b in
    ext_get_or 0 (bits t) (set (bits s) i b)
    (omega (arith, length_bits t, length_bits s, length-set (bits s) i b))
    (λ j h.
    let k : j < 8 * length t = omega (arith, length_bits t) in
    bits_at t j k
    ∙ dite (ℕ_discrete j i)
    (λ q. rw q (bit_set_same s i b l lb ∙ sym (get_or-set_same (bits s) i b 0 (omega (arith, length_bits s)))))
    (λ n. bit_set_other s i j b lb (λ q. n (sym q)) ∙ sym (bits_at s j (omega arith)) ∙ sym (get_or-set_other (bits s) i j b 0 n)))

drop_set : (l : List ℕ) (i b : ℕ) → i < length l → drop i (set l i b) ≡ b ∷ drop (suc i) l
drop_set l i b h =
    drop-cons (set l i b) i 0 (omega (arith, length-set l i b))
    ∙ ap₂ (λ (x : ℕ) (xs : List ℕ). x ∷ xs) (get_or-set_same l i b 0 h) (drop-set-lt (suc i) l i b (omega arith))

-- a field put: what was before it, its bits, what was after it
pub bits_put : (s : List ℕ) (at n v : ℕ) → at + n ≤ 8 * length s → bits (put_at s at n v) ≡ take at (bits s) ++ bits_of n v ++ drop (at + n) (bits s)
unfolding put_at bits_of
bits_put s at zero v l = rw (add-zero at, append-nil) (sym (take-append-drop at (bits s)))
bits_put s at (suc n) v l =
    let b = v % 2 in
    let t = set_bit s (at + n) b in
    bits_put t at n (v / 2) (omega (arith, length_set_bit s (at + n) b))
    ∙ rw (bits_set s (at + n) b (omega arith) (omega arith), take-set-le at (bits s) (at + n) b (omega arith), drop_set (bits s) (at + n) b (omega (arith, length_bits s)), add-suc at n)
    (simp append_assoc)

head_length : (s : List ℕ) (at n v : ℕ) → at + n ≤ 8 * length s → length (take at (bits s) ++ bits_of n v) ≡ at + n
head_length s at n v l =
    length-append (take at (bits s)) (bits_of n v)
    ∙ omega (arith, length-take-le at (bits s) (omega (arith, length_bits s)), length_bits_of n v)

-- a row put: what was before it, its fields one after the other, what was after it
pub bits_puts : (s : List ℕ) (at : ℕ) (ws vs : List ℕ) → length vs ≡ length ws → at + total ws ≤ 8 * length s → bits (puts_at s at ws vs) ≡ take at (bits s) ++ row_bits ws vs ++ drop (at + total ws) (bits s)
unfolding puts_at row_bits
bits_puts s at [] vs e l = rw (add-zero at, append-nil) (sym (take-append-drop at (bits s)))
bits_puts s at (w ∷ ws) [] e l = absurd (let z : ⊥ = omega arith in z)
bits_puts s at (w ∷ ws) (v ∷ vs) e l =
    let t = put_at s at w v in
    let m : at + w ≤ 8 * length s = omega arith in
    let h : length (take at (bits s) ++ bits_of w v) ≡ at + w = head_length s at w v m in
    let a : take (at + w) (bits t) ≡ take at (bits s) ++ bits_of w v =
    ap (take (at + w)) (bits_put s at w v m) ∙ take_at (take at (bits s) ++ bits_of w v) (drop (at + w) (bits s)) (at + w) h in
    let b : drop (at + w + total ws) (bits t) ≡ drop (at + (w + total ws)) (bits s) =
    sym (drop-drop (total ws) (at + w) (bits t))
    ∙ ap (drop (total ws)) (ap (drop (at + w)) (bits_put s at w v m) ∙ drop_at (take at (bits s) ++ bits_of w v) (drop (at + w) (bits s)) (at + w) h)
    ∙ drop-drop (total ws) (at + w) (bits s)
    ∙ ap (λ (k : ℕ). drop k (bits s)) (let k : at + w + total ws ≡ at + (w + total ws) = omega arith in k) in
    bits_puts t (at + w) ws vs (omega arith) (omega (arith, length_put s at w v))
    ∙ rw (a, b) (simp append_assoc)

-- a row that takes the whole room: nothing of what was there is left
pub bits_whole : (s : List ℕ) (ws vs : List ℕ) → length vs ≡ length ws → total ws ≡ 8 * length s → bits (puts_at s 0 ws vs) ≡ row_bits ws vs
bits_whole s ws vs e q =
    bits_puts s 0 ws vs e (omega arith)
    ∙ ap (λ (x : List ℕ). row_bits ws vs ++ x) (drop_of_length-le (bits s) {i = 0 + total ws} (omega (arith, length_bits s)))
    ∙ append-nil (row_bits ws vs)
