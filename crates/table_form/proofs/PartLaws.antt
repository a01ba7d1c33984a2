-- THE LAW OF A PART PUT BACK: room i then holds what was put, and every other room what it held.
use mathlib.Core.Path.{◌≡◌, sym, ap, ◌∙◌}
use mathlib.Core.Logic.{◌≢◌, dite}
use Prim.Native.Nat.{ℕ, ◌+◌, ◌-◌, ◌*◌, ◌≤◌, ◌<◌}
use mathlib.Core.List.{List, [], ◌++◌}
use native.Mathlib.Decide.{dec_lt}
use native.Mathlib.Omega.{arith}
use lib.ListN.{length, get_or, take, drop, length-append, length-drop, take-append-drop, get_or-append, drop_of_length-le}
use lib.Seq.{length-take-le, get_or-append-add, get_or-take, get_or-drop, ext_get_or}
use Rattle.held_mask.specs.Size.{size}
use Rattle.in_force.specs.Bytes.{prn_at}
use Rattle.table_form.specs.Table.{table_size, part, put_part, prn_in}

-- a room as a function lends it, from its first byte to the next room's
pub lent_part : (t : List ℕ) (i : ℕ) → take (size * i + size - size * i) (drop (size * i) t) ≡ part t i
unfolding part
lent_part t i = let e : size * i + size - size * i ≡ size = omega arith in rw e

-- and as it comes back
pub back_part : (t r s : List ℕ) (i : ℕ) → r ≡ s → take (size * i) t ++ (r ++ drop (size * i + size - size * i) (drop (size * i) t)) ≡ put_part t i s
unfolding put_part
back_part t r s i e = let n : size * i + size - size * i ≡ size = omega arith in rw (e, n)

-- what a room held, put back, changes nothing
pub put_own : (t : List ℕ) (i : ℕ) → put_part t i (part t i) ≡ t
unfolding put_part part
put_own t i = rw (take-append-drop size (drop (size * i) t)) (take-append-drop (size * i) t)

module _ (t : List ℕ) (long : length t ≡ table_size) (i : ℕ) (h : i < 4) where
  front : length (take (size * i) t) ≡ size * i
  front = length-take-le (size * i) t (omega arith)

  pub part_long : length (part t i) ≡ size
  unfolding part
  part_long = length-take-le size (drop (size * i) t) (omega (arith, length-drop (size * i) t))

  module _ (r : List ℕ) (whole : length r ≡ size) where
    pub put_long : length (put_part t i r) ≡ table_size
    unfolding put_part
    put_long =
        let rest = drop size (drop (size * i) t) in
        omega (arith, front, length-append (take (size * i) t) (r ++ rest), length-append r rest, length-drop size (drop (size * i) t), length-drop (size * i) t)

    -- a byte before the room, in it, behind it
    before_room : (j : ℕ) → j < size * i → get_or (put_part t i r) j 0 ≡ get_or t j 0
    unfolding put_part
    before_room j b = get_or-append (take (size * i) t) _ 0 j (omega (arith, front)) ∙ get_or-take (size * i) t j 0 b

    in_room : (k : ℕ) → k < size → get_or (put_part t i r) (size * i + k) 0 ≡ get_or r k 0
    unfolding put_part
    in_room k b =
        let rest = drop size (drop (size * i) t) in
        ap (λ (n : ℕ). get_or (take (size * i) t ++ (r ++ rest)) (n + k) 0) (sym front)
        ∙ get_or-append-add (take (size * i) t) (r ++ rest) k 0
        ∙ get_or-append r rest 0 k (omega arith)

    behind_room : (k : ℕ) → get_or (put_part t i r) (size * i + size + k) 0 ≡ get_or t (size * i + size + k) 0
    unfolding put_part
    behind_room k =
        let rest = drop size (drop (size * i) t) in
        let e : size * i + size + k ≡ length (take (size * i) t) + (length r + k) = omega (arith, front) in
        let n : size * i + (size + k) ≡ size * i + size + k = omega arith in
        ap (λ (m : ℕ). get_or (take (size * i) t ++ (r ++ rest)) m 0) e
        ∙ get_or-append-add (take (size * i) t) (r ++ rest) (length r + k) 0
        ∙ get_or-append-add r rest k 0
        ∙ get_or-drop size (drop (size * i) t) k 0
        ∙ get_or-drop (size * i) t (size + k) 0
        ∙ ap (λ (m : ℕ). get_or t m 0) n

    -- a byte of another room
    other_room : (j k : ℕ) → j ≢ i → k < size → get_or (put_part t i r) (size * j + k) 0 ≡ get_or t (size * j + k) 0
    other_room j k n b =
        dite (dec_lt j i)
        (λ l. before_room (size * j + k) (omega arith))
        (λ l.
        let m : size * i + size ≤ size * j + k = omega arith in
        let e : size * i + size + (size * j + k - (size * i + size)) ≡ size * j + k = omega arith in
        sym (ap (λ (x : ℕ). get_or (put_part t i r) x 0) e) ∙ behind_room (size * j + k - (size * i + size)) ∙ ap (λ (x : ℕ). get_or t x 0) e)

    pub part_same : part (put_part t i r) i ≡ r
    unfolding part
    part_same =
        let u = put_part t i r in
        let l : length (take size (drop (size * i) u)) ≡ size = length-take-le size (drop (size * i) u) (omega (arith, length-drop (size * i) u, put_long)) in
        ext_get_or 0 (take size (drop (size * i) u)) r (l ∙ sym whole)
        (λ k b.
        let b' : k < size = omega arith in
        get_or-take size (drop (size * i) u) k 0 b' ∙ get_or-drop (size * i) u k 0 ∙ in_room k b')

    pub part_other : (j : ℕ) → j < 4 → j ≢ i → part (put_part t i r) j ≡ part t j
    unfolding part
    part_other j l n =
        let u = put_part t i r in
        let a : length (take size (drop (size * j) u)) ≡ size = length-take-le size (drop (size * j) u) (omega (arith, length-drop (size * j) u, put_long)) in
        let b : length (take size (drop (size * j) t)) ≡ size = length-take-le size (drop (size * j) t) (omega (arith, length-drop (size * j) t)) in
        ext_get_or 0 (take size (drop (size * j) u)) (take size (drop (size * j) t)) (a ∙ sym b)
        (λ k c.
        let c' : k < size = omega arith in
        get_or-take size (drop (size * j) u) k 0 c'
        ∙ get_or-drop (size * j) u k 0
        ∙ other_room j k n c'
        ∙ sym (get_or-drop (size * j) t k 0)
        ∙ sym (get_or-take size (drop (size * j) t) k 0 c'))

    -- the PRN bytes
    pub prn_same : prn_in (put_part t i r) i ≡ prn_at r
    prn_same = let e : size * i + 0 ≡ size * i = omega arith in sym (ap (λ (x : ℕ). get_or (put_part t i r) x 0) e) ∙ in_room 0 (omega arith)

    pub prn_other : (j : ℕ) → j ≢ i → prn_in (put_part t i r) j ≡ prn_in t j
    prn_other j n =
        let e : size * j + 0 ≡ size * j = omega arith in
        sym (ap (λ (x : ℕ). get_or (put_part t i r) x 0) e) ∙ other_room j 0 n (omega arith) ∙ ap (λ (x : ℕ). get_or t x 0) e

-- the PRN of a room's ledger is the room's PRN byte
pub prn_part : (t : List ℕ) (i : ℕ) → prn_at (part t i) ≡ prn_in t i
unfolding part
prn_part t i =
    let e : size * i + 0 ≡ size * i = omega arith in
    get_or-take size (drop (size * i) t) 0 0 (omega arith) ∙ get_or-drop (size * i) t 0 0 ∙ ap (λ (x : ℕ). get_or t x 0) e

-- there is no room behind the fourth
pub part_none : (t : List ℕ) → length t ≡ table_size → part t 4 ≡ []
unfolding part
part_none t long = let l : length t ≤ size * 4 = omega arith in let e : drop (size * 4) t ≡ [] = drop_of_length-le t l in rw e
