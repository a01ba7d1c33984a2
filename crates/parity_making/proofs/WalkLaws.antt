-- The walk finds the parity: at each turn the group of that turn gives the next symbol of the only parity there is.
use Rattle.std.proofs.Common.{◌≡◌, ℕ, zero, suc, ◌+◌, ◌*◌, ◌<◌, ◌≤◌, List, [], ◌∷◌, ◌++◌, length, get_or, sym, refl, ap, ◌∙◌, subst, ap₂, ⊎_elim, add-one, arith, get_or-append-add, ext_get_or}
use lib.ListN.{get_or-append}
use lib.Bits.{bit_xor, xor_zero_r, xor_comm, xor_self}
use Rattle.bits.specs.Table.{table}
use Rattle.bits.proofs.TableLaws.{length_table, get_or_table}
use Rattle.bits.proofs.XorLaws.{xor_assoc, xor_zero, xor_swap, xor_cancel}
use Rattle.field64.specs.Field.{product}
use Rattle.field64.proofs.FieldLaws.{product_assoc, product_xor_left, product_xor_right, product_zero_right, product_one_left}
use Rattle.parity_tables.specs.Tables.{positions, factors}
use Rattle.one_parity.specs.OneParity.{group_sum, IsParity}
use Rattle.one_parity.proofs.EachHasOne.{each_has_one}
use Rattle.parity_making.specs.Walk.{links, carries, turns, adds, walked, added, start_of, ring_of, walked_parity}
use Rattle.parity_making.proofs.Ring.{ring, scaled, group_at, link, Onward, Back, turn_is, fits_at, meets, closes, carried, undone}

-- a group's sum times e
scaled_sum : (e : ℕ) (w ps fs : List ℕ) → product e (group_sum w ps fs) ≡ group_sum w ps (scaled e fs)
unfolding group_sum scaled
scaled_sum e w [] fs = product_zero_right e
scaled_sum e w (p ∷ ps) [] = product_zero_right e
scaled_sum e w (p ∷ ps) (f ∷ fs) =
    product_xor_right e (product f (get_or w p 0)) (group_sum w ps fs)
    ∙ ap₂ bit_xor (product_assoc e f (get_or w p 0)) (scaled_sum e w ps fs)

-- four terms whose sum is zero: the one with factor 1 is the sum of the others
onward_sum : (a b c x : ℕ) → bit_xor a (bit_xor b (bit_xor c (bit_xor x 0))) ≡ 0 → x ≡ bit_xor (bit_xor a b) c
onward_sum a b c x z =
    sym (xor_zero (bit_xor (bit_xor a b) c) x
    (xor_assoc (bit_xor a b) c x ∙ xor_assoc a b (bit_xor c x) ∙ ap (λ (y : ℕ). bit_xor a (bit_xor b (bit_xor c y))) (sym (xor_zero_r x)) ∙ z))

back_sum : (a b c x : ℕ) → bit_xor a (bit_xor b (bit_xor x (bit_xor c 0))) ≡ 0 → x ≡ bit_xor (bit_xor a b) c
back_sum a b c x z =
    onward_sum a b c x
    (ap (λ (y : ℕ). bit_xor a (bit_xor b y)) (sym (xor_assoc c x 0) ∙ ap (λ (y : ℕ). bit_xor y 0) (xor_comm c x) ∙ xor_assoc x c 0) ∙ z)

module _ (m v : List ℕ) (e : length m ≡ 81) (p : IsParity m v) where
  -- the parity symbol that the ring has at k
  abbrev at : ℕ → ℕ
  at k = get_or v (get_or ring k 0) 0

  -- symbols of message and parity
  in_message : (i : ℕ) → i < 81 → get_or (m ++ v) i 0 ≡ get_or m i 0
  in_message i h = get_or-append m v 0 i (omega arith)

  in_parity : (j : ℕ) → get_or (m ++ v) (81 + j) 0 ≡ get_or v j 0
  in_parity j = ap (λ (x : ℕ). get_or (m ++ v) (x + j) 0) (sym e) ∙ get_or-append-add m v j 0

  -- the group of a turn, divided
  divided : (k : ℕ) (ps fs : List ℕ) → k < 81 → (get_or positions (group_at k) [] ≡ ps) → (x : ℕ) → scaled x (get_or factors (group_at k) []) ≡ fs
      → group_sum (m ++ v) ps fs ≡ 0
  divided k ps fs h q x r =
      ap₂ (group_sum (m ++ v)) (sym q) (sym r)
      ∙ sym (scaled_sum x (m ++ v) (get_or positions (group_at k) []) (get_or factors (group_at k) []))
      ∙ ap (product x) (p.zero (group_at k) (fits_at k h).group)
      ∙ product_zero_right x

  one_more : (k : ℕ) → k < 81 → product 1 (get_or (m ++ v) (81 + get_or ring (suc k) 0) 0) ≡ at (suc k)
  one_more k h = product_one_left _ (rw (in_parity (get_or ring (suc k) 0)) (p.six _ (fits_at k h).found)) ∙ in_parity (get_or ring (suc k) 0)

  -- a turn: the next symbol by the one before it
  turn : (k : ℕ) → k < 81 → at (suc k) ≡ bit_xor (adds m k) (product (get_or carries k 0) (at k))
  unfolding group_sum adds
  turn k h =
      let F = fits_at k h in
      let w = m ++ v in
      let A = product (link k 2) (get_or w (get_or links (4 * k) 0) 0) in
      let B = product (link k 3) (get_or w (link k 1) 0) in
      let C = product (get_or carries k 0) (get_or w (81 + get_or ring k 0) 0) in
      let X = product 1 (get_or w (81 + get_or ring (suc k) 0) 0) in
      let same : bit_xor (bit_xor A B) C ≡ bit_xor (adds m k) (product (get_or carries k 0) (at k)) =
      ap₂ bit_xor
      (ap₂ bit_xor (ap (product (link k 2)) (in_message _ F.one)) (ap (product (link k 3)) (in_message _ F.two)))
      (ap (product (get_or carries k 0)) (in_parity (get_or ring k 0))) in
      sym (one_more k h)
      ∙ ⊎_elim
      (λ (o : Onward k). onward_sum A B C X (divided k _ _ h o.0 _ o.1))
      (λ (o : Back k). back_sum A B C X (divided k _ _ h o.0 _ o.1))
      (turn_is k h)
      ∙ same

  -- from the right start, the walk finds the parity
  finds : (k : ℕ) → k ≤ 81 → walked carries (added m) (at 0) k ≡ at k
  unfolding walked added
  finds zero h = refl
  finds (suc k) h =
      ap₂ bit_xor (get_or_table (adds m) 81 k 0 (omega arith)) (ap (product (get_or carries k 0)) (finds k (omega arith)))
      ∙ sym (turn k (omega arith))

-- two walks with one message differ by what their starts differ, times the factors of the turns
differ : (d : List ℕ) (x y : ℕ) (k : ℕ) → bit_xor x y < 64 → bit_xor (walked carries d x k) (walked carries d y k) ≡ product (carried k) (bit_xor x y)
unfolding walked carried
differ d x y zero h = sym (product_one_left (bit_xor x y) h)
differ d x y (suc k) h =
    let c = get_or carries k 0 in
    let a = walked carries d x k in
    let b = walked carries d y k in
    xor_swap (get_or d k 0) (product c a) (get_or d k 0) (product c b)
    ∙ ap (λ (z : ℕ). bit_xor z (bit_xor (product c a) (product c b))) (xor_self (get_or d k 0))
    ∙ sym (product_xor_right c a b)
    ∙ ap (product c) (differ d x y k h)
    ∙ product_assoc c (carried k) (bit_xor x y)

module _ (m v : List ℕ) (e : length m ≡ 81) (p : IsParity m v) where
  -- so once around from 0 tells the start
  start_is : start_of carries (added m) ≡ get_or v (get_or ring 0 0) 0
  unfolding start_of
  start_is =
      let s = get_or v (get_or ring 0 0) 0 in
      let l : s < 64 = p.six _ (fits_at 0 (omega arith)).known in
      let o = walked carries (added m) 0 81 in
      let z : bit_xor s 0 < 64 = rw (xor_zero_r s) l in
      let round : bit_xor s o ≡ product (carried 81) s =
      ap (λ (x : ℕ). bit_xor x o) (sym (finds m v e p 81 (omega arith) ∙ ap (λ (j : ℕ). get_or v j 0) closes))
      ∙ differ (added m) s 0 81 z ∙ ap (product (carried 81)) (xor_zero_r s) in
      let once : o ≡ product (bit_xor 1 (carried 81)) s =
      xor_cancel s o (bit_xor s (product (carried 81) s)) (round ∙ sym (sym (xor_assoc s s _) ∙ ap (λ (x : ℕ). bit_xor x (product (carried 81) s)) (xor_self s)))
      ∙ sym (product_xor_left 1 (carried 81) s ∙ ap (λ (x : ℕ). bit_xor x (product (carried 81) s)) (product_one_left s l)) in
      ap (product _) once ∙ product_assoc _ (bit_xor 1 (carried 81)) s ∙ ap (λ (x : ℕ). product x s) undone ∙ product_one_left s l

  walked_is : walked_parity m ≡ v
  unfolding walked_parity ring_of
  walked_is =
      let f : ℕ → ℕ = λ j. get_or (ring_of carries (added m)) (get_or turns j 0) 0 in
      ext_get_or 0 (table f 81) v (length_table f 81 ∙ sym p.long)
      (λ j h.
      let l : j < 81 = omega (arith, length_table f 81) in
      let t = meets j l in
      get_or_table f 81 j 0 l
      ∙ get_or_table (walked carries (added m) (start_of carries (added m))) 82 (get_or turns j 0) 0 (omega (arith, t.0))
      ∙ ap (λ (x : ℕ). walked carries (added m) x (get_or turns j 0)) start_is
      ∙ finds m v e p (get_or turns j 0) (omega (arith, t.0))
      ∙ ap (λ (i : ℕ). get_or v i 0) t.1)

-- 02, CR 9: what the walk finds is the parity
pub walked_parity_lem : (m : List ℕ) → length m ≡ 81 → IsParity m (walked_parity m)
walked_parity_lem m e =
    let O = each_has_one m e in
    subst (IsParity m) (sym (walked_is m O.parity e O.is)) O.is

-- ---- the loops' turns
-- an element that is stored already
pub filled : (f : ℕ → ℕ) (out : List ℕ) (k n : ℕ) (r : List ℕ) → k < n → out ≡ table f n ++ r → get_or out k 0 ≡ f k
filled f out k n r l e =
    ap (λ (o : List ℕ). get_or o k 0) e
    ∙ get_or-append (table f n) r 0 k (rw (length_table f n) l)
    ∙ get_or_table f n k 0 l

pub walk_step : (cs d : List ℕ) (x k : ℕ) → bit_xor (get_or d k 0) (product (get_or cs k 0) (walked cs d x k)) ≡ walked cs d x (k + 1)
unfolding walked
walk_step cs d x k = rw (add-one k)

pub ring_is : (cs d : List ℕ) (once : List ℕ) (s : ℕ) → once ≡ table (walked cs d 0) 82 → s ≡ product 34 (get_or once 81 0)
    → table (walked cs d s) 82 ≡ ring_of cs d
unfolding ring_of start_of
ring_is cs d once s e q =
    ap (λ (x : ℕ). table (walked cs d x) 82)
    (q ∙ ap (product 34) (ap (λ (o : List ℕ). get_or o 81 0) e ∙ get_or_table (walked cs d 0) 82 81 0 (omega arith)))

pub parity_is : (m d y r : List ℕ) → length m ≡ 81 → d ≡ added m → y ≡ ring_of carries d → r ≡ table (λ (j : ℕ). get_or y (get_or turns j 0) 0) 81 → IsParity m r
unfolding walked_parity
parity_is m d y r e f g h =
    subst (IsParity m)
    (sym (h ∙ ap (λ (x : List ℕ). table (λ (j : ℕ). get_or x (get_or turns j 0) 0) 81) (g ∙ ap (ring_of carries) f)))
    (walked_parity_lem m e)

pub turn_lt : (j : ℕ) → j < 81 → get_or turns j 0 < 82
turn_lt j h = omega (arith, (meets j h).0)

pub link_lt : (k : ℕ) → k < 81 → (get_or links (4 * k) 0 < 81) × (get_or links (4 * k + 1) 0 < 81)
link_lt k h = ((fits_at k h).one, (fits_at k h).two)
