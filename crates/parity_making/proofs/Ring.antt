-- The ring of parity symbols: the walk's tables are 000's groups, by computed tests.
use Rattle.std.proofs.Common.{◌≡◌, ℕ, zero, suc, ◌+◌, ◌*◌, ◌<◌, Bool, true, false, T, eqb, ltb, ◌⊎◌, List, [], ◌∷◌, get_or, refl, ap₂, inl, inr, eqb→eq, ltb→lt}
use lib.Bits.{bit_xor}
use Rattle.bits.specs.Poly.{times_x}
use Rattle.bits.proofs.Below.{both, both_left, both_right, all, below}
use Rattle.field64.specs.Field.{product, product_run, add_if, twice_of}
use Rattle.parity_tables.specs.Tables.{positions, factors}
use Rattle.parity_making.specs.Walk.{links, carries, turns}

-- the parity symbol that is known at each turn, and the first again
unfoldable pub ring : List ℕ
ring =
    0 ∷ 42 ∷ 35 ∷ 71 ∷ 37 ∷ 56 ∷ 10 ∷ 52 ∷ 21 ∷ 66 ∷ 28 ∷ 49 ∷ 7 ∷ 77 ∷ 31 ∷ 47
    ∷ 5 ∷ 78 ∷ 41 ∷ 15 ∷ 60 ∷ 24 ∷ 65 ∷ 20 ∷ 73 ∷ 12 ∷ 57 ∷ 2 ∷ 44 ∷ 34 ∷ 70 ∷ 36
    ∷ 55 ∷ 9 ∷ 51 ∷ 23 ∷ 68 ∷ 27 ∷ 48 ∷ 6 ∷ 76 ∷ 30 ∷ 46 ∷ 4 ∷ 80 ∷ 40 ∷ 17 ∷ 62
    ∷ 26 ∷ 64 ∷ 19 ∷ 72 ∷ 14 ∷ 59 ∷ 1 ∷ 43 ∷ 33 ∷ 69 ∷ 38 ∷ 54 ∷ 11 ∷ 53 ∷ 22 ∷ 67
    ∷ 29 ∷ 50 ∷ 8 ∷ 75 ∷ 32 ∷ 45 ∷ 3 ∷ 79 ∷ 39 ∷ 16 ∷ 61 ∷ 25 ∷ 63 ∷ 18 ∷ 74 ∷ 13
    ∷ 58 ∷ 0
    ∷ []

-- the group of each turn
unfoldable pub groups : List ℕ
groups =
    7 ∷ 58 ∷ 50 ∷ 20 ∷ 62 ∷ 74 ∷ 11 ∷ 29 ∷ 54 ∷ 26 ∷ 0 ∷ 39 ∷ 6 ∷ 49 ∷ 4 ∷ 69
    ∷ 19 ∷ 27 ∷ 42 ∷ 47 ∷ 40 ∷ 13 ∷ 2 ∷ 33 ∷ 22 ∷ 70 ∷ 51 ∷ 63 ∷ 60 ∷ 25 ∷ 38 ∷ 17
    ∷ 35 ∷ 80 ∷ 1 ∷ 48 ∷ 41 ∷ 23 ∷ 75 ∷ 37 ∷ 45 ∷ 64 ∷ 43 ∷ 21 ∷ 15 ∷ 34 ∷ 59 ∷ 8
    ∷ 30 ∷ 66 ∷ 44 ∷ 53 ∷ 9 ∷ 67 ∷ 68 ∷ 14 ∷ 73 ∷ 55 ∷ 71 ∷ 61 ∷ 79 ∷ 32 ∷ 57 ∷ 16
    ∷ 52 ∷ 24 ∷ 78 ∷ 12 ∷ 3 ∷ 5 ∷ 65 ∷ 18 ∷ 28 ∷ 77 ∷ 10 ∷ 46 ∷ 72 ∷ 36 ∷ 56 ∷ 31
    ∷ 76
    ∷ []

-- what the group's factors are divided by, as its inverse
unfoldable pub undo : List ℕ
undo =
    52 ∷ 52 ∷ 7 ∷ 48 ∷ 36 ∷ 52 ∷ 38 ∷ 39 ∷ 2 ∷ 57 ∷ 25 ∷ 18 ∷ 63 ∷ 2 ∷ 7 ∷ 45
    ∷ 53 ∷ 15 ∷ 9 ∷ 23 ∷ 36 ∷ 57 ∷ 50 ∷ 39 ∷ 16 ∷ 55 ∷ 7 ∷ 16 ∷ 32 ∷ 40 ∷ 23 ∷ 26
    ∷ 55 ∷ 2 ∷ 55 ∷ 8 ∷ 25 ∷ 41 ∷ 45 ∷ 20 ∷ 59 ∷ 8 ∷ 51 ∷ 9 ∷ 61 ∷ 16 ∷ 26 ∷ 15
    ∷ 21 ∷ 60 ∷ 53 ∷ 42 ∷ 34 ∷ 33 ∷ 9 ∷ 33 ∷ 61 ∷ 34 ∷ 25 ∷ 56 ∷ 4 ∷ 59 ∷ 35 ∷ 32
    ∷ 16 ∷ 47 ∷ 30 ∷ 44 ∷ 33 ∷ 26 ∷ 40 ∷ 8 ∷ 36 ∷ 5 ∷ 14 ∷ 44 ∷ 30 ∷ 61 ∷ 63 ∷ 16
    ∷ 63
    ∷ []

-- ---- lists by their elements
unfoldable same : List ℕ → List ℕ → Bool
same [] [] = true
same [] (y ∷ ys) = false
same (x ∷ xs) [] = false
same (x ∷ xs) (y ∷ ys) = both (eqb x y) (same xs ys)

same_eq : (xs ys : List ℕ) → T (same xs ys) → xs ≡ ys
unfolding same
same_eq [] [] t = refl
same_eq [] (y ∷ ys) t = absurd t
same_eq (x ∷ xs) [] t = absurd t
same_eq (x ∷ xs) (y ∷ ys) t =
    ap₂ (λ (z : ℕ) (zs : List ℕ). z ∷ zs) (eqb→eq x y (both_left (eqb x y) (same xs ys) t)) (same_eq xs ys (both_right (eqb x y) (same xs ys) t))

-- each element times e
unfoldable pub scaled : ℕ → List ℕ → List ℕ
scaled e [] = []
scaled e (f ∷ fs) = product e f ∷ scaled e fs

either : Bool → Bool → Bool
either true b = true
either false b = b

either_sum : (a b : Bool) → T (either a b) → T a ⊎ T b
unfolding either
either_sum true b t = inl tt
either_sum false b t = inr t

-- ---- a turn's group: the symbols of the message, then known and found, or found and known
abbrev pub group_at : ℕ → ℕ
group_at k = get_or groups k 0

abbrev pub link : ℕ → ℕ → ℕ
link k i = get_or links (4 * k + i) 0

abbrev pub Is : ℕ → List ℕ → List ℕ → Type 0
Is k ps fs = (get_or positions (group_at k) [] ≡ ps) × (scaled (get_or undo k 0) (get_or factors (group_at k) []) ≡ fs)

abbrev pub Onward : ℕ → Type 0
Onward k =
    Is k
    (get_or links (4 * k) 0 ∷ link k 1 ∷ (81 + get_or ring k 0) ∷ (81 + get_or ring (suc k) 0) ∷ [])
    (link k 2 ∷ link k 3 ∷ get_or carries k 0 ∷ 1 ∷ [])

abbrev pub Back : ℕ → Type 0
Back k =
    Is k
    (get_or links (4 * k) 0 ∷ link k 1 ∷ (81 + get_or ring (suc k) 0) ∷ (81 + get_or ring k 0) ∷ [])
    (link k 2 ∷ link k 3 ∷ 1 ∷ get_or carries k 0 ∷ [])

is : ℕ → List ℕ → List ℕ → Bool
is k ps fs = both (same (get_or positions (group_at k) []) ps) (same (scaled (get_or undo k 0) (get_or factors (group_at k) [])) fs)

is_is : (k : ℕ) (ps fs : List ℕ) → T (is k ps fs) → Is k ps fs
unfolding is
is_is k ps fs t =
    let a = same (get_or positions (group_at k) []) ps in
    let b = same (scaled (get_or undo k 0) (get_or factors (group_at k) [])) fs in
    (same_eq _ _ (both_left a b t), same_eq _ _ (both_right a b t))

abbrev onward : ℕ → Bool
onward k =
    is k
    (get_or links (4 * k) 0 ∷ link k 1 ∷ (81 + get_or ring k 0) ∷ (81 + get_or ring (suc k) 0) ∷ [])
    (link k 2 ∷ link k 3 ∷ get_or carries k 0 ∷ 1 ∷ [])

abbrev back : ℕ → Bool
back k =
    is k
    (get_or links (4 * k) 0 ∷ link k 1 ∷ (81 + get_or ring (suc k) 0) ∷ (81 + get_or ring k 0) ∷ [])
    (link k 2 ∷ link k 3 ∷ 1 ∷ get_or carries k 0 ∷ [])

turn : ℕ → Bool
turn k = either (onward k) (back k)

turn_test : T (all turn 81)
unfolding turn either is same scaled positions factors links carries ring groups undo product product_run add_if twice_of times_x
turn_test = tt

pub turn_is : (k : ℕ) → k < 81 → Onward k ⊎ Back k
unfolding turn
turn_is k h = go (either_sum (onward k) (back k) (below turn 81 turn_test k h))
  where
    go : T (onward k) ⊎ T (back k) → Onward k ⊎ Back k
    go (inl t) = inl (is_is k _ _ t)
    go (inr t) = inr (is_is k _ _ t)

-- ---- what a turn names is there
fits : ℕ → Bool
fits k =
    both (both (ltb (group_at k) 81) (ltb (get_or ring k 0) 81))
    (both (both (ltb (get_or links (4 * k) 0) 81) (ltb (link k 1) 81)) (ltb (get_or ring (suc k) 0) 81))

fits_test : T (all fits 81)
unfolding fits links ring groups
fits_test = tt

pub record Fits (k : ℕ) : Type 0 where
  pub group : group_at k < 81
  pub known : get_or ring k 0 < 81
  pub one : get_or links (4 * k) 0 < 81
  pub two : link k 1 < 81
  pub found : get_or ring (suc k) 0 < 81

pub fits_at : (k : ℕ) → k < 81 → Fits k
unfolding fits
fits_at k h =
    let t = below fits 81 fits_test k h in
    let g = ltb (group_at k) 81 in
    let r = ltb (get_or ring k 0) 81 in
    let a = ltb (get_or links (4 * k) 0) 81 in
    let b = ltb (link k 1) 81 in
    let n = ltb (get_or ring (suc k) 0) 81 in
    let l = both_left (both g r) (both (both a b) n) t in
    let q = both_right (both g r) (both (both a b) n) t in
    let ab = both_left (both a b) n q in
    record {
      group = ltb→lt _ 81 (both_left g r l);
      known = ltb→lt _ 81 (both_right g r l);
      one = ltb→lt _ 81 (both_left a b ab);
      two = ltb→lt _ 81 (both_right a b ab);
      found = ltb→lt _ 81 (both_right (both a b) n q);
    }

-- ---- every parity symbol is on the ring, and the ring closes
met : ℕ → Bool
met j = both (ltb (get_or turns j 0) 81) (eqb (get_or ring (get_or turns j 0) 0) j)

met_test : T (all met 81)
unfolding met turns ring
met_test = tt

pub meets : (j : ℕ) → j < 81 → (get_or turns j 0 < 81) × (get_or ring (get_or turns j 0) 0 ≡ j)
unfolding met
meets j h =
    let t = below met 81 met_test j h in
    let a = ltb (get_or turns j 0) 81 in
    let b = eqb (get_or ring (get_or turns j 0) 0) j in
    (ltb→lt _ 81 (both_left a b t), eqb→eq _ _ (both_right a b t))

pub closes : get_or ring 81 0 ≡ get_or ring 0 0
unfolding ring
closes = refl

-- ---- the factors of all turns together
unfoldable pub carried : ℕ → ℕ
carried zero = 1
carried (suc k) = product (get_or carries k 0) (carried k)

pub undone : product 34 (bit_xor 1 (carried 81)) ≡ 1
unfolding carried carries product product_run add_if twice_of times_x
undone = refl
