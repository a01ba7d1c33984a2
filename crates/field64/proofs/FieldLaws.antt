-- The product of the field of 64: it goes through sums on both sides, in any order and grouping; 0 and 1 do what they should.
use mathlib.Core.Path.{◌≡◌, refl, sym, ap, ap₂, ◌∙◌}
use mathlib.Core.Bool.{Bool, true, false}
use Prim.Native.Nat.{ℕ, zero, suc, ◌/◌, ◌%◌, ◌<◌}
use native.Mathlib.Nat.{mod-mod, mod-lt, mod-eq_of_lt, zero-lt-suc}
use lib.Dec.{T, ltb, lit<, eqb, eqb→eq}
use lib.Bits.{bit_xor, xor_mod}
use Rattle.bits.specs.Pick.{pick}
use Rattle.bits.specs.Poly.{times_x}
use Rattle.bits.proofs.XorLaws.{xor_swap, times_x_xor}
use Rattle.field64.specs.Field.{twice_of, add_if, product_run, product}
use Rattle.bits.proofs.Below.{all, below}
use Rattle.field64.proofs.ProductLaws.{twice_lt, add_if_lt, product_lt}

twice_xor : (a b : ℕ) → a < 64 → b < 64 → twice_of (bit_xor a b) ≡ bit_xor (twice_of a) (twice_of b)
unfolding twice_of
twice_xor a b ha hb = times_x_xor 5 67 a b ha hb

add_xor : (s t a c b : ℕ) → add_if (bit_xor s t) (bit_xor a c) b ≡ bit_xor (add_if s a b) (add_if t c b)
unfolding add_if
add_xor s t a c b = go (ltb 0 (b % 2))
  where
    go : (o : Bool) → pick o (bit_xor (bit_xor s t) (bit_xor a c)) (bit_xor s t) ≡ bit_xor (pick o (bit_xor s a) s) (pick o (bit_xor t c) t)
    go true = xor_swap s t a c
    go false = refl

run_xor : (n s t a c b : ℕ) → a < 64 → c < 64 → product_run n (bit_xor s t) (bit_xor a c) b ≡ bit_xor (product_run n s a b) (product_run n t c b)
unfolding product_run
run_xor zero s t a c b ha hc = refl
run_xor (suc n) s t a c b ha hc =
    ap₂ (λ (x y : ℕ). product_run n x y (b / 2)) (add_xor s t a c b) (twice_xor a c ha hc)
    ∙ run_xor n (add_if s a b) (add_if t c b) (twice_of a) (twice_of c) (b / 2) (twice_lt a ha) (twice_lt c hc)

-- the six low digits make an element
pub six : (a : ℕ) → a % 64 < 64
six a = mod-lt a (zero-lt-suc 63)

-- through a sum on the left
pub product_xor_left : (a c b : ℕ) → product (bit_xor a c) b ≡ bit_xor (product a b) (product c b)
unfolding product
product_xor_left a c b = ap (λ (x : ℕ). product_run 6 0 x (b % 64)) (xor_mod a c 6) ∙ run_xor 6 0 0 (a % 64) (c % 64) (b % 64) (six a) (six c)

-- only the six low digits count
pub product_mod_left : (a b : ℕ) → product (a % 64) b ≡ product a b
unfolding product
product_mod_left a b = ap (λ (x : ℕ). product_run 6 0 x (b % 64)) (mod-mod a 64)

pub product_mod_right : (a b : ℕ) → product a (b % 64) ≡ product a b
unfolding product
product_mod_right a b = ap (λ (x : ℕ). product_run 6 0 (a % 64) x) (mod-mod b 64)

-- in either order, by one test over all pairs
turned : ℕ → ℕ → Bool
turned a b = eqb (product a b) (product b a)

turneds : ℕ → Bool
turneds a = all (turned a) 64

test : T (all turneds 64)
unfolding turned turneds product product_run add_if twice_of times_x
test = tt

pub product_comm : (a b : ℕ) → product a b ≡ product b a
unfolding turned turneds
product_comm a b =
    sym (product_mod_left a b) ∙ sym (product_mod_right (a % 64) b)
    ∙ eqb→eq (product (a % 64) (b % 64)) (product (b % 64) (a % 64)) (below (turned (a % 64)) 64 (below turneds 64 test (a % 64) (six a)) (b % 64) (six b))
    ∙ product_mod_left b (a % 64) ∙ product_mod_right b a

-- through a sum on the right
pub product_xor_right : (a b c : ℕ) → product a (bit_xor b c) ≡ bit_xor (product a b) (product a c)
product_xor_right a b c = product_comm a (bit_xor b c) ∙ product_xor_left b c a ∙ ap₂ bit_xor (product_comm b a) (product_comm c a)

-- times x before or after
add_twice : (s a b : ℕ) → s < 64 → a < 64 → add_if (twice_of s) (twice_of a) b ≡ twice_of (add_if s a b)
unfolding add_if
add_twice s a b hs ha = go (ltb 0 (b % 2))
  where
    go : (o : Bool) → pick o (bit_xor (twice_of s) (twice_of a)) (twice_of s) ≡ twice_of (pick o (bit_xor s a) s)
    go true = sym (twice_xor s a hs ha)
    go false = refl

run_twice : (n s a b : ℕ) → s < 64 → a < 64 → product_run n (twice_of s) (twice_of a) b ≡ twice_of (product_run n s a b)
unfolding product_run
run_twice zero s a b hs ha = refl
run_twice (suc n) s a b hs ha =
    ap (λ (x : ℕ). product_run n x (twice_of (twice_of a)) (b / 2)) (add_twice s a b hs ha)
    ∙ run_twice n (add_if s a b) (twice_of a) (b / 2) (add_if_lt s a b hs ha) (twice_lt a ha)

product_twice_left : (a b : ℕ) → a < 64 → product (twice_of a) b ≡ twice_of (product a b)
unfolding product twice_of times_x
product_twice_left a b ha =
    ap (λ (x : ℕ). product_run 6 0 x (b % 64)) (mod-eq_of_lt (twice_lt a ha))
    ∙ run_twice 6 0 a (b % 64) (lit< tt) ha
    ∙ ap (λ (x : ℕ). twice_of (product_run 6 0 x (b % 64))) (sym (mod-eq_of_lt ha))

pub product_twice : (f a : ℕ) → a < 64 → product f (twice_of a) ≡ twice_of (product f a)
product_twice f a ha = product_comm f (twice_of a) ∙ product_twice_left a f ha ∙ ap twice_of (product_comm a f)

product_add : (f s a b : ℕ) → product f (add_if s a b) ≡ add_if (product f s) (product f a) b
unfolding add_if
product_add f s a b = go (ltb 0 (b % 2))
  where
    go : (o : Bool) → product f (pick o (bit_xor s a) s) ≡ pick o (bit_xor (product f s) (product f a)) (product f s)
    go true = product_xor_right f s a
    go false = refl

product_run_lem : (n f s a b : ℕ) → a < 64 → product f (product_run n s a b) ≡ product_run n (product f s) (product f a) b
unfolding product_run
product_run_lem zero f s a b ha = refl
product_run_lem (suc n) f s a b ha =
    product_run_lem n f (add_if s a b) (twice_of a) (b / 2) (twice_lt a ha)
    ∙ ap₂ (λ (x y : ℕ). product_run n x y (b / 2)) (product_add f s a b) (product_twice f a ha)

-- by zero and by one
pub product_zero_right : (a : ℕ) → product a 0 ≡ 0
unfolding product product_run add_if
product_zero_right a = refl

pub product_zero_left : (b : ℕ) → product 0 b ≡ 0
product_zero_left b = product_comm 0 b ∙ product_zero_right b

pub product_one_right : (b : ℕ) → b < 64 → product b 1 ≡ b
unfolding product product_run add_if
product_one_right b h = mod-eq_of_lt h

pub product_one_left : (b : ℕ) → b < 64 → product 1 b ≡ b
product_one_left b h = product_comm 1 b ∙ product_one_right b h

shown : (a b : ℕ) → product a b ≡ product_run 6 0 (a % 64) (b % 64)
unfolding product
shown a b = refl

-- in either grouping
pub product_assoc : (f a b : ℕ) → product f (product a b) ≡ product (product f a) b
product_assoc f a b =
    ap (product f) (shown a b) ∙ product_run_lem 6 f 0 (a % 64) (b % 64) (six a)
    ∙ ap₂ (λ (x y : ℕ). product_run 6 x y (b % 64)) (product_zero_right f) (product_mod_right f a ∙ sym (mod-eq_of_lt (product_lt f a)))
    ∙ sym (shown (product f a) b)
