-- Fields in a row: read back what was put, for any list of widths. And a list filled from the front.
use mathlib.Core.Path.{◌≡◌, refl, sym, ap, ap₂, ◌∙◌, subst}
use mathlib.Core.Logic.{◌⊎◌, inl, inr, ⊎_elim}
use Prim.Native.Nat.{ℕ, zero, suc, ◌+◌, ◌*◌, ◌≤◌, ◌<◌}
use mathlib.Core.List.{List, [], ◌∷◌, ◌++◌}
use lib.ListN.{get_or, length, drop, drop_of_length-le}
use lib.Seq.{drop-cons}
use native.Mathlib.Nat.{mod-eq_of_lt, add_assoc, add-zero, not-suc-le-zero, mul-suc, mul-le-mul_left, eq-or-lt_of_le, le_of_suc-le-suc}
use native.Mathlib.Numerals.{add-one}
use native.Mathlib.Omega.{arith}
use Rattle.bits.specs.Bits.{field_at, put_at, fields_at, puts_at, put_rows, total, Within}
use Rattle.bits.proofs.PutLaws.{field_put, field_put_other, length_put}

pub length_puts : (s : List ℕ) (at : ℕ) (ws vs : List ℕ) → length (puts_at s at ws vs) ≡ length s
unfolding puts_at
length_puts s at [] vs = refl
length_puts s at (w ∷ ws) [] = refl
length_puts s at (w ∷ ws) (v ∷ vs) = length_puts (put_at s at w v) (at + w) ws vs ∙ length_put s at w v

-- a field before or after the row is as it was
pub field_puts_other : (s : List ℕ) (at : ℕ) (ws vs : List ℕ) (at' n' : ℕ) → (at' + n' ≤ at) ⊎ (at + total ws ≤ at') → field_at (puts_at s at ws vs) at' n' ≡ field_at s at' n'
unfolding puts_at
field_puts_other s at [] vs at' n' o = refl
field_puts_other s at (w ∷ ws) [] at' n' o = refl
field_puts_other s at (w ∷ ws) (v ∷ vs) at' n' (inl h) =
    field_puts_other (put_at s at w v) (at + w) ws vs at' n' (inl (omega arith)) ∙ field_put_other s at w v at' n' (inl h)
field_puts_other s at (w ∷ ws) (v ∷ vs) at' n' (inr h) =
    field_puts_other (put_at s at w v) (at + w) ws vs at' n' (inr (omega arith)) ∙ field_put_other s at w v at' n' (inr (omega arith))

-- the row read back
pub fields_puts : (s : List ℕ) (at : ℕ) (ws vs : List ℕ) → at + total ws ≤ 8 * length s → Within ws vs → fields_at (puts_at s at ws vs) at ws ≡ vs
unfolding puts_at
fields_puts s at [] [] l f = refl
fields_puts s at [] (v ∷ vs) l f = elim f [ ]
fields_puts s at (w ∷ ws) [] l f = elim f [ ]
fields_puts s at (w ∷ ws) (v ∷ vs) l f =
    ap₂ (λ (x : ℕ) (xs : List ℕ). x ∷ xs)
    (field_puts_other (put_at s at w v) (at + w) ws vs at w (inl (omega arith)) ∙ field_put s at w v (omega arith) ∙ mod-eq_of_lt f.0)
    (fields_puts (put_at s at w v) (at + w) ws vs (omega (arith, length_put s at w v)) f.1)

-- a row before or after the row is as it was
pub fields_puts_other : (s : List ℕ) (at : ℕ) (ws vs : List ℕ) (at' : ℕ) (ws' : List ℕ) → (at' + total ws' ≤ at) ⊎ (at + total ws ≤ at') → fields_at (puts_at s at ws vs) at' ws' ≡ fields_at s at' ws'
fields_puts_other s at ws vs at' [] o = refl
fields_puts_other s at ws vs at' (w ∷ ws') (inl h) =
    ap₂ (λ (x : ℕ) (xs : List ℕ). x ∷ xs) (field_puts_other s at ws vs at' w (inl (omega arith))) (fields_puts_other s at ws vs (at' + w) ws' (inl (omega arith)))
fields_puts_other s at ws vs at' (w ∷ ws') (inr h) =
    ap₂ (λ (x : ℕ) (xs : List ℕ). x ∷ xs) (field_puts_other s at ws vs at' w (inr h)) (fields_puts_other s at ws vs (at' + w) ws' (inr (omega arith)))

-- ---- n records of one layout in a row
pub length_put_rows : (s : List ℕ) (at : ℕ) (ws : List ℕ) (f : ℕ → List ℕ) (n : ℕ) → length (put_rows s at ws f n) ≡ length s
unfolding put_rows
length_put_rows s at ws f zero = refl
length_put_rows s at ws f (suc n) = length_puts _ _ ws (f n) ∙ length_put_rows s at ws f n

pub rows_step : (s : List ℕ) (at : ℕ) (ws : List ℕ) (f : ℕ → List ℕ) (n : ℕ) → put_rows s at ws f (n + 1) ≡ puts_at (put_rows s at ws f n) (at + total ws * n) ws (f n)
unfolding put_rows
rows_step s at ws f n = rw (add-one n)

-- record i read back
pub rows_back : (s : List ℕ) (at : ℕ) (ws : List ℕ) (f : ℕ → List ℕ) (n : ℕ) → at + total ws * n ≤ 8 * length s → (i : ℕ) → i < n → Within ws (f i) → fields_at (put_rows s at ws f n) (at + total ws * i) ws ≡ f i
unfolding put_rows
rows_back s at ws f zero l i h w = absurd (not-suc-le-zero h)
rows_back s at ws f (suc n) l i h w =
    let m : total ws * suc n ≡ total ws * n + total ws = mul-suc (total ws) n in
    ⊎_elim
    (λ (e : i ≡ n). subst (λ (k : ℕ). Within ws (f k) → fields_at (puts_at (put_rows s at ws f n) (at + total ws * n) ws (f n)) (at + total ws * k) ws ≡ f k) (sym e)
    (λ g. fields_puts (put_rows s at ws f n) (at + total ws * n) ws (f n) (omega (arith, length_put_rows s at ws f n)) g) w)
    (λ (lt : i < n).
    let q : total ws * suc i ≤ total ws * n = mul-le-mul_left (total ws) lt in
    fields_puts_other (put_rows s at ws f n) (at + total ws * n) ws (f n) (at + total ws * i) ws (inl (omega (arith, mul-suc (total ws) i)))
    ∙ rows_back s at ws f n (omega arith) i lt w)
    (eq-or-lt_of_le (le_of_suc-le-suc h))

-- a turn of the loop that puts the fields of a row
pub puts_step : (s : List ℕ) (a : ℕ) (ws vs : List ℕ) (i : ℕ) → i < length ws → i < length vs → puts_at s a (drop i ws) (drop i vs) ≡ puts_at (put_at s a (get_or ws i 0) (get_or vs i 0)) (a + get_or ws i 0) (drop (i + 1) ws) (drop (i + 1) vs)
unfolding puts_at
puts_step s a ws vs i l m = rw (add-one i, drop-cons ws i 0 l, drop-cons vs i 0 m)

pub total_step : (ws : List ℕ) (i : ℕ) → i < length ws → total (drop i ws) ≡ get_or ws i 0 + total (drop (i + 1) ws)
total_step ws i l = rw (add-one i, drop-cons ws i 0 l)

pub puts_end : (s : List ℕ) (a : ℕ) (ws vs : List ℕ) (i : ℕ) → length ws ≤ i → puts_at s a (drop i ws) (drop i vs) ≡ s
unfolding puts_at
puts_end s a ws vs i l = rw (drop_of_length-le ws l)

pub rows_none : (s : List ℕ) (at : ℕ) (ws : List ℕ) (f : ℕ → List ℕ) → put_rows s at ws f 0 ≡ s
unfolding put_rows
rows_none s at ws f = refl

-- two rows, one after the other, are one row: a message is one row of fields
pub puts_append : (s : List ℕ) (at : ℕ) (ws vs ws' vs' : List ℕ) → length vs ≡ length ws → puts_at s at (ws ++ ws') (vs ++ vs') ≡ puts_at (puts_at s at ws vs) (at + total ws) ws' vs'
unfolding puts_at
puts_append s at [] [] ws' vs' e = rw (add-zero at)
puts_append s at [] (v ∷ vs) ws' vs' e = absurd (let z : ⊥ = omega arith in z)
puts_append s at (w ∷ ws) [] ws' vs' e = absurd (let z : ⊥ = omega arith in z)
puts_append s at (w ∷ ws) (v ∷ vs) ws' vs' e =
    puts_append (put_at s at w v) (at + w) ws vs ws' vs' (omega arith) ∙ rw (add_assoc at w (total ws))

pub fields_append : (s : List ℕ) (at : ℕ) (ws ws' : List ℕ) → fields_at s at (ws ++ ws') ≡ fields_at s at ws ++ fields_at s (at + total ws) ws'
fields_append s at [] ws' = rw (add-zero at)
fields_append s at (w ∷ ws) ws' = ap (λ (xs : List ℕ). field_at s at w ∷ xs) (fields_append s (at + w) ws ws' ∙ rw (add_assoc at w (total ws)))

-- a row before or after the records is as it was
pub rows_other : (s : List ℕ) (at : ℕ) (ws : List ℕ) (f : ℕ → List ℕ) (n at' : ℕ) (ws' : List ℕ) → (at' + total ws' ≤ at) ⊎ (at + total ws * n ≤ at') → fields_at (put_rows s at ws f n) at' ws' ≡ fields_at s at' ws'
unfolding put_rows
rows_other s at ws f zero at' ws' o = refl
rows_other s at ws f (suc n) at' ws' (inl h) =
    fields_puts_other (put_rows s at ws f n) (at + total ws * n) ws (f n) at' ws' (inl (omega arith)) ∙ rows_other s at ws f n at' ws' (inl h)
rows_other s at ws f (suc n) at' ws' (inr h) =
    let m : total ws * suc n ≡ total ws * n + total ws = mul-suc (total ws) n in
    fields_puts_other (put_rows s at ws f n) (at + total ws * n) ws (f n) at' ws' (inr (omega arith)) ∙ rows_other s at ws f n at' ws' (inr (omega arith))
