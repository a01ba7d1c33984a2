-- What is put between two bits leaves every bit beside them as it was.
use mathlib.Core.Path.{◌≡◌, refl, ap₂, ◌∙◌}
use mathlib.Core.Logic.{◌⊎◌, inl, inr}
use mathlib.Core.Bool.{Bool, true, false}
use mathlib.Core.List.{List, [], ◌∷◌}
use Prim.Native.Nat.{ℕ, zero, suc, ◌+◌, ◌*◌, ◌≤◌, ◌<◌}
use lib.ListN.{length}
use native.Mathlib.Nat.{mul-suc}
use native.Mathlib.Omega.{arith}
use Rattle.bits.specs.Pick.{pick}
use Rattle.bits.specs.Bits.{bit_at, field_at, put_at, fields_at, puts_at, put_rows, total}
use Rattle.bits.proofs.PutLaws.{bit_put_out, length_put, field_ext}

-- t is s but for the bits from lo up to hi
pub record Beside (lo hi : ℕ) (s t : List ℕ) : Type 0 where
  pub long : length t ≡ length s
  pub out : (j : ℕ) → (j < lo) ⊎ (hi ≤ j) → bit_at t j ≡ bit_at s j

pub beside_same : (lo hi : ℕ) (s : List ℕ) → Beside lo hi s s
beside_same lo hi s = record { long = refl; out = λ j o. refl }

pub beside_then : (lo hi : ℕ) (s t u : List ℕ) → Beside lo hi s t → Beside lo hi t u → Beside lo hi s u
beside_then lo hi s t u p q = record { long = q.long ∙ p.long; out = λ j o. q.out j o ∙ p.out j o }

widen : (lo hi lo' hi' j : ℕ) → lo' ≤ lo → hi ≤ hi' → (j < lo') ⊎ (hi' ≤ j) → (j < lo) ⊎ (hi ≤ j)
widen lo hi lo' hi' j l h (inl o) = inl (omega arith)
widen lo hi lo' hi' j l h (inr o) = inr (omega arith)

pub beside_wide : (lo hi lo' hi' : ℕ) (s t : List ℕ) → lo' ≤ lo → hi ≤ hi' → Beside lo hi s t → Beside lo' hi' s t
beside_wide lo hi lo' hi' s t l h p = record { long = p.long; out = λ j o. p.out j (widen lo hi lo' hi' j l h o) }

pub beside_pick : (lo hi : ℕ) (b : Bool) (s t u : List ℕ) → Beside lo hi s t → Beside lo hi s u → Beside lo hi s (pick b t u)
beside_pick lo hi true s t u p q = p
beside_pick lo hi false s t u p q = q

-- ---- a field, a row of fields, a row of records
apart : (at n j k : ℕ) → k < n → (j < at) ⊎ (at + n ≤ j) → at + k ≡ j → ⊥
apart at n j k h (inl o) e = omega arith
apart at n j k h (inr o) e = omega arith

pub put_beside : (s : List ℕ) (at n v : ℕ) → Beside at (at + n) s (put_at s at n v)
put_beside s at n v =
    record { long = length_put s at n v; out = λ j o. bit_put_out s at n v j (λ k h. apart at n j k h o) }

pub puts_beside : (s : List ℕ) (at : ℕ) (ws vs : List ℕ) → Beside at (at + total ws) s (puts_at s at ws vs)
unfolding puts_at
puts_beside s at [] vs = beside_same at (at + 0) s
puts_beside s at (w ∷ ws) [] = beside_same at (at + (w + total ws)) s
puts_beside s at (w ∷ ws) (v ∷ vs) =
    let t = put_at s at w v in
    beside_then at (at + (w + total ws)) s t (puts_at t (at + w) ws vs)
    (beside_wide at (at + w) at (at + (w + total ws)) s t (omega arith) (omega arith) (put_beside s at w v))
    (beside_wide (at + w) (at + w + total ws) at (at + (w + total ws)) t (puts_at t (at + w) ws vs) (omega arith) (omega arith) (puts_beside t (at + w) ws vs))

pub rows_beside : (s : List ℕ) (at : ℕ) (ws : List ℕ) (f : ℕ → List ℕ) (n : ℕ) → Beside at (at + total ws * n) s (put_rows s at ws f n)
unfolding put_rows
rows_beside s at ws f zero = beside_same at (at + total ws * 0) s
rows_beside s at ws f (suc n) =
    let m : total ws * suc n ≡ total ws * n + total ws = mul-suc (total ws) n in
    let t = put_rows s at ws f n in
    beside_then at (at + total ws * suc n) s t (puts_at t (at + total ws * n) ws (f n))
    (beside_wide at (at + total ws * n) at (at + total ws * suc n) s t (omega arith) (omega arith) (rows_beside s at ws f n))
    (beside_wide (at + total ws * n) (at + total ws * n + total ws) at (at + total ws * suc n) t (puts_at t (at + total ws * n) ws (f n)) (omega arith) (omega arith) (puts_beside t (at + total ws * n) ws (f n)))

-- a head and the records after it
pub part_beside : (s : List ℕ) (at from hi : ℕ) (hs vs ws : List ℕ) (f : ℕ → List ℕ) (n : ℕ) → from ≡ at + total hs → hi ≡ from + total ws * n → Beside at hi s (put_rows (puts_at s at hs vs) from ws f n)
part_beside s at from hi hs vs ws f n b e =
    let p = puts_at s at hs vs in
    beside_then at hi s p (put_rows p from ws f n)
    (beside_wide at (at + total hs) at hi s p (omega arith) (omega arith) (puts_beside s at hs vs))
    (beside_wide from (from + total ws * n) at hi p (put_rows p from ws f n) (omega arith) (omega arith) (rows_beside p from ws f n))

-- ---- what is read beside it
within : (a w lo hi k : ℕ) → k < w → (a + w ≤ lo) ⊎ (hi ≤ a) → (a + k < lo) ⊎ (hi ≤ a + k)
within a w lo hi k h (inl o) = inl (omega arith)
within a w lo hi k h (inr o) = inr (omega arith)

pub beside_field : (lo hi : ℕ) (s t : List ℕ) (a w : ℕ) → Beside lo hi s t → (a + w ≤ lo) ⊎ (hi ≤ a) → field_at t a w ≡ field_at s a w
beside_field lo hi s t a w p o = field_ext t s a w (λ k h. p.out (a + k) (within a w lo hi k h o))

pub beside_fields : (lo hi : ℕ) (s t : List ℕ) (at : ℕ) (ws : List ℕ) → Beside lo hi s t → at + total ws ≤ lo → fields_at t at ws ≡ fields_at s at ws
beside_fields lo hi s t at [] p h = refl
beside_fields lo hi s t at (w ∷ ws) p h =
    ap₂ (λ (x : ℕ) (xs : List ℕ). x ∷ xs) (beside_field lo hi s t at w p (inl (omega arith))) (beside_fields lo hi s t (at + w) ws p (omega arith))
