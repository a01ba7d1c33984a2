-- Bits that are those of a message, or 0: kept by what puts fields that say what the message says there, or 0.
use mathlib.Core.Path.{◌≡◌, ◌∙◌}
use mathlib.Core.Logic.{dite, ◌⊎◌, inl, inr, ⊎_elim}
use mathlib.Core.List.{List, [], ◌∷◌}
use Prim.Native.Nat.{ℕ, zero, suc, ◌+◌, ◌*◌, ◌/◌, ◌%◌, ◌≤◌, ◌<◌}
use lib.ListN.{length}
use lib.Seq.{set_out}
use native.Mathlib.Decide.{ℕ_discrete, dec_lt}
use native.Mathlib.Omega.{arith}
use Rattle.bits.specs.Bits.{bit_at, field_at, set_bit, put_at, puts_at, put_rows, total}
use Rattle.bits.proofs.FieldLaws.{bit_lt}
use Rattle.bits.proofs.PutLaws.{bit_set_same, bit_set_other}
use Rattle.written_back.proofs.ReadSaid.{Said}

-- each bit of t is that of s, or 0
abbrev pub Under : List ℕ → List ℕ → Type 0
Under s t = (j : ℕ) → (bit_at t j ≡ bit_at s j) ⊎ (bit_at t j ≡ 0)

set_none : (t : List ℕ) (i b : ℕ) → 8 * length t ≤ i → set_bit t i b ≡ t
unfolding set_bit
set_none t i b h = set_out t (i / 8) _ (omega arith)

under_set : (s t : List ℕ) (i b : ℕ) → b < 2 → (b ≡ bit_at s i) ⊎ (b ≡ 0) → Under s t → Under s (set_bit t i b)
under_set s t i b l o u j =
    dite (ℕ_discrete i j)
    (λ e.
    dite (dec_lt i (8 * length t))
    (λ h.
    let q : bit_at (set_bit t i b) i ≡ b = bit_set_same t i b h l in
    rw (← e) (⊎_elim (λ (a : b ≡ bit_at s i). inl (q ∙ a)) (λ (a : b ≡ 0). inr (q ∙ a)) o))
    (λ n. rw (set_none t i b (omega arith)) (u j)))
    (λ n. rw (bit_set_other t i j b l n) (u j))

-- a field that says what s says there, or 0
pub under_put : (s t : List ℕ) (at n v : ℕ) → (v ≡ field_at s at n) ⊎ (v ≡ 0) → Under s t → Under s (put_at t at n v)
unfolding put_at field_at
under_put s t at zero v o u = u
under_put s t at (suc n) v (inl e) u =
    let b = bit_at s (at + n) in
    let l : b < 2 = bit_lt s (at + n) in
    let m : v % 2 ≡ b = omega arith in
    let h : v / 2 ≡ field_at s at n = omega arith in
    under_put s (set_bit t (at + n) (v % 2)) at n (v / 2) (inl h) (under_set s t (at + n) (v % 2) (omega arith) (inl m) u)
under_put s t at (suc n) v (inr e) u =
    under_put s (set_bit t (at + n) (v % 2)) at n (v / 2) (inr (omega arith)) (under_set s t (at + n) (v % 2) (omega arith) (inr (omega arith)) u)

pub under_puts : (s t : List ℕ) (at : ℕ) (ws vs : List ℕ) → Said s at ws vs → Under s t → Under s (puts_at t at ws vs)
unfolding puts_at
under_puts s t at [] vs h u = u
under_puts s t at (w ∷ ws) [] h u = u
under_puts s t at (w ∷ ws) (v ∷ vs) h u = under_puts s (put_at t at w v) (at + w) ws vs h.1 (under_put s t at w v h.0 u)

pub under_rows : (s t : List ℕ) (at : ℕ) (ws : List ℕ) (f : ℕ → List ℕ) (n : ℕ) → ((i : ℕ) → i < n → Said s (at + total ws * i) ws (f i)) → Under s t → Under s (put_rows t at ws f n)
unfolding put_rows
under_rows s t at ws f zero h u = u
under_rows s t at ws f (suc n) h u =
    under_puts s (put_rows t at ws f n) (at + total ws * n) ws (f n) (h n (omega arith)) (under_rows s t at ws f n (λ i l. h i (omega arith)) u)
