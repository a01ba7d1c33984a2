-- Bytes are what the fields of a row that covers them say: for any row.
use mathlib.Core.Path.{◌≡◌, sym, subst}
use mathlib.Core.Logic.{dite}
use Prim.Native.Nat.{ℕ, zero, suc, ◌+◌, ◌-◌, ◌*◌, ◌^◌, ◌≤◌, ◌<◌}
use mathlib.Core.List.{List, [], ◌∷◌}
use native.Mathlib.Nat.{not-suc-le-zero}
use native.Mathlib.Decide.{dec_lt}
use native.Mathlib.Omega.{arith}
use lib.ListN.{get_or, length}
use Rattle.bits.specs.Bits.{bit_at, field_at, fields_at, puts_at, total, Within}
use Rattle.bits.specs.Bytes.{Bytes}
use Rattle.bits.proofs.FieldLaws.{bit_lt, field_lt}
use Rattle.bits.proofs.RowLaws.{length_puts, fields_puts}
use Rattle.bits.proofs.BytesStay.{puts_bytes, bytes_ext}

-- equal fields have equal bits
field_bits : (s t : List ℕ) (at n : ℕ) → field_at s at n ≡ field_at t at n → (k : ℕ) → k < n → bit_at s (at + k) ≡ bit_at t (at + k)
unfolding field_at
field_bits s t at zero e k h = absurd (not-suc-le-zero h)
field_bits s t at (suc n) e k h =
    let b : bit_at s (at + n) ≡ bit_at t (at + n) = omega (arith, bit_lt s (at + n), bit_lt t (at + n)) in
    let f : field_at s at n ≡ field_at t at n = omega (arith, bit_lt s (at + n), bit_lt t (at + n)) in
    dite (dec_lt k n) (λ l. field_bits s t at n f k l) (λ m. let q : k ≡ n = omega arith in rw q b)

-- and so have equal rows
fields_bits : (s t : List ℕ) (at : ℕ) (ws : List ℕ) → fields_at s at ws ≡ fields_at t at ws
    → (j : ℕ) → at ≤ j → j < at + total ws → bit_at s j ≡ bit_at t j
fields_bits s t at [] e j a b = absurd (let z : ⊥ = omega arith in z)
fields_bits s t at (w ∷ ws) e j a b =
    let here : field_at s at w ≡ field_at t at w = cc in
    let rest : fields_at s (at + w) ws ≡ fields_at t (at + w) ws = cc in
    dite (dec_lt j (at + w))
    (λ l.
    let q : j ≡ at + (j - at) = omega arith in
    subst (λ (x : ℕ). bit_at s x ≡ bit_at t x) (sym q) (field_bits s t at w here (j - at) (omega arith)))
    (λ n. fields_bits s t (at + w) ws rest j (omega arith) (omega arith))

-- the fields of a row are within their widths
pub fields_within : (s : List ℕ) (at : ℕ) (ws : List ℕ) → Within ws (fields_at s at ws)
fields_within s at [] = tt
fields_within s at (w ∷ ws) = (field_lt s at w, fields_within s (at + w) ws)

-- values are within their widths where each is
pub within_all : (ws vs : List ℕ) → length vs ≡ length ws → ((i : ℕ) → i < length ws → get_or vs i 0 < 2 ^ get_or ws i 0) → Within ws vs
within_all [] [] e h = tt
within_all [] (v ∷ vs) e h = absurd (let z : ⊥ = omega arith in z)
within_all (w ∷ ws) [] e h = absurd (let z : ⊥ = omega arith in z)
within_all (w ∷ ws) (v ∷ vs) e h = (h 0 (omega arith), within_all ws vs (omega arith) (λ i l. h (suc i) (omega arith)))

-- the fields of d, put over all of a room as long as d, are d
pub row_back : (z d : List ℕ) (ws : List ℕ) → Bytes z → Bytes d → length z ≡ length d → total ws ≡ 8 * length d → puts_at z 0 ws (fields_at d 0 ws) ≡ d
row_back z d ws hz hd l e =
    let t = puts_at z 0 ws (fields_at d 0 ws) in
    let m : length t ≡ length z = length_puts z 0 ws (fields_at d 0 ws) in
    let f : fields_at t 0 ws ≡ fields_at d 0 ws = fields_puts z 0 ws (fields_at d 0 ws) (omega arith) (fields_within d 0 ws) in
    bytes_ext t d (puts_bytes z 0 ws (fields_at d 0 ws) hz) hd (omega arith)
    (λ j h. fields_bits t d 0 ws f j (omega arith) (omega arith))
