-- Bytes stay bytes, whatever bits are put into them, and are equal where their bits are.
use mathlib.Core.Path.{◌≡◌, sym, ◌∙◌}
use mathlib.Core.Logic.{dite}
use Prim.Native.Nat.{ℕ, zero, suc, ◌+◌, ◌-◌, ◌*◌, ◌/◌, ◌%◌, ◌<◌}
use mathlib.Core.List.{List, [], ◌∷◌}
use native.Mathlib.Decide.{dec_lt, ℕ_discrete}
use native.Mathlib.Omega.{arith}
use lib.Dec.{lit<}
use lib.ListN.{get_or, set, length, replicate}
use lib.Seq.{ext_get_or, get_or-set_same, get_or-set_other, set_out}
use Rattle.bits.specs.Bits.{bit_at, set_bit, put_at, puts_at}
use Rattle.bits.specs.Bytes.{Bytes}
use Rattle.bits.proofs.PutLaws.{byte_lt, field_ext}
use Rattle.bits.proofs.WindowLaws.{byte_field}

set_bytes : (s : List ℕ) (i v : ℕ) → Bytes s → v < 256 → Bytes (set s i v)
set_bytes s i v b h j =
    dite (dec_lt i (length s))
    (λ l. dite (ℕ_discrete j i) (λ e. rw (e, get_or-set_same s i v 0 l) h) (λ n. rw (get_or-set_other s i j v 0 n) (b j)))
    (λ n. rw (set_out s i v (omega arith)) (b j))

put_bytes : (s : List ℕ) (at n v : ℕ) → Bytes s → Bytes (put_at s at n v)
unfolding put_at set_bit
put_bytes s at zero v h = h
put_bytes s at (suc n) v h =
    let i = at + n in
    put_bytes (set_bit s i (v % 2)) at n (v / 2)
    (set_bytes s (i / 8) _ h (byte_lt (get_or s (i / 8) 0) (7 - i % 8) (v % 2) (h (i / 8)) (omega arith) (omega arith)))

-- a row put into bytes
pub puts_bytes : (s : List ℕ) (at : ℕ) (ws vs : List ℕ) → Bytes s → Bytes (puts_at s at ws vs)
unfolding puts_at
puts_bytes s at [] vs h = h
puts_bytes s at (w ∷ ws) [] h = h
puts_bytes s at (w ∷ ws) (v ∷ vs) h = puts_bytes (put_at s at w v) (at + w) ws vs (put_bytes s at w v h)

-- zeros are bytes
pub zero_bytes : (n : ℕ) → Bytes (replicate n 0)
zero_bytes zero j = lit< tt
zero_bytes (suc n) zero = lit< tt
zero_bytes (suc n) (suc j) = zero_bytes n j

-- bytes of equal bits are equal
pub bytes_ext : (s t : List ℕ) → Bytes s → Bytes t → length s ≡ length t → ((j : ℕ) → j < 8 * length s → bit_at s j ≡ bit_at t j) → s ≡ t
bytes_ext s t hs ht l e =
    ext_get_or 0 s t l
    (λ j h. sym (byte_field s j (hs j)) ∙ field_ext s t (8 * j) 8 (λ k g. e (8 * j + k) (omega arith)) ∙ byte_field t j (ht j))
