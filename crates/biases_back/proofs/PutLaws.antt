-- Where the part of a type 3 is put: all beside it is left as it was.
use mathlib.Core.Path.{◌≡◌, refl}
use mathlib.Core.List.{List}
use Prim.Native.Nat.{ℕ, zero, suc, ◌+◌, ◌*◌, ◌≤◌}
use lib.ListN.{get_or}
use native.Mathlib.Nat.{add-suc, add-zero}
use native.Mathlib.Omega.{arith}
use Rattle.bits.specs.Bits.{puts_at}
use Rattle.layout.specs.Layout.{part_widths}
use Rattle.biases.specs.Biases.{sat_widths, bias_widths, blank_sat}
use Rattle.biases.specs.declared.BiasSat.{BiasSat}
use Rattle.biases.specs.declared.Bias.{Bias}
use Rattle.biases.specs.declared.BiasPart.{BiasPart}
use Rattle.canonical_biases.specs.Canon.{bias_count}
use Rattle.fitting.proofs.BesideLaws.{Beside, beside_same, beside_then, beside_wide, puts_beside, part_beside}
use Rattle.bias_writing.specs.Put.{sat_vals, bias_row, head_of, sat_put, sat_from, sats_put, biases_put}

-- a satellite and its biases
sat_beside : (s : List ℕ) (at : ℕ) (r : BiasSat) (bs : List Bias) (k : ℕ) → Beside at (at + (13 + 16 * r.count)) s (sat_put s at r bs k)
unfolding sat_put
sat_beside s at r bs k =
    part_beside s at (at + 13) (at + (13 + 16 * r.count)) sat_widths (sat_vals r) bias_widths (λ (i : ℕ). bias_row bs (k + i)) r.count refl (omega arith)

-- satellite i + 1 begins where satellite i and its biases end
pub from_step : (at : ℕ) (rs : List BiasSat) (i : ℕ) → sat_from at rs (suc i) ≡ sat_from at rs i + (13 + 16 * (get_or rs i blank_sat).count)
unfolding bias_count
from_step at rs i = omega arith

pub from_rises : (at : ℕ) (rs : List BiasSat) (i d : ℕ) → sat_from at rs i ≤ sat_from at rs (i + d)
from_rises at rs i zero = rw (add-zero i) (omega arith)
from_rises at rs i (suc d) = rw (add-suc i d) (omega (arith, from_rises at rs i d, from_step at rs (i + d)))

-- those put after satellite i leave all before it as it was
pub sats_later : (s : List ℕ) (at : ℕ) (rs : List BiasSat) (bs : List Bias) (i d : ℕ) → Beside (sat_from at rs i) (sat_from at rs (i + d)) (sats_put s at rs bs i) (sats_put s at rs bs (i + d))
unfolding sats_put
sats_later s at rs bs i zero = rw (add-zero i) (beside_same _ _ _)
sats_later s at rs bs i (suc d) =
    let m = i + d in
    let u = sats_put s at rs bs m in
    let e = from_step at rs m in
    let later : sat_from at rs i ≤ sat_from at rs m = from_rises at rs i d in
    rw (add-suc i d)
    (beside_then (sat_from at rs i) (sat_from at rs (suc m)) (sats_put s at rs bs i) u _
    (beside_wide _ _ (sat_from at rs i) (sat_from at rs (suc m)) _ _ (omega arith) (omega arith) (sats_later s at rs bs i d))
    (beside_wide _ _ (sat_from at rs i) (sat_from at rs (suc m)) _ _ later (omega arith) (sat_beside u (sat_from at rs m) (get_or rs m blank_sat) bs (bias_count rs m))))

-- the head and all satellites
pub biases_beside : (s : List ℕ) (at : ℕ) (p : BiasPart) → Beside at (sat_from (at + 28) p.sats p.count) s (biases_put s at p)
unfolding biases_put bias_count sats_put
biases_beside s at p =
    let hi = sat_from (at + 28) p.sats p.count in
    let h = puts_at s at (part_widths 0 5) (head_of p) in
    let e : 0 + p.count ≡ p.count = omega arith in
    beside_then at hi s h _
    (beside_wide at (at + 28) at hi s h (omega arith) (omega arith) (puts_beside s at (part_widths 0 5) (head_of p)))
    (beside_wide _ hi at hi h _ (omega arith) (omega arith) (rw e at (sats_later h (at + 28) p.sats p.biases 0 p.count)))
