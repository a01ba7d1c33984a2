-- Laws of the forms: their lengths, and the parts one after the other.
use mathlib.Core.Path.{◌≡◌, refl, sym, ap, ◌∙◌}
use Prim.Native.Nat.{ℕ, ◌*◌}
use mathlib.Core.List.{List, ◌++◌}
use lib.ListN.{length, length-append}
use native.Mathlib.Omega.{arith}
use Rattle.bits.specs.Bytes.{store_at, row_at}
use Rattle.bits.proofs.ByteLaws.{length_row, bytes_whole}
use Rattle.biases.specs.declared.BiasSat.{BiasSat}
use Rattle.biases.specs.declared.Bias.{Bias}
use Rattle.biases.specs.declared.BiasPart.{BiasPart}
use Rattle.ura_codes.specs.declared.CodePart.{CodePart}
use Rattle.flat_numbers.specs.Rows.{rows_to}
use Rattle.flat_numbers.proofs.StoreLaws.{store_two}
use Rattle.flat_numbers.proofs.RowLaws.{length_rows}
use Rattle.flat_biases.specs.Biases.{flat_sat_row, flat_bias_row, flat_bias_head, biases_bytes}
use Rattle.flat_biases.specs.Codes.{flat_code_head, codes_bytes}

-- ---- lengths
length_sats : (rs : List BiasSat) (n : ℕ) → length (rows_to (flat_sat_row rs) n) ≡ 3 * n
length_sats rs n = length_rows (flat_sat_row rs) 3 (λ i. refl) n

length_biases : (bs : List Bias) (n : ℕ) → length (rows_to (flat_bias_row bs) n) ≡ 3 * n
length_biases bs n = length_rows (flat_bias_row bs) 3 (λ i. refl) n

pub sats_long : (rs : List BiasSat) → length (rows_to (flat_sat_row rs) 31) ≡ 93
sats_long rs = length_sats rs 31 ∙ omega arith

pub biases_long : (p : BiasPart) → length (biases_bytes p) ≡ 174
unfolding biases_bytes
biases_long p =
    let rs = rows_to (flat_sat_row p.sats) 31 in
    let bs = rows_to (flat_bias_row p.biases) 25 in
    length-append (flat_bias_head p.epoch p.ssr p.count) (rs ++ bs)
    ∙ omega (arith, length-append rs bs, sats_long p.sats, length_biases p.biases 25)

pub codes_long : (u : CodePart) → length (codes_bytes u) ≡ 77
unfolding codes_bytes
codes_long u =
    length-append (flat_code_head u.epoch u.ssr u.iodp u.sub) (row_at u.codes 0 70) ∙ omega (arith, length_row u.codes 0 70)

-- ---- the parts one after the other
pub biases_three : (s : List ℕ) (p : BiasPart)
    → store_at (store_at (store_at s 265 (flat_bias_head p.epoch p.ssr p.count)) 271 (rows_to (flat_sat_row p.sats) 31)) 364 (rows_to (flat_bias_row p.biases) 25)
    ≡ store_at s 265 (biases_bytes p)
unfolding biases_bytes
biases_three s p =
    let head = flat_bias_head p.epoch p.ssr p.count in
    let rs = rows_to (flat_sat_row p.sats) 31 in
    let bs = rows_to (flat_bias_row p.biases) 25 in
    store_two (store_at s 265 head) 271 364 rs bs (omega (arith, sats_long p.sats)) ∙ store_two s 265 271 head (rs ++ bs) refl

pub codes_two : (s : List ℕ) (u : CodePart) → length u.codes ≡ 70
    → store_at (store_at s 439 (flat_code_head u.epoch u.ssr u.iodp u.sub)) 446 u.codes ≡ store_at s 439 (codes_bytes u)
unfolding codes_bytes
codes_two s u long =
    let head = flat_code_head u.epoch u.ssr u.iodp u.sub in
    ap (store_at (store_at s 439 head) 446) (sym (bytes_whole u.codes 70 long)) ∙ store_two s 439 446 head (row_at u.codes 0 70) refl

pub last_two : (s : List ℕ) (p : BiasPart) (u : CodePart) → store_at (store_at s 265 (biases_bytes p)) 439 (codes_bytes u) ≡ store_at s 265 (biases_bytes p ++ codes_bytes u)
last_two s p u = store_two s 265 439 (biases_bytes p) (codes_bytes u) (omega (arith, biases_long p))
