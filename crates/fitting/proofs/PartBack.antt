-- A head and records after it are read back as they were put, whatever is put after them.
use mathlib.Core.Path.{◌≡◌, ap, ◌∙◌}
use mathlib.Core.List.{List}
use Prim.Native.Nat.{ℕ, suc, ◌+◌, ◌*◌, ◌≤◌, ◌<◌}
use lib.ListN.{length}
use native.Mathlib.Nat.{mul-suc, mul-le-mul_left}
use native.Mathlib.Omega.{arith}
use Rattle.bits.specs.Bits.{fields_at, puts_at, put_rows, total, Within}
use Rattle.bits.proofs.RowLaws.{fields_puts, rows_back, length_puts}
use Rattle.fitting.proofs.BesideLaws.{Beside, rows_beside, beside_fields}

-- ---- a head and n records of one layout after it, in u; and t, which is u but for the bits from lo to hi
module _ (s t u : List ℕ) (at from lo hi : ℕ) (hs vs ws : List ℕ) (f : ℕ → List ℕ) (n : ℕ) (begin : from ≡ at + total hs) (end : lo ≡ from + total ws * n) (room : lo ≤ 8 * length s) (made : u ≡ put_rows (puts_at s at hs vs) from ws f n) (kept : Beside lo hi u t) where
  put : List ℕ
  put = puts_at s at hs vs

  rows : List ℕ
  rows = put_rows put from ws f n

  pub head_back : Within hs vs → fields_at t at hs ≡ vs
  unfolding put rows
  head_back w =
      beside_fields lo hi u t at hs kept (omega arith)
      ∙ ap (λ (x : List ℕ). fields_at x at hs) made
      ∙ beside_fields from (from + total ws * n) put rows at hs (rows_beside put from ws f n) (omega arith)
      ∙ fields_puts s at hs vs (omega arith) w

  pub row_back : (i : ℕ) → i < n → Within ws (f i) → fields_at t (from + total ws * i) ws ≡ f i
  unfolding put rows
  row_back i h w =
      let m : total ws * suc i ≤ total ws * n = mul-le-mul_left (total ws) h in
      beside_fields lo hi u t (from + total ws * i) ws kept (omega (arith, mul-suc (total ws) i))
      ∙ ap (λ (x : List ℕ). fields_at x (from + total ws * i) ws) made
      ∙ rows_back put from ws f n (omega (arith, length_puts s at hs vs)) i h w
