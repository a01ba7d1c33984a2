-- The symbols taken out four at a time, and a group's sum by their logarithms.
use Rattle.std.proofs.Common.{◌≡◌, ℕ, ◌+◌, ◌*◌, ◌/◌, ◌%◌, ◌^◌, ◌<◌, Bool, true, not, T, eqb, ltb, List, [], ◌∷◌, ◌++◌, length, get_or, drop, replicate, sym, refl, ap, ◌∙◌, subst, ap₂, arith, ltb→lt}
use mathlib.Core.Logic.{◌⊎◌, inl, inr}
use lib.Bits.{bit_xor, xor_zero_r}
use lib.ListN.{get_or-append}
use Rattle.bits.specs.Bits.{field_at}
use Rattle.bits.specs.Table.{table}
use Rattle.bits.proofs.Below.{all, both, both_left, both_right, below}
use Rattle.bits.proofs.WindowLaws.{field_part}
use Rattle.bits.proofs.TableLaws.{length_table, get_or_table, fill_step}
use Rattle.bits.proofs.XorLaws.{xor_assoc}
use Rattle.field64.specs.Padded.{pad_log, pad_logs, pad_powers}
use Rattle.field64.proofs.PaddedLaws.{padded}
use Rattle.parity.specs.Parity.{symbol_of, row_sum, group_fails}
use Rattle.parity_tables.specs.Tables.{positions, factors}
use Rattle.parity.specs.Unpacked.{symbol_log, symbol_logs, term_by, row_by, fails_by_logs}

-- symbol 4 q + i stands 22 - 6 i bits from the end of the 32 bits from byte 3 + 3 q on
pub symbol_part : (s : List ℕ) (q a k n w : ℕ) → a + 6 + k ≡ 32 → 8 * (3 + 3 * q) + a ≡ 28 + 6 * n → w ≡ field_at s (8 * (3 + 3 * q)) 32 → pad_log (w / 2 ^ k % 64) ≡ symbol_log s n
unfolding symbol_log symbol_of
symbol_part s q a k n w e f g =
    ap pad_log (
    ap (λ (x : ℕ). x / 2 ^ k % 64) (g ∙ ap (field_at s (8 * (3 + 3 * q))) (sym e))
    ∙ field_part s (8 * (3 + 3 * q)) a 6 k
    ∙ ap (λ (i : ℕ). field_at s i 6) f)

-- four more stored
pub fill_four : (f : ℕ → ℕ) (q : ℕ) (d out : List ℕ) (x₀ x₁ x₂ x₃ : ℕ) → 4 * q + 3 < length d → out ≡ table f (4 * q) ++ drop (4 * q) d
    → x₀ ≡ f (4 * q) → x₁ ≡ f (4 * q + 1) → x₂ ≡ f (4 * q + 2) → x₃ ≡ f (4 * q + 3)
    → lib.ListN.set (lib.ListN.set (lib.ListN.set (lib.ListN.set out (4 * q) x₀) (4 * q + 1) x₁) (4 * q + 2) x₂) (4 * q + 3) x₃ ≡ table f (4 * (q + 1)) ++ drop (4 * (q + 1)) d
fill_four f q d out x₀ x₁ x₂ x₃ l e e₀ e₁ e₂ e₃ =
    let n = 4 * q in
    let at : (k m : ℕ) (o : List ℕ) → k ≡ m → o ≡ table f k ++ drop k d → o ≡ table f m ++ drop m d = λ k m o q. subst (λ (x : ℕ). o ≡ table f x ++ drop x d) q in
    let s₀ = at (n + 1) (n + 1) _ refl (fill_step f n d out x₀ 0 (omega arith) e e₀) in
    let s₁ = at (n + 1 + 1) (n + 2) _ (omega arith) (fill_step f (n + 1) d _ x₁ 0 (omega arith) s₀ e₁) in
    let s₂ = at (n + 2 + 1) (n + 3) _ (omega arith) (fill_step f (n + 2) d _ x₂ 0 (omega arith) s₁ e₂) in
    at (n + 3 + 1) (4 * (q + 1)) _ (omega arith) (fill_step f (n + 3) d _ x₃ 0 (omega arith) s₂ e₃)

-- all stored
pub fours_done : (s d out : List ℕ) (q : ℕ) → q ≡ 41 → d ≡ replicate 256 0 → out ≡ table (symbol_log s) (4 * q) ++ drop (4 * q) d → out ≡ symbol_logs s
unfolding symbol_logs
fours_done s d out q e f g = g ∙ ap₂ (λ (n : ℕ) (x : List ℕ). table (symbol_log s) (4 * n) ++ drop (4 * n) x) e f

-- one term more of a group, and none left
pub row_by_step : (log exp ls : List ℕ) (r : ℕ) {p f : ℕ} {ps fs qs gs : List ℕ} → ps ≡ p ∷ qs → fs ≡ f ∷ gs
    → bit_xor (bit_xor r (term_by log exp ls p f)) (row_by log exp ls qs gs) ≡ bit_xor r (row_by log exp ls ps fs)
unfolding row_by
row_by_step log exp ls r {p} {f} {qs = qs} {gs = gs} h l = rw (h, l) (xor_assoc r (term_by log exp ls p f) (row_by log exp ls qs gs))

pub row_by_end : (log exp ls : List ℕ) (r : ℕ) (ps fs : List ℕ) → (ps ≡ []) ⊎ (fs ≡ []) → r ≡ bit_xor r (row_by log exp ls ps fs)
unfolding row_by
row_by_end log exp ls r ps fs o = sym (rw (none o) (xor_zero_r r))
  where
    nought : (qs : List ℕ) → row_by log exp ls qs [] ≡ 0
    nought [] = refl
    nought (q ∷ qs) = refl

    none : (ps ≡ []) ⊎ (fs ≡ []) → row_by log exp ls ps fs ≡ 0
    none (inl e) = rw e refl
    none (inr e) = rw e (nought ps)

-- the logarithm at a position
log_at : (s : List ℕ) (k : ℕ) → k < 164 → get_or (symbol_logs s) k 0 ≡ pad_log (symbol_of s k)
unfolding symbol_logs symbol_log
log_at s k h =
    get_or-append (table (symbol_log s) 164) (replicate 92 0) 0 k (rw (length_table (symbol_log s) 164) h)
    ∙ get_or_table (symbol_log s) 164 k 0 h

-- positions within the symbols and factors within a byte, by one test over the groups
fitting : List ℕ → List ℕ → Bool
fitting [] fs = true
fitting (p ∷ ps) [] = true
fitting (p ∷ ps) (f ∷ fs) = both (both (ltb p 164) (ltb f 256)) (fitting ps fs)

fits : ℕ → Bool
fits g = fitting (get_or positions g []) (get_or factors g [])

test : T (all fits 81)
unfolding fits fitting positions factors
test = tt

-- the sum by logarithms is the sum of products
row_by_lem : (s ps fs : List ℕ) → T (fitting ps fs) → row_by pad_logs pad_powers (symbol_logs s) ps fs ≡ row_sum s ps fs
unfolding row_by row_sum fitting term_by
row_by_lem s [] fs t = refl
row_by_lem s (p ∷ ps) [] t = refl
row_by_lem s (p ∷ ps) (f ∷ fs) t =
    let h = both_left (both (ltb p 164) (ltb f 256)) (fitting ps fs) t in
    ap₂ bit_xor
    (padded f (symbol_of s p) (get_or (symbol_logs s) p 0) (ltb→lt f 256 (both_right (ltb p 164) (ltb f 256) h)) (log_at s p (ltb→lt p 164 (both_left (ltb p 164) (ltb f 256) h))))
    (row_by_lem s ps fs (both_right (both (ltb p 164) (ltb f 256)) (fitting ps fs) t))

-- so a group fails by logarithms where it fails
pub fails_by : (s : List ℕ) (g : ℕ) → g < 81 → fails_by_logs (symbol_logs s) g ≡ group_fails s g
unfolding fails_by_logs group_fails fits
fails_by s g h = ap (λ (x : ℕ). not (eqb x 0)) (row_by_lem s (get_or positions g []) (get_or factors g []) (below fits 81 test g h))
