-- A frame passes the parity check exactly if its last 81 symbols are a parity of the first 81.
use Prim.Native.Nat.{ℕ, zero, suc, ◌+◌, ◌-◌, ◌*◌, ◌<◌, ◌≤◌}
use mathlib.Core.Path.{◌≡◌, refl, sym, ap, ap₂, ◌∙◌, subst}
use mathlib.Core.Bool.{true}
use mathlib.Core.Logic.{⊎_elim, dite}
use mathlib.Core.List.{List, [], ◌∷◌, ◌++◌}
use native.Mathlib.Decide.{dec_lt}
use native.Mathlib.Nat.{eq-or-lt_of_le}
use native.Mathlib.Omega.{arith}
use borrow.Author.Tests.{eq-eqb, eqb-true}
use lib.Dec.{T, eqb, ltb, ltb→lt}
use lib.ListN.{get_or, length, get_or-append}
use lib.Seq.{get_or-append-add}
use lib.Bits.{bit_xor}
use Rattle.bits.proofs.FieldLaws.{field_lt}
use Rattle.bits.proofs.TableLaws.{length_table, get_or_table}
use Rattle.bits.proofs.TestLaws.{both_hold}
use Rattle.bits.proofs.Below.{both_left, both_right}
use Rattle.field64.specs.Field.{product}
use Rattle.parity_tables.specs.Tables.{positions, factors}
use Rattle.parity.specs.Parity.{symbol_of, row_sum, zero_from, parity_ok}
use Rattle.one_parity.specs.OneParity.{group_sum, IsParity, symbols_from, PassesBy}
use Rattle.one_parity.proofs.GroupLaws.{small, all_small}
use Rattle.one_parity.proofs.EachHasOne.{each_has_one}

-- message and parity symbols
abbrev word : List ℕ → List ℕ
word s = symbols_from s 0 81 ++ symbols_from s 81 81

symbols_at : (s : List ℕ) (i n j : ℕ) → j < n → get_or (symbols_from s i n) j 0 ≡ symbol_of s (i + j)
symbols_at s i n j h = get_or_table (λ (j : ℕ). symbol_of s (i + j)) n j 0 h

symbols_length : (s : List ℕ) (i n : ℕ) → length (symbols_from s i n) ≡ n
symbols_length s i n = length_table (λ (j : ℕ). symbol_of s (i + j)) n

word_at : (s : List ℕ) (p : ℕ) → p < 162 → get_or (word s) p 0 ≡ symbol_of s p
word_at s p h =
    let e : length (symbols_from s 0 81) ≡ 81 = symbols_length s 0 81 in
    dite (dec_lt p 81)
    (λ l.
    let q : 0 + p ≡ p = omega arith in
    get_or-append (symbols_from s 0 81) (symbols_from s 81 81) 0 p (omega arith) ∙ symbols_at s 0 81 p l ∙ ap (symbol_of s) q)
    (λ l.
    let q : p ≡ length (symbols_from s 0 81) + (p - 81) = omega arith in
    let r : 81 + (p - 81) ≡ p = omega arith in
    ap (λ (j : ℕ). get_or (word s) j 0) q ∙ get_or-append-add (symbols_from s 0 81) (symbols_from s 81 81) (p - 81) 0
    ∙ symbols_at s 81 81 (p - 81) (omega arith) ∙ ap (symbol_of s) r)

-- a group's sum in the frame is that over its symbols
row_word : (s ps fs : List ℕ) → T (small ps) → row_sum s ps fs ≡ group_sum (word s) ps fs
unfolding row_sum group_sum small
row_word s [] fs t = refl
row_word s (p ∷ ps) [] t = refl
row_word s (p ∷ ps) (f ∷ fs) t =
    ap₂ bit_xor (ap (product f) (sym (word_at s p (ltb→lt p 162 (both_left (ltb p 162) (small ps) t)))))
    (row_word s ps fs (both_right (ltb p 162) (small ps) t))

-- ---- zero in each group
abbrev sum : List ℕ → ℕ → ℕ
sum s g = row_sum s (get_or positions g []) (get_or factors g [])

zero_at : (s : List ℕ) (n g k : ℕ) → zero_from s g n ≡ true → g ≤ k → k < g + n → sum s k ≡ 0
unfolding zero_from
zero_at s zero g k t a b = absurd (let z : ⊥ = omega arith in z)
zero_at s (suc n) g k t a b =
    let w = both_hold (eqb (sum s g) 0) (zero_from s (g + 1) n) t in
    ⊎_elim (λ q. subst (λ (j : ℕ). sum s j ≡ 0) q (eqb-true (sum s g) 0 w.0))
    (λ l. zero_at s n (g + 1) k w.1 (omega arith) (omega arith)) (eq-or-lt_of_le a)

zero_all : (s : List ℕ) (n g : ℕ) → ((k : ℕ) → g ≤ k → k < g + n → sum s k ≡ 0) → zero_from s g n ≡ true
unfolding zero_from
zero_all s zero g h = refl
zero_all s (suc n) g h = rw (eq-eqb (sum s g) 0 (h g (omega arith) (omega arith))) (zero_all s n (g + 1) (λ k a b. h k (omega arith) (omega arith)))

symbol_lt : (s : List ℕ) (k : ℕ) → symbol_of s k < 64
unfolding symbol_of
symbol_lt s k = field_lt s (28 + 6 * k) 6

-- the check of a frame and the parity of its message
pub passes_by : (s : List ℕ) → PassesBy s
unfolding parity_ok
passes_by s = record {
  to = λ t. record {
    long = symbols_length s 81 81;
    six = λ i h. rw (symbols_at s 81 81 i h) (symbol_lt s (81 + i));
    zero = λ g h. sym (row_word s _ _ (all_small g h)) ∙ zero_at s 81 0 g t (omega arith) (omega arith);
  };
  back = λ p. zero_all s 81 0 (λ k a b. row_word s _ _ (all_small k (omega arith)) ∙ p.zero k (omega arith));
}

-- so frames that pass with the same message symbols have the same parity symbols
pub same_parity : (s t : List ℕ) → parity_ok s ≡ true → parity_ok t ≡ true
    → symbols_from s 0 81 ≡ symbols_from t 0 81 → symbols_from s 81 81 ≡ symbols_from t 81 81
same_parity s t p q e =
    let O = each_has_one (symbols_from t 0 81) (symbols_length t 0 81) in
    O.only _ (subst (λ (m : List ℕ). IsParity m (symbols_from s 81 81)) e ((passes_by s).to p)) ∙ sym (O.only _ ((passes_by t).to q))
