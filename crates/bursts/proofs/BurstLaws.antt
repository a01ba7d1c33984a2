-- A run of errors is caught, of the check alone: n bits from bit `at` on with the 24 check bits after them, for any n and any `at`.
use mathlib.Core.Path.{◌≡◌, refl, sym, ap, ap₂, ◌∙◌}
use mathlib.Core.Logic.{◌≢◌, ◌⊎◌, inl, inr, dite}
use mathlib.Core.Bool.{Bool, true, false}
use mathlib.Core.List.{List, ◌++◌}
use Prim.Native.Nat.{ℕ, ◌+◌, ◌-◌, ◌^◌, ◌<◌, ◌≤◌, min}
use native.Mathlib.Decide.{dec_lt}
use native.Mathlib.Omega.{arith}
use borrow.Author.Tests.{eqb-true}
use lib.Dec.{lit<}
use lib.ListN.{length}
use lib.Bits.{bit_xor, xor_lt, xor_self}
use Rattle.bits.specs.Bits.{bit_at, bits_from}
use Rattle.bits.proofs.RunLaws.{bits_append, bits_ext, bits_at, bits_length}
use Rattle.bits.proofs.XorLaws.{xor_cancel}
use Rattle.check24.specs.Check.{check_bits, check_of, check_ok}
use Rattle.bursts.proofs.WindowLaws.{Digits, bits_digits, tops, tops_lt, tops_inj, field_tops}
use Rattle.bursts.proofs.WindowLaws.{iter, iter_zero, iter_inj, check_lt, check_append, check_inj, window}

-- at most 24 bits in the midst of the same bits are told apart by the register
pub apart : (a z bs cs : List ℕ) → Digits a → Digits z → Digits bs → Digits cs → length bs ≡ length cs → length bs ≤ 24
    → check_bits 0 (a ++ (bs ++ z)) ≡ check_bits 0 (a ++ (cs ++ z)) → bs ≡ cs
apart a z bs cs da dz db dc l h e =
    let r = check_bits 0 a in
    let lr : r < 2 ^ 24 = check_lt a 0 da (lit< tt) in
    let e1 : check_bits (check_bits r bs) z ≡ check_bits (check_bits r cs) z =
    sym (check_append a (bs ++ z) 0 ∙ check_append bs z r) ∙ e ∙ check_append a (cs ++ z) 0 ∙ check_append cs z r in
    let e2 : check_bits r bs ≡ check_bits r cs = check_inj z (check_bits r bs) (check_bits r cs) dz (check_lt bs r db lr) (check_lt cs r dc lr) e1 in
    let e3 : iter (length bs) (bit_xor r (tops 24 bs)) ≡ iter (length bs) (bit_xor r (tops 24 cs)) =
    sym (window bs r db h lr) ∙ e2 ∙ window cs r dc (omega arith) lr ∙ ap (λ (n : ℕ). iter n (bit_xor r (tops 24 cs))) (sym l) in
    let e4 : bit_xor r (tops 24 bs) ≡ bit_xor r (tops 24 cs) =
    iter_inj (length bs) _ _ (xor_lt 24 r (tops 24 bs) lr (tops_lt 24 bs db)) (xor_lt 24 r (tops 24 cs) lr (tops_lt 24 cs dc)) e3 in
    tops_inj 24 bs cs db dc l h (xor_cancel r (tops 24 bs) (tops 24 cs) e4)

-- with right check bits the register is zero after them
pub right_zero : (s : List ℕ) (at n : ℕ) → check_ok s at n ≡ true → check_bits 0 (bits_from s at (n + 24)) ≡ 0
unfolding check_of
right_zero s at n ok =
    let w = bits_from s (at + n) 24 in
    let r = check_bits 0 (bits_from s at n) in
    let lr : r < 2 ^ 24 = check_lt (bits_from s at n) 0 (bits_digits s at n) (lit< tt) in
    let e : r ≡ tops 24 w = eqb-true _ _ ok ∙ field_tops s (at + n) 24 in
    ap (check_bits 0) (bits_append s at n 24)
    ∙ check_append (bits_from s at n) w 0
    ∙ window w r (bits_digits s (at + n) 24) (omega (arith, bits_length s (at + n) 24)) lr
    ∙ ap (iter (length w)) (ap (λ (x : ℕ). bit_xor x (tops 24 w)) e ∙ xor_self (tops 24 w))
    ∙ iter_zero (length w)

-- both are right, and they agree but for 24 bits from bit at + q on: then they agree
module _ (s t : List ℕ) (at n q : ℕ) (h : q ≤ n)
    (same : (i : ℕ) → at ≤ i → i < at + n + 24 → (i < at + q) ⊎ (at + q + 24 ≤ i) → bit_at s i ≡ bit_at t i) where
  parts : (x : List ℕ) → bits_from x at (n + 24) ≡ bits_from x at q ++ (bits_from x (at + q) 24 ++ bits_from x (at + q + 24) (n - q))
  parts x =
      let e : n + 24 ≡ q + (24 + (n - q)) = omega arith in
      ap (bits_from x at) e ∙ bits_append x at q (24 + (n - q)) ∙ ap (λ (l : List ℕ). bits_from x at q ++ l) (bits_append x (at + q) 24 (n - q))

  front : bits_from s at q ≡ bits_from t at q
  front = bits_ext s t at q (λ j a b. same j a (omega arith) (inl b))

  back : bits_from s (at + q + 24) (n - q) ≡ bits_from t (at + q + 24) (n - q)
  back = bits_ext s t (at + q + 24) (n - q) (λ j a b. same j (omega arith) (omega arith) (inr a))

  middle : check_ok s at n ≡ true → check_ok t at n ≡ true → bits_from s (at + q) 24 ≡ bits_from t (at + q) 24
  middle rs rt =
      apart (bits_from t at q) (bits_from t (at + q + 24) (n - q)) (bits_from s (at + q) 24) (bits_from t (at + q) 24)
      (bits_digits t at q) (bits_digits t (at + q + 24) (n - q)) (bits_digits s (at + q) 24) (bits_digits t (at + q) 24)
      (bits_length s (at + q) 24 ∙ sym (bits_length t (at + q) 24)) (omega (arith, bits_length s (at + q) 24))
      (ap (check_bits 0) (sym (parts s ∙ ap₂ (λ (u v : List ℕ). u ++ (bits_from s (at + q) 24 ++ v)) front back))
      ∙ right_zero s at n rs ∙ sym (right_zero t at n rt) ∙ ap (check_bits 0) (parts t))

  agree : check_ok s at n ≡ true → check_ok t at n ≡ true → (i : ℕ) → at ≤ i → i < at + n + 24 → bit_at s i ≡ bit_at t i
  agree rs rt i k l =
      dite (dec_lt i (at + q)) (λ a. same i k l (inl a))
      (λ a. dite (dec_lt i (at + q + 24)) (λ b. bits_at s t (at + q) 24 (middle rs rt) i (omega arith) b) (λ b. same i k l (inr (omega arith))))

-- the law, of 24 positions from any bit p on: a changed bit is caught
pub burst_caught : (s t : List ℕ) (at n p : ℕ) → check_ok s at n ≡ true
    → ((i : ℕ) → at ≤ i → i < at + n + 24 → (i < p) ⊎ (p + 24 ≤ i) → bit_at s i ≡ bit_at t i)
    → (j : ℕ) → at ≤ j → j < at + n + 24 → bit_at s j ≢ bit_at t j → check_ok t at n ≡ false
burst_caught s t at n p rs same j k l other = go (check_ok t at n) refl
  where
    q : ℕ
    q = min (p - at) n

    near : (i : ℕ) → at ≤ i → i < at + n + 24 → (i < at + q) ⊎ (at + q + 24 ≤ i) → bit_at s i ≡ bit_at t i
    near i a b (inl c) = same i a b (inl (omega arith))
    near i a b (inr c) = same i a b (inr (omega arith))

    go : (b : Bool) → check_ok t at n ≡ b → b ≡ false
    go true rt = absurd (other (agree s t at n q (omega arith) near rs rt j k l))
    go false rt = refl
