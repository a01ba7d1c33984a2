-- The checker's walk over the message symbols, and its refusals, case by case.
use Prim.Native.Nat.{ℕ, zero, suc, ◌+◌, ◌-◌, ◌*◌, ◌<◌}
use mathlib.Core.Path.{◌≡◌, refl, sym, ap, ◌∙◌}
use mathlib.Core.Logic.{◌≢◌, ⊎_elim}
use mathlib.Core.Bool.{Bool, true, false, not, ◌&&◌}
use mathlib.Core.List.{List}
use native.Mathlib.Nat.{not-suc-le-zero, eq-or-lt_of_le, le_of_suc-le-suc}
use native.Mathlib.Omega.{arith}
use lib.Dec.{eqb}
use lib.ListN.{length}
use borrow.Author.Tests.{eq-eqb, ne_eqb, eqb-true, not-false}
use Rattle.bits.specs.Bits.{field_at}
use Rattle.bits.specs.Pick.{pick}
use Rattle.bits.proofs.TestLaws.{none_holds}
use Rattle.parity.specs.Parity.{symbol_of, parity_ok}
use Rattle.frame.proofs.FrameLaws.{skipped}
use Rattle.making.specs.Make.{message_symbol, wrong_length}
use Rattle.making.specs.Check.{keeps, check_refusal}

module _ (message frame : List ℕ) where
  -- ---- a turn of the walk down
  pub keeps_none : keeps message frame 0 ≡ true
  unfolding keeps
  keeps_none = refl

  keeps_down : (n : ℕ) → 0 < n → keeps message frame n ≡ eqb (message_symbol message (n - 1)) (symbol_of frame (n - 1)) && keeps message frame (n - 1)
  unfolding keeps
  keeps_down n h = let e : n ≡ suc (n - 1) = omega arith in ap (keeps message frame) e

  pub keeps_same : (n : ℕ) → 0 < n → field_at message (6 * (n - 1)) 6 ≡ field_at frame (28 + 6 * (n - 1)) 6 → keeps message frame (n - 1) ≡ keeps message frame n
  unfolding message_symbol symbol_of
  keeps_same n h e = sym (keeps_down n h ∙ rw (eq-eqb _ _ e))

  pub keeps_other : (n : ℕ) → 0 < n → field_at message (6 * (n - 1)) 6 ≢ field_at frame (28 + 6 * (n - 1)) 6 → keeps message frame n ≡ false
  unfolding message_symbol symbol_of
  keeps_other n h e = keeps_down n h ∙ rw (ne_eqb _ _ e)

  -- ---- the frame keeps the symbols exactly if each is the same
  two : (a b : Bool) → a && b ≡ true → (a ≡ true) × (b ≡ true)
  two true b e = (refl, e)
  two false b e = absurd (let z : ◌≡◌ {A = Bool} false true = e in let y : ◌≡◌ {A = ℕ} 0 1 = cc in omega arith)

  pub keeps_at : (n : ℕ) → keeps message frame n ≡ true → (k : ℕ) → k < n → message_symbol message k ≡ symbol_of frame k
  unfolding keeps
  keeps_at zero e k h = absurd (not-suc-le-zero h)
  keeps_at (suc n) e k h =
      let t = two (eqb (message_symbol message n) (symbol_of frame n)) (keeps message frame n) e in
      ⊎_elim (λ (q : k ≡ n). rw q (eqb-true _ _ t.0)) (λ l. keeps_at n t.1 k l) (eq-or-lt_of_le (le_of_suc-le-suc h))

  pub keeps_all : (n : ℕ) → ((k : ℕ) → k < n → message_symbol message k ≡ symbol_of frame k) → keeps message frame n ≡ true
  unfolding keeps
  keeps_all zero h = refl
  keeps_all (suc n) h = rw (eq-eqb (message_symbol message n) (symbol_of frame n) (h n (omega arith))) (keeps_all n (λ k l. h k (omega arith)))

  -- ---- what is not refused
  pub record Accepted : Type 0 where
    pub long : length message ≡ 61
    pub wide : length frame ≡ 125
    pub last : field_at message 486 2 ≡ 0
    pub sync : field_at frame 0 16 ≡ 0xEB90
    pub groups : parity_ok frame ≡ true
    pub kept : keeps message frame 81 ≡ true

  pub accepted : check_refusal message frame ≡ 0 → Accepted
  unfolding check_refusal
  accepted e =
      let b2 = not (eqb (field_at message 486 2) 0) in
      let b3 = not (eqb (field_at frame 0 16) 0xEB90) in
      let b6 = not (parity_ok frame) in
      let b38 = not (keeps message frame 81) in
      let n38 = pick {A = ℕ} b38 38 0 in
      let n6 = pick {A = ℕ} b6 6 n38 in
      let n3 = pick {A = ℕ} b3 3 n6 in
      let r1 = skipped 1 (wrong_length (length message) (length frame)) (pick {A = ℕ} b2 2 n3) (omega arith) e in
      let r2 = skipped 2 b2 n3 (omega arith) r1.1 in
      let r3 = skipped 3 b3 n6 (omega arith) r2.1 in
      let r6 = skipped 6 b6 n38 (omega arith) r3.1 in
      let r38 = skipped 38 b38 0 (omega arith) r6.1 in
      let l = none_holds (not (eqb (length message) 61)) (not (eqb (length frame) 125)) r1.0 in
      record {
        long = eqb-true (length message) 61 (not-false _ l.0);
        wide = eqb-true (length frame) 125 (not-false _ l.1);
        last = eqb-true (field_at message 486 2) 0 (not-false _ r2.0);
        sync = eqb-true (field_at frame 0 16) 0xEB90 (not-false _ r3.0);
        groups = not-false _ r6.0;
        kept = not-false _ r38.0;
      }

  pub accepts : Accepted → check_refusal message frame ≡ 0
  unfolding check_refusal
  accepts a =
      rw (
        eq-eqb (length message) 61 a.long,
        eq-eqb (length frame) 125 a.wide,
        eq-eqb (field_at message 486 2) 0 a.last,
        eq-eqb (field_at frame 0 16) 0xEB90 a.sync,
        a.groups,
        a.kept,
      )

-- ---- refusals
module _ (message frame : List ℕ) where
  pub refuses_1 : wrong_length (length message) (length frame) ≡ true → check_refusal message frame ≡ 1
  unfolding check_refusal
  refuses_1 l = rw l

  module _ (l : wrong_length (length message) (length frame) ≡ false) where
    pub refuses_2 : field_at message 486 2 ≢ 0 → check_refusal message frame ≡ 2
    unfolding check_refusal
    refuses_2 z = rw (l, ne_eqb (field_at message 486 2) 0 z)

    module _ (z : field_at message 486 2 ≡ 0) where
      pub refuses_3 : field_at frame 0 16 ≢ 0xEB90 → check_refusal message frame ≡ 3
      unfolding check_refusal
      refuses_3 s = rw (l, eq-eqb (field_at message 486 2) 0 z, ne_eqb (field_at frame 0 16) 0xEB90 s)

      module _ (s : field_at frame 0 16 ≡ 0xEB90) where
        pub refuses_6 : parity_ok frame ≡ false → check_refusal message frame ≡ 6
        unfolding check_refusal
        refuses_6 p = rw (l, eq-eqb (field_at message 486 2) 0 z, eq-eqb (field_at frame 0 16) 0xEB90 s, p)

        pub refuses_38 : parity_ok frame ≡ true → keeps message frame 81 ≡ false → check_refusal message frame ≡ 38
        unfolding check_refusal
        refuses_38 p k = rw (l, eq-eqb (field_at message 486 2) 0 z, eq-eqb (field_at frame 0 16) 0xEB90 s, p, k)

        pub refuses_none : parity_ok frame ≡ true → keeps message frame 81 ≡ true → check_refusal message frame ≡ 0
        unfolding check_refusal
        refuses_none p k = rw (l, eq-eqb (field_at message 486 2) 0 z, eq-eqb (field_at frame 0 16) 0xEB90 s, p, k)
