-- What it says that bytes are a table, and which room a PRN has in it.
use mathlib.Core.Path.{◌≡◌, sym, ap, ◌∙◌}
use mathlib.Core.Logic.{◌≢◌, dite}
use Prim.Native.Nat.{ℕ, ◌+◌, ◌-◌, ◌*◌, ◌≤◌, ◌<◌}
use mathlib.Core.Bool.{Bool, true, false}
use mathlib.Core.List.{List, []}
use lib.Dec.{eqb}
use lib.ListN.{length, take, drop}
use native.Mathlib.Decide.{ℕ_discrete}
use native.Mathlib.Omega.{arith}
use borrow.Author.Tests.{eq-eqb, ne_eqb, eqb-true}
use Rattle.bits.specs.Pick.{pick}
use Rattle.bits.proofs.TestLaws.{both_hold}
use Rattle.frame.specs.Frame.{is_prn}
use Rattle.held_mask.specs.Size.{size}
use Rattle.table_form.specs.Table.{table_size, part, prn_in, is_table, room_with, room_of, ledger_for}
use Rattle.table_form.proofs.PartLaws.{lent_part, part_none}

-- a table has a table's length
pub table_long : (t : List ℕ) → is_table t ≡ true → length t ≡ table_size
unfolding is_table
table_long t h =
    eqb-true (length t) table_size (both_hold _ _ (both_hold _ _ (both_hold _ _ (both_hold _ _ h).0).0).0).0

-- bytes of another length are none
pub not_long : (t : List ℕ) → length t ≢ table_size → is_table t ≡ false
unfolding is_table
not_long t n = rw (ne_eqb (length t) table_size n)

-- ---- the first room with a PRN byte, test by test
module _ (t : List ℕ) (p : ℕ) where
  with_0 : prn_in t 0 ≡ p → 0 ≡ room_with t p
  unfolding room_with
  with_0 e = rw (eq-eqb _ _ e)

  module _ (n0 : prn_in t 0 ≢ p) where
    with_1 : prn_in t 1 ≡ p → 1 ≡ room_with t p
    unfolding room_with
    with_1 e = rw (ne_eqb _ _ n0, eq-eqb _ _ e)

    module _ (n1 : prn_in t 1 ≢ p) where
      with_2 : prn_in t 2 ≡ p → 2 ≡ room_with t p
      unfolding room_with
      with_2 e = rw (ne_eqb _ _ n0, ne_eqb _ _ n1, eq-eqb _ _ e)

      module _ (n2 : prn_in t 2 ≢ p) where
        with_3 : prn_in t 3 ≡ p → 3 ≡ room_with t p
        unfolding room_with
        with_3 e = rw (ne_eqb _ _ n0, ne_eqb _ _ n1, ne_eqb _ _ n2, eq-eqb _ _ e)

        pub with_4 : prn_in t 3 ≢ p → 4 ≡ room_with t p
        unfolding room_with
        with_4 n3 = rw (ne_eqb _ _ n0, ne_eqb _ _ n1, ne_eqb _ _ n2, ne_eqb _ _ n3)

  -- room i, where none before it has the byte
  pub with_at : (i : ℕ) → i < 4 → ((k : ℕ) → k < i → prn_in t k ≢ p) → prn_in t i ≡ p → i ≡ room_with t p
  with_at i l n e =
      dite (ℕ_discrete i 0)
      (λ z. z ∙ with_0 (rw z at e))
      (λ i0. dite (ℕ_discrete i 1)
      (λ z. z ∙ with_1 (n 0 (omega arith)) (rw z at e))
      (λ i1. dite (ℕ_discrete i 2)
      (λ z. z ∙ with_2 (n 0 (omega arith)) (n 1 (omega arith)) (rw z at e))
      (λ i2.
      let z : i ≡ 3 = omega arith in
      z ∙ with_3 (n 0 (omega arith)) (n 1 (omega arith)) (n 2 (omega arith)) (rw z at e))))

  pub with_le : room_with t p ≤ 4
  unfolding room_with
  with_le = go (eqb (prn_in t 0) p) (eqb (prn_in t 1) p) (eqb (prn_in t 2) p) (eqb (prn_in t 3) p)
    where
      go : (a b c d : Bool) → pick a 0 (pick b 1 (pick c 2 (pick d 3 4))) ≤ 4
      go true b c d = omega arith
      go false true c d = omega arith
      go false false true d = omega arith
      go false false false true = omega arith
      go false false false false = omega arith

-- ---- the room of a PRN
module _ (t : List ℕ) (prn : ℕ) where
  pub of_foreign : is_prn prn ≡ false → 4 ≡ room_of t prn
  unfolding room_of
  of_foreign n = rw n

  pub of_ten : is_prn prn ≡ true → room_with t prn ≡ room_of t prn
  unfolding room_of
  of_ten y = rw y

  pub of_le : room_of t prn ≤ 4
  unfolding room_of
  of_le = go (is_prn prn)
    where
      go : (b : Bool) → pick b (room_with t prn) 4 ≤ 4
      go true = with_le t prn
      go false = omega arith

-- ---- the ledger of a PRN, as a function lends it
module _ (t : List ℕ) (prn i : ℕ) (y : is_table t ≡ true) (e : i ≡ room_of t prn) where
  pub ledger_own : take (size * i + size - size * i) (drop (size * i) t) ≡ ledger_for t prn
  unfolding ledger_for
  ledger_own = rw y (lent_part t i ∙ ap (part t) e)

  pub ledger_none : size * i ≡ table_size → [] ≡ ledger_for t prn
  unfolding ledger_for
  ledger_none four =
      let k : 4 ≡ i = omega arith in
      rw y (sym (part_none t (table_long t y)) ∙ ap (part t) (k ∙ e))
