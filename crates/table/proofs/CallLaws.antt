-- Opening, closing and taking by their cases, as the code's tests have them.
use mathlib.Core.Path.{◌≡◌, ◌∙◌}
use mathlib.Core.Logic.{◌≢◌}
use Prim.Native.Nat.{ℕ, ◌≤◌, ◌<◌}
use mathlib.Core.Bool.{Bool, true, false, not}
use mathlib.Core.List.{List, [], ◌∷◌}
use lib.Dec.{eqb}
use lib.ListN.{length, replicate}
use native.Mathlib.Omega.{arith}
use borrow.Author.Tests.{lt-ltb, le-ltb}
use Rattle.bits.specs.Some.{first}
use Rattle.bits.specs.Bits.{bit_at, field_at}
use Rattle.verdict.specs.Verdict.{refused_by}
use Rattle.check24.specs.Check.{check_ok}
use Rattle.parity.specs.Parity.{parity_ok}
use Rattle.frame.specs.Frame.{prn_of, is_prn, shell_refusal, shell_for}
use Rattle.frame.proofs.VerdictLaws.{told_alone}
use Rattle.in_force.specs.Bytes.{fresh, take_says, take_bytes}
use Rattle.table_form.specs.Table.{part, put_part, is_table, room_of, free_room}
use Rattle.table.specs.Calls.{opening_refusal, opened, closing_refusal, closed, taking_says, taking_bytes}

-- ---- opening
module _ (t : List ℕ) (prn : ℕ) where
  -- this answer, with these bytes left, is the one that is asked for
  abbrev Opens : List ℕ → List ℕ → Type 0
  Opens said u = (said ≡ refused_by (opening_refusal t prn)) × (u ≡ opened t prn)

  pub open_39 : is_table t ≡ false → Opens (39 ∷ []) t
  unfolding opening_refusal opened
  open_39 n = (rw n, rw n)

  module _ (y : is_table t ≡ true) where
    pub open_4 : is_prn prn ≡ false → Opens (4 ∷ []) t
    unfolding opening_refusal opened
    open_4 n = (rw (y, n), rw (y, n))

    module _ (ten : is_prn prn ≡ true) where
      pub open_28 : room_of t prn < 4 → Opens (28 ∷ []) t
      unfolding opening_refusal opened
      open_28 n = (rw (y, ten, lt-ltb _ _ n), rw (y, ten, lt-ltb _ _ n))

      module _ (new : 4 ≤ room_of t prn) where
        pub open_29 : 4 ≤ free_room t → Opens (29 ∷ []) t
        unfolding opening_refusal opened
        open_29 n = (rw (y, ten, le-ltb _ _ new, le-ltb _ _ n), rw (y, ten, le-ltb _ _ new, le-ltb _ _ n))

        pub open_0 : free_room t < 4 → (u : List ℕ) → u ≡ put_part t (free_room t) (fresh (part t (free_room t)) prn) → Opens [] u
        unfolding opening_refusal opened
        open_0 n u e = (rw (y, ten, le-ltb _ _ new, lt-ltb _ _ n), rw (y, ten, le-ltb _ _ new, lt-ltb _ _ n) e)

-- ---- closing
module _ (t : List ℕ) (prn : ℕ) where
  abbrev Closes : List ℕ → List ℕ → Type 0
  Closes said u = (said ≡ refused_by (closing_refusal t prn)) × (u ≡ closed t prn)

  pub close_39 : is_table t ≡ false → Closes (39 ∷ []) t
  unfolding closing_refusal closed
  close_39 n = (rw n, rw n)

  module _ (y : is_table t ≡ true) where
    pub close_30 : 4 ≤ room_of t prn → Closes (30 ∷ []) t
    unfolding closing_refusal closed
    close_30 n = (rw (y, le-ltb _ _ n), rw (y, le-ltb _ _ n))

    pub close_0 : room_of t prn < 4 → (u : List ℕ) → u ≡ put_part t (room_of t prn) (replicate (length (part t (room_of t prn))) 0) → Closes [] u
    unfolding closing_refusal closed
    close_0 n u e = (rw (y, lt-ltb _ _ n), rw (y, lt-ltb _ _ n) e)

-- ---- a frame
-- a frame that is foreign answers 1, 3 or 4
foreign_first : (f : List ℕ) → shell_refusal true f ≢ 6
unfolding shell_refusal
foreign_first f =
    go (not (eqb (length f) 125)) (not (eqb (field_at f 0 16) 0xEB90)) (eqb (bit_at f 22) 1) (not (parity_ok f)) (not (check_ok f 28 462))
  where
    go : (a b c d e : Bool) → first ((1, a) ∷ (3, b) ∷ (4, true) ∷ (5, c) ∷ (6, d) ∷ (7, e) ∷ []) ≢ 6
    go true b c d e = λ z. omega arith
    go false true c d e = λ z. omega arith
    go false false c d e = λ z. omega arith

module _ (t f : List ℕ) where
  abbrev Takes : List ℕ → List ℕ → Type 0
  Takes said u = (said ≡ taking_says t f) × (u ≡ taking_bytes t f)

  pub take_39 : is_table t ≡ false → Takes (39 ∷ []) t
  unfolding taking_says taking_bytes
  take_39 n = (rw n, rw n)

  module _ (y : is_table t ≡ true) where
    pub take_stray : (said : List ℕ) → 4 ≤ room_of t (prn_of f) → said ≡ shell_for 0 f → Takes said t
    unfolding taking_says taking_bytes
    take_stray said n e = (rw (y, le-ltb _ _ n) (e ∙ told_alone f (shell_refusal true f) (foreign_first f)), rw (y, le-ltb _ _ n))

    pub take_own : (said u : List ℕ) → room_of t (prn_of f) < 4 → said ≡ take_says (part t (room_of t (prn_of f))) f →
        u ≡ put_part t (room_of t (prn_of f)) (take_bytes (part t (room_of t (prn_of f))) f) → Takes said u
    unfolding taking_says taking_bytes
    take_own said u n a b = (rw (y, lt-ltb _ _ n) a, rw (y, lt-ltb _ _ n) b)
