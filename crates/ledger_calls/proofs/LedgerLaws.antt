-- Laws of the calls over a ledger: the lengths in the order of the tests, and each answer by its case.
use mathlib.Core.Path.{◌≡◌}
use mathlib.Core.Logic.{◌≢◌}
use Prim.Native.Nat.{ℕ}
use mathlib.Core.Bool.{true, false}
use mathlib.Core.List.{List}
use lib.ListN.{length}
use borrow.Author.Tests.{eq-eqb, ne_eqb}
use Rattle.frame.specs.Frame.{is_prn}
use Rattle.held_mask.specs.Size.{size}
use Rattle.in_force.specs.Bytes.{fresh, take_says, take_bytes}
use Rattle.ledger_calls.specs.Ledger.{open_answer, open_room, take_answer, take_room}

module _ (s : List ℕ) (prn : ℕ) where
  pub open_size : length s ≢ size → (39 ≡ open_answer s prn) × (s ≡ open_room s prn)
  unfolding open_answer open_room
  open_size n = (rw (ne_eqb _ _ n), rw (ne_eqb _ _ n))

  pub open_no : length s ≡ size → is_prn prn ≡ false → (4 ≡ open_answer s prn) × (s ≡ open_room s prn)
  unfolding open_answer open_room
  open_no l e = (rw (eq-eqb _ _ l, e), rw (eq-eqb _ _ l, e))

  pub open_yes : (t : List ℕ) → length s ≡ size → is_prn prn ≡ true → t ≡ fresh s prn → (0 ≡ open_answer s prn) × (t ≡ open_room s prn)
  unfolding open_answer open_room
  open_yes t l e b = (rw (eq-eqb _ _ l, e), rw (eq-eqb _ _ l, e) b)

-- a frame taken, whatever is said of it
module _ (say : List ℕ → ℕ) (s f : List ℕ) where
  pub take_size : length s ≢ size → (39 ≡ take_answer say s f) × (s ≡ take_room s f)
  unfolding take_room
  take_size n = (rw (ne_eqb _ _ n), rw (ne_eqb _ _ n))

  pub take_right : (n : ℕ) (t : List ℕ) → length s ≡ size → n ≡ say (take_says s f) → t ≡ take_bytes s f → (n ≡ take_answer say s f) × (t ≡ take_room s f)
  unfolding take_room
  take_right n t l a b = (rw (eq-eqb _ _ l) a, rw (eq-eqb _ _ l) b)
