-- Laws of the subframe functions at the boundary: lent room stays as it was where the answer is not 0, and holds what was asked for where it is.
use mathlib.Core.Path.{◌≡◌}
use mathlib.Core.Logic.{◌≢◌}
use mathlib.Core.List.{List}
use Prim.Native.Nat.{ℕ}
use borrow.Author.Tests.{eq-eqb, ne_eqb}
use Rattle.d1_subframes.specs.Subframe.{data_of, subframe_of}
use Rattle.signal_calls.specs.D1.{d1_read_answer, d1_read_room, d1_write_answer, d1_write_room}

module _ (s room : List ℕ) where
  pub d1_read_kept : d1_read_answer s room ≢ 0 → d1_read_room s room ≡ room
  d1_read_kept n = rw (ne_eqb _ _ n)

  pub d1_read_given : d1_read_answer s room ≡ 0 → d1_read_room s room ≡ data_of s
  d1_read_given e = rw (eq-eqb _ _ e)

  pub d1_write_kept : d1_write_answer s room ≢ 0 → d1_write_room s room ≡ room
  d1_write_kept n = rw (ne_eqb _ _ n)

  pub d1_write_given : d1_write_answer s room ≡ 0 → d1_write_room s room ≡ subframe_of s
  d1_write_given e = rw (eq-eqb _ _ e)
