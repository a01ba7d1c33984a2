-- Laws of the B-CNAV1 functions at the boundary: lent room stays as it was where the answer is not 0, and holds what was asked for where it is.
use mathlib.Core.Path.{◌≡◌}
use mathlib.Core.Logic.{◌≢◌}
use mathlib.Core.List.{List}
use Prim.Native.Nat.{ℕ, ◌-◌}
use native.Mathlib.Omega.{arith}
use lib.Dec.{eqb}
use lib.ListN.{get_or, set}
use lib.Seq.{get_or-set_same, get_or-set_other}
use borrow.Author.Tests.{eq-eqb, ne_eqb}
use Rattle.bits.specs.Pick.{pick}
use Rattle.subframe2.specs.Fields.{fields_of}
use Rattle.flat_subframe2.specs.Write.{fields_bytes}
use Rattle.joining.proofs.JoinLaws.{join_fits}
use Rattle.signal_calls.specs.Cnav1.{cnav1_answer, cnav1_room, join_answer, join_room}

-- what a room holds by a number: as it was, or the bytes where it is 0
module _ (n : ℕ) (bytes room : List ℕ) where
  kept : n ≢ 0 → pick (eqb n 0) bytes room ≡ room
  kept e = rw (ne_eqb _ _ e)

  given : n ≡ 0 → pick (eqb n 0) bytes room ≡ bytes
  given e = rw (eq-eqb _ _ e)

module _ (s room : List ℕ) where
  pub cnav1_kept : cnav1_answer s room ≢ 0 → cnav1_room s room ≡ room
  cnav1_kept e = kept (cnav1_answer s room) (fields_bytes (fields_of s)) room e

  pub cnav1_given : cnav1_answer s room ≡ 0 → cnav1_room s room ≡ fields_bytes (fields_of s)
  cnav1_given e = given (cnav1_answer s room) (fields_bytes (fields_of s)) room e

-- 02, CR 6: the entry of the PRN's slot is the IODC, and the others are left
module _ (is : List ℕ) (prn iodc : ℕ) where
  pub join_kept : join_answer is prn iodc ≢ 0 → join_room is prn iodc ≡ is
  join_kept e = kept (join_answer is prn iodc) (set is (prn - 1) iodc) is e

  pub join_given : join_answer is prn iodc ≡ 0 → get_or (join_room is prn iodc) (prn - 1) 0 ≡ iodc
  join_given e =
      let f = join_fits is prn iodc e in
      rw (given (join_answer is prn iodc) (set is (prn - 1) iodc) is e) (get_or-set_same is (prn - 1) iodc 0 (omega arith))

  pub join_left : (j : ℕ) → j ≢ prn - 1 → join_answer is prn iodc ≡ 0 → get_or (join_room is prn iodc) j 0 ≡ get_or is j 0
  join_left j n e = rw (given (join_answer is prn iodc) (set is (prn - 1) iodc) is e) (get_or-set_other is (prn - 1) j iodc 0 n)
