use Prim.Native.Nat.{◌*◌, ◌≤◌}
use mathlib.Core.Path.{◌≡◌}
use lib.ListN.{length, drop}
use mathlib.Core.List.{◌++◌}
use Rattle.bits.specs.Table.{table}
use Rattle.inputs.specs.Hex.{byte_of}
use Rattle.inputs.proofs.hex.bytes_into.Given as goal

abbrev pub invariant-loop-i : goal.invariant-loop-i
invariant-loop-i l =
    (l.n ≤ length l.initial.room) × (2 * l.n ≤ length l.w) × (length l.room ≡ length l.initial.room) × (l.room ≡ table (byte_of l.w) l.i ++ drop l.i l.initial.room)
