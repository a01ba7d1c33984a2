use Prim.Native.Nat.{◌-◌}
use mathlib.Core.Path.{◌≡◌}
use Rattle.pieces.specs.Pieces.{piece_from}
use Rattle.pieces.proofs.piece_length.Given as goal

abbrev pub invariant-loop-p : goal.invariant-loop-p
invariant-loop-p l = piece_from l.s l.p (126 - l.p) ≡ piece_from l.s 1 125
