use Prim.Native.Nat.{ℕ, ◌+◌}
use mathlib.Core.Path.{◌≡◌}
use Rattle.bits.specs.Bits.{put_rows}
use Rattle.biases.specs.Biases.{bias_widths}
use Rattle.bias_writing.specs.Put.{bias_row}
use Rattle.bias_writing.proofs.put_row.Given as goal

abbrev pub invariant-loop-i : goal.invariant-loop-i
invariant-loop-i l = l.room ≡ put_rows l.initial.room l.at bias_widths (λ (j : ℕ). bias_row l.bs (l.k + j)) l.i
