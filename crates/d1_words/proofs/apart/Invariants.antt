use Prim.Native.Nat.{◌-◌, ◌/◌, ◌^◌}
use mathlib.Core.Path.{◌≡◌}
use Rattle.d1_words.specs.Over.{over_bits}
use Rattle.d1_words.specs.Word.{wider}
use Rattle.d1_words.proofs.apart.Given as goal

abbrev pub invariant-loop-k : goal.invariant-loop-k
invariant-loop-k l = l.r ≡ over_bits 1 wider (15 - l.k) (l.a / 2 ^ l.k)
