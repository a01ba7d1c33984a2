use Prim.Native.Nat.{◌-◌, ◌*◌, ◌/◌, ◌^◌}
use mathlib.Core.Path.{◌≡◌}
use Rattle.d1_words.specs.Over.{over_bits}
use Rattle.d1_words.specs.Word.{closer}
use Rattle.d1_words.proofs.every_other.Given as goal

abbrev pub invariant-loop-k : goal.invariant-loop-k
invariant-loop-k l = l.r ≡ over_bits 2 closer (15 - l.k) (l.w / 2 ^ (2 * l.k))
