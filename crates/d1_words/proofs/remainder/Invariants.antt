use Prim.Native.Nat.{◌-◌, ◌/◌, ◌^◌}
use mathlib.Core.Path.{◌≡◌}
use Rattle.d1_words.specs.Over.{over_bits}
use Rattle.d1_words.specs.Code.{word_shifted}
use Rattle.d1_words.proofs.remainder.Given as goal

abbrev pub invariant-loop-k : goal.invariant-loop-k
invariant-loop-k l = l.r ≡ over_bits 1 word_shifted (15 - l.k) (l.w / 2 ^ l.k)
