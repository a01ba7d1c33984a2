use Prim.Native.Nat.{◌+◌, ◌-◌, ◌*◌, ◌/◌, ◌^◌, ◌<◌}
use mathlib.Core.Path.{◌≡◌}
use Rattle.bits.specs.Bits.{bits_from}
use Rattle.check24.specs.Check.{check_bits, check_of}
use Rattle.check24.proofs.check.Given as goal

abbrev pub invariant-loop-k : goal.invariant-loop-k
invariant-loop-k l =
    (check_bits l.r (bits_from l.s (l.from + l.first + 48 * l.k) (48 * (l.fn.n / 48 - l.k))) ≡ check_of l.s l.at l.fn.n) × (l.r < 2 ^ 24)
