use Prim.Native.Nat.{◌+◌, ◌*◌, ◌≤◌}
use mathlib.Core.Path.{◌≡◌}
use lib.ListN.{length}
use Rattle.bits.specs.Bits.{puts_at}
use Rattle.put_bits.proofs.puts.Given as goal

abbrev pub invariant-loop-w : goal.invariant-loop-w
invariant-loop-w l =
    let ws = l.w-iterator.a.rest.now in
    (l.a + 255 * length ws ≤ l.at + 255 * 8) × (puts_at l.room l.a ws l.w-iterator.b.rest.now ≡ puts_at l.initial.room l.at l.fn.ws l.fn.vs)
