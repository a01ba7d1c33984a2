use Prim.Native.Nat.{ℕ, ◌+◌, ◌≤◌}
use mathlib.Core.Path.{◌≡◌}
use lib.ListN.{length, drop}
use Rattle.slots.specs.Slots.{nth_from, nth_set}
use Rattle.mask_bits.specs.Bits.{bits_at}
use Rattle.places.specs.Keeps.{held_code, by_place}
use Rattle.in_force.specs.Bytes.{kept_codes}
use Rattle.code_keeping.proofs.take_codes.Given as goal

abbrev pub invariant-loop-code : goal.invariant-loop-code
invariant-loop-code l =
    (length l.fn.u.codes ≡ 70)
    × (length l.t ≡ length l.initial.t)
    × (bits_at l.t ≡ bits_at l.initial.t)
    × (kept_codes l.t (by_place held_code (bits_at l.initial.t) (drop l.code-index l.fn.u.codes) (l.initial.n.0 + l.code-index)) ≡ kept_codes l.initial.t (by_place held_code (bits_at l.initial.t) l.fn.u.codes l.initial.n.0))
    × ((k : ℕ) → nth_from (drop l.from.0 (bits_at l.initial.t)) (l.from.0 + 1) (l.n.0 + k) ≡ nth_set (bits_at l.initial.t) (l.initial.n.0 + l.code-index + k))
    × (1 ≤ l.n.0)
    × (1 ≤ l.initial.n.0)
