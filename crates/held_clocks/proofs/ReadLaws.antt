-- What the bytes of a slot's clock say, field by field, as they are read.
use mathlib.Core.Path.{◌≡◌, refl}
use mathlib.Core.Logic.{◌≢◌}
use Prim.Native.Nat.{ℕ, ◌+◌}
use mathlib.Core.Bool.{Bool, true, false, ◌&&◌}
use mathlib.Core.List.{List}
use lib.Dec.{eqb}
use lib.ListN.{get_or}
use native.Mathlib.Nat.{add-zero, add_assoc}
use borrow.Author.Tests.{eq-eqb, ne_eqb}
use Rattle.bits.specs.Bytes.{row_at}
use Rattle.bits.specs.Pick.{pick}
use Rattle.bits.specs.Table.{table}
use Rattle.lent.specs.Digits.{zag_of, two_at, four_at}
use Rattle.lent.specs.Held.{held_at}
use Rattle.held_clocks.specs.Clocks.{no_clock, clock_offset, held_clock_at}
use Rattle.held_clocks.specs.declared.HeldClock.{HeldClock}

module _ (s : List ℕ) (slot at : ℕ) where
  pub clock_none : at ≡ clock_offset slot → get_or s at 0 ≢ 1 → no_clock ≡ held_clock_at s slot
  unfolding held_at row_at table
  clock_none e n = rw (← e, add-zero at, ne_eqb _ _ n)

  pub clock_some : at ≡ clock_offset slot → get_or s at 0 ≡ 1 →
      ◌≡◌ {A = HeldClock}
      (record { has = true; placed = eqb (get_or s (at + 1) 0) 1; epoch = four_at s (at + 2); ssr = get_or s (at + 6) 0; corr = get_or s (at + 7) 0; c0 = zag_of (two_at s (at + 8)) })
      (held_clock_at s slot)
  unfolding held_at row_at table
  clock_some e n = rw (← e, add-zero at, eq-eqb _ _ n, add_assoc at 2 1, add_assoc at 2 2, add_assoc at 2 3, add_assoc at 8 1)

  placed_by : (held : Bool) (h : HeldClock) → held && h.placed ≡ (pick held h no_clock).placed
  placed_by true h = refl
  placed_by false h = refl

  pub clock_placed : at ≡ clock_offset slot → eqb (get_or s at 0) 1 && eqb (get_or s (at + 1) 0) 1 ≡ (held_clock_at s slot).placed
  unfolding held_at row_at table
  clock_placed e = rw (← e, add-zero at) (placed_by (eqb (get_or s at 0) 1) _)
