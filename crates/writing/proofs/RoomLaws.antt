-- A clock record put into the room.
use mathlib.Core.Path.{◌≡◌}
use mathlib.Core.Bool.{Bool}
use mathlib.Core.List.{List}
use Prim.Native.Nat.{ℕ, ◌+◌, ◌*◌}
use Rattle.bits.specs.Pick.{pick}
use Rattle.bits.specs.Bits.{put_at, puts_at, total}
use Rattle.records.specs.Clock.{clock_widths}
use Rattle.records.specs.declared.clock.Clock.{Clock}
use Rattle.layout.proofs.LayoutLaws.{clock_total}
use Rattle.fitting.specs.Fits.{eight}
use Rattle.writing.specs.Fits.{clock_vals}

-- clock record i, put as a row of eight with its offset counted as the code does
pub clock_put : (s : List ℕ) (at each i : ℕ) (slotted : Bool) (k : Clock) (ws vs : List ℕ) → each ≡ pick slotted 27 18 → ws ≡ eight (clock_widths slotted) → vs ≡ eight (clock_vals k) → puts_at s (at + each * i) ws vs ≡ puts_at s (at + total (clock_widths slotted) * i) (clock_widths slotted) (clock_vals k)
unfolding puts_at put_at
clock_put s at each i slotted k ws vs e f g = rw (f, g, e, clock_total slotted)
