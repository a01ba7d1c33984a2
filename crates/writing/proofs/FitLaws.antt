-- A clock record's values held against its widths; a test that holds beside another.
use mathlib.Core.Path.{◌≡◌, refl}
use mathlib.Core.Bool.{Bool, true, false, ◌&&◌}
use Rattle.records.specs.Clock.{clock_widths}
use Rattle.records.specs.declared.clock.Clock.{Clock}
use Rattle.fitting.specs.Fits.{eight, fits}
use Rattle.writing.specs.Fits.{clock_vals}

-- a row filled up to eight with fields of no width
pub clock_eight : (slotted : Bool) (k : Clock) → fits (eight (clock_widths slotted)) (eight (clock_vals k)) ≡ fits (clock_widths slotted) (clock_vals k)
unfolding fits
clock_eight slotted k = refl

pub and_true : (b : Bool) → (b && true) ≡ b
and_true true = refl
and_true false = refl
