-- The issue that is joined is a field that the reader of subframe 2 gives.
use mathlib.Core.Path.{◌≡◌, refl}
use Prim.Native.Nat.{ℕ}
use mathlib.Core.List.{List}
use lib.IntN.{pos}
use Rattle.subframe2.specs.Fields.{rows, offset_of, field_of}
use Rattle.inputs.specs.Heard.{iodc_of}

-- 001, figure 6-6: IODC is the third field
pub iodc_field : (s : List ℕ) → field_of s 2 ≡ pos (iodc_of s)
unfolding rows offset_of
iodc_field s = refl
