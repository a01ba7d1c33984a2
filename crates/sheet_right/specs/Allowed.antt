-- 02, CR 7: what the writer's rules can give, field by field.
use Rattle.std.specs.Prelude.{ℕ, ◌≤◌, ◌<◌, ◌≡◌, true, ℤ, pos, ◌*ℤ◌, get_or, length}
use mathlib.Core.List.{List, Memᴰ}
use Rattle.slots.specs.Slots.{satellite_of}
use Rattle.ura.specs.Ura.{code_of}
use Rattle.frame.specs.Frame.{is_prn}
use Rattle.row.specs.declared.Row.{Row}
use Rattle.sheet_form.specs.Reading.{absolute}
use Rattle.sheet_form.specs.declared.Header.{Header}

-- 01, Message fields: a value in tenths of a millimetre that a usable raw number gives: one of -most to most, times the scale
pub record Given (scale most : ℕ) (z : ℤ) : Type 0 where
  pub raw : ℤ
  pub near : absolute raw ≤ most
  pub scaled : z ≡ raw *ℤ pos scale

-- 02, CR 7: slots 1 to 174 with their satellite, IODN at most 1023, Corr at most 7, values that a usable raw number gives, URA 1 to 63
pub record RowAllowed (r : Row) : Type 0 where
  pub low : 1 ≤ r.slot.0
  pub high : r.slot.0 ≤ 174
  pub system : r.system ≡ (satellite_of r.slot.0).system
  pub number : r.number ≡ (satellite_of r.slot.0).number
  pub iodn : r.iodn ≤ 1023
  pub corr : r.corr ≤ 7
  pub radial : Given 16 16383 r.radial
  pub along : Given 64 4095 r.along
  pub cross : Given 64 4095 r.cross
  pub clock : Given 16 16383 r.clock
  pub known : 1 ≤ code_of r.ura
  pub coded : code_of r.ura ≤ 63

-- 02, CR 7: PRN among the ten, SSR at most 3, IODP at most 15, as many rows as the header says, at most `limit`, slots rising
pub record Allowed (limit : ℕ) (h : Header) (rs : List Row) : Type 0 where
  pub prn : is_prn h.prn ≡ true
  pub ssr : h.ssr ≤ 3
  pub iodp : h.iodp ≤ 15
  pub count : h.rows ≡ length rs
  pub few : length rs ≤ limit
  pub rows : (r : Row) → Memᴰ r rs → RowAllowed r
  pub rising : (i j : ℕ) (d : Row) → i < j → j < length rs → (get_or rs i d).slot.0 < (get_or rs j d).slot.0
