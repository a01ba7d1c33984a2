-- 01, Message fields and Refusal numbers 8 to 12 and 16: the limits of contents in canonical form, field by field.
use Rattle.std.specs.Prelude.{◌≡◌, ◌≢◌, Bool, true, List, ℕ, ◌-◌, ◌^◌, ◌≤◌, ◌<◌, ℤ, pos, negsuc, get_or, length}
use Rattle.bits.specs.Pick.{pick}
use Rattle.bits.specs.Bits.{bit_at}
use Rattle.bits.specs.Bytes.{Bytes}
use Rattle.ura.specs.Ura.{quarters_of}
use Rattle.records.specs.Orbit.{blank_orbit}
use Rattle.records.specs.Clock.{blank_clock}
use Rattle.ura.specs.declared.Ura.{Ura}
use Rattle.ura.specs.declared.Ura.TheVariants.{Unknown, Quarters, Above}
use Rattle.records.specs.declared.orbit.Orbit.{Orbit}
use Rattle.records.specs.declared.clock.Clock.{Clock}
use Rattle.biases.specs.Biases.{blank_sat, no_bias}
use Rattle.biases.specs.declared.BiasSat.{BiasSat}
use Rattle.biases.specs.declared.Bias.{Bias}
use Rattle.judge.specs.Judge.{is_kind}
use Rattle.contents.specs.declared.parts.Contents.{Contents}
use Rattle.canonical.specs.Canon.{layout_for}
use Rattle.writing.specs.Write.{end_for}

-- 01, Message fields: two's complement of n bits, the whole range: from -2 ^ (n - 1), which is -1 - (2 ^ (n - 1) - 1), to 2 ^ (n - 1) - 1
abbrev pub Ranged : ℕ → ℤ → Type 0
Ranged n (pos x) = x < 2 ^ (n - 1)
Ranged n (negsuc m) = m < 2 ^ (n - 1)

-- 01, Message fields, URA, and 16: unknown, quarters that one of the codes 1 to 62 gives, or above
abbrev pub Coded : Ura → Type 0
Coded Unknown = Unit {0}
Coded (Quarters q) = (code : ℕ) × (1 ≤ code) × (code ≤ 62) × (quarters_of code ≡ q)
Coded Above = Unit {0}

-- 01, 10: epoch e to 86399; 16: IOD SSR s [2], IODP i [p], sub-type or Slot_S v [w]
pub record HeadLimits (p w e s i v : ℕ) : Type 0 where
  pub epoch : e ≤ 86399
  pub ssr : s < 2 ^ 2
  pub iodp : i < 2 ^ p
  pub start : v < 2 ^ w

-- 01, 11: Sat Slot to 255, in a type whose clocks have none 0; 16: IOD Corr [3], C0 [15]
pub record ClockLimits (slotted : Bool) (k : Clock) : Type 0 where
  pub slot : k.slot ≤ pick slotted 255 0
  pub corr : k.corr < 2 ^ 3
  pub c0 : Ranged 15 k.c0

-- 01, 11: Sat Slot to 255; 16: IODN [10], IOD Corr [3], radial [15], along [13], cross [13], URA
pub record OrbitLimits (o : Orbit) : Type 0 where
  pub slot : o.slot ≤ 255
  pub iodn : o.iodn < 2 ^ 10
  pub corr : o.corr < 2 ^ 3
  pub radial : Ranged 15 o.radial
  pub along : Ranged 13 o.along
  pub cross : Ranged 13 o.cross
  pub ura : Coded o.ura

-- 02, CR 2, 11: Sat Slot to 255; 16: number of biases [4]
pub record SatLimits (r : BiasSat) : Type 0 where
  pub slot : r.slot ≤ 255
  pub count : r.count < 2 ^ 4

-- 02, CR 2, 16: mode [4], bias [12]
pub record BiasLimits (b : Bias) : Type 0 where
  pub mode : b.mode < 2 ^ 4
  pub value : Ranged 12 b.value

-- n bytes
pub record Octets (n : ℕ) (s : List ℕ) : Type 0 where
  pub long : length s ≡ n
  pub each : Bytes s

-- 01, 12: a slot that is not blank stands once among n
abbrev pub Once : ℕ → (ℕ → ℕ) → Type 0
Once n slot = (i j : ℕ) → i < j → j < n → slot i ≢ 0 → slot j ≢ slot i

-- 01: the limits of contents
pub record Limits (c : Contents) : Type 0 where
  -- 01, 8, and 02, CR 2: the type is 1 to 7 or 63
  pub kind : is_kind c.kind ≡ true
  -- 01, 9: the parts end by bit 462 as they are written, and so NumC and NumO are within their widths
  pub end : end_for c ≤ 462
  -- 01, 10 and 16: the head of each part, with IODP [4] in types 1, 4 and 6, sub-type [5] in 4, Slot_S [9] in 6
  pub mask : HeadLimits 4 0 c.mask.epoch c.mask.ssr c.mask.iodp 0
  pub clock : HeadLimits (layout_for c).iodp (layout_for c).start c.clock.epoch c.clock.ssr c.clock.iodp c.clock.start
  pub orbit : HeadLimits 0 0 c.orbit.epoch c.orbit.ssr 0 0
  -- 02, CR 2: number of satellites [5] in 3, IODP [4] and sub-type [3] in 5
  pub bias : HeadLimits 0 5 c.bias.epoch c.bias.ssr 0 c.bias.count
  pub code : HeadLimits 4 3 c.code.epoch c.code.ssr c.code.iodp c.code.sub
  -- 01, 11: Slot_S is 1 to 255 where NumC > 0
  pub start : c.kind ≡ 6 → 0 < c.clock.count → (1 ≤ c.clock.start) × (c.clock.start ≤ 255)
  -- 01, 11 and 16: each record, of up to 23 clocks and six orbits
  pub clocks : (i : ℕ) → i < 23 → ClockLimits (layout_for c).slotted (get_or c.clock.clocks i blank_clock)
  pub orbits : (i : ℕ) → i < 6 → OrbitLimits (get_or c.orbit.orbits i blank_orbit)
  -- 02, CR 2: of up to 31 satellites with 25 biases in all, and each of 70 URA codes [6]
  pub sats : (i : ℕ) → i < 31 → SatLimits (get_or c.bias.sats i blank_sat)
  pub biases : (i : ℕ) → i < 25 → BiasLimits (get_or c.bias.biases i no_bias)
  pub codes : (i : ℕ) → i < 70 → get_or c.code.codes i 0 < 2 ^ 6
  -- 01, 12: no slot twice among the clocks, nor among the orbits; 02, CR 2: nor among the satellites of a type 3
  pub clocks_once : Once 23 (λ (i : ℕ). (get_or c.clock.clocks i blank_clock).slot)
  pub orbits_once : Once 6 (λ (i : ℕ). (get_or c.orbit.orbits i blank_orbit).slot)
  pub sats_once : Once 31 (λ (i : ℕ). (get_or c.bias.sats i blank_sat).slot)
  -- 01, Message fields: mask [255], a bit for each slot; 02, CR 13: in 32 bytes, and 16: the last bit is 0
  pub bytes : Octets 32 c.mask.bytes
  pub last : bit_at c.mask.bytes 255 ≡ 0
