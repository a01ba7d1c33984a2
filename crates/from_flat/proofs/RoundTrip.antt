-- The bytes of contents say the contents, whatever numbers they hold, as long as numbers with a sign fit two bytes.
use mathlib.Core.Path.{◌≡◌, refl, ap, ◌∙◌}
use Prim.Native.Nat.{ℕ, ◌+◌, ◌*◌, ◌<◌}
use mathlib.Core.List.{List, ◌++◌}
use lib.ListN.{get_or, length, get_or-append}
use lib.Signed.{mag}
use native.Mathlib.Nat.{zero-add}
use native.Mathlib.Omega.{arith}
use Rattle.ura.proofs.UraLaws.{kind_back}
use Rattle.bits.specs.Bytes.{row_at}
use Rattle.bits.proofs.ByteLaws.{get_or_row}
use Rattle.bits.proofs.TableLaws.{table_ext, table_same}
use Rattle.lent.proofs.DigitLaws.{pair_back, quad_back}
use Rattle.records.specs.Orbit.{blank_orbit}
use Rattle.records.specs.Clock.{blank_clock}
use Rattle.records.proofs.SignedLaws.{signed_raw}
use Rattle.records.specs.declared.orbit.Orbit.{Orbit}
use Rattle.records.specs.declared.clock.Clock.{Clock}
use Rattle.contents.specs.declared.parts.Contents.{Contents}
use Rattle.ura.specs.Ura.{quarters_in}
use Rattle.from_flat.specs.Read.{flat_clock_nth, flat_clocks_at, flat_orbit_nth, flat_orbits_at, flat_mask_in, flat_clocks_in, flat_orbits_in, flat_contents_of}
use Rattle.flat_numbers.specs.Rows.{word, rows_to}
use Rattle.flat_forms.specs.Write.{flat_clock_row, flat_orbit_row, mask_head, clock_head, orbit_head, flat_mask_bytes, clocks_bytes, orbits_bytes, contents_bytes}
use Rattle.flat_numbers.proofs.RowLaws.{right, row_at_lem}
use Rattle.flat_forms.proofs.FlatLaws.{mask_long, clocks_long, orbits_long}
use Rattle.flat_biases.specs.Biases.{biases_bytes}
use Rattle.flat_biases.specs.Codes.{codes_bytes}
use Rattle.flat_biases.proofs.FlatLaws.{biases_long}
use Rattle.flat_biases.proofs.BackLaws.{BiasesSound, bias_part_back, code_part_back}

-- a number with its sign fits two bytes
abbrev pub Fits16 : Clock → Type 0
Fits16 k = mag k.c0 < 32768

-- so do the three of an orbit record
pub record OrbitFits (o : Orbit) : Type 0 where
  pub radial : mag o.radial < 32768
  pub along : mag o.along < 32768
  pub cross : mag o.cross < 32768

-- contents as the code has them: their arrays have their lengths, their numbers fit
pub record Sound (c : Contents) : Type 0 where
  pub mask : length c.mask.bytes ≡ 32
  pub clocks : length c.clock.clocks ≡ 23
  pub orbits : length c.orbit.orbits ≡ 6
  pub clock : (i : ℕ) → i < 23 → Fits16 (get_or c.clock.clocks i blank_clock)
  pub orbit : (i : ℕ) → i < 6 → OrbitFits (get_or c.orbit.orbits i blank_orbit)
  pub bias : BiasesSound c.bias
  pub codes : length c.code.codes ≡ 70

module _ (c : Contents) where
  -- where the bytes of each part stand
  head_byte : (k : ℕ) → k < 7 → get_or (contents_bytes c) k 0 ≡ get_or (mask_head c.kind c.mask.epoch c.mask.ssr c.mask.iodp) k 0
  unfolding contents_bytes flat_mask_bytes
  head_byte k h =
      let m = mask_head c.kind c.mask.epoch c.mask.ssr c.mask.iodp in
      get_or-append (flat_mask_bytes c.kind c.mask) _ 0 k (omega (arith, mask_long c.kind c.mask))
      ∙ get_or-append m (row_at c.mask.bytes 0 32) 0 k h

  mask_byte : (i : ℕ) → i < 32 → get_or (contents_bytes c) (7 + i) 0 ≡ get_or c.mask.bytes i 0
  unfolding contents_bytes flat_mask_bytes
  mask_byte i h =
      get_or-append (flat_mask_bytes c.kind c.mask) _ 0 (7 + i) (omega (arith, mask_long c.kind c.mask))
      ∙ right (mask_head c.kind c.mask.epoch c.mask.ssr c.mask.iodp) (row_at c.mask.bytes 0 32) 7 i (7 + i) refl refl
      ∙ get_or_row c.mask.bytes 0 32 i h
      ∙ ap (λ (j : ℕ). get_or c.mask.bytes j 0) (zero-add i)

  -- what follows the mask, the clocks, the orbits
  abbrev last : List ℕ
  last = biases_bytes c.bias ++ codes_bytes c.code

  abbrev from_orbits : List ℕ
  from_orbits = orbits_bytes c.orbit ++ last

  clock_byte : (k at : ℕ) → k < 124 → at ≡ 39 + k → get_or (contents_bytes c) at 0 ≡ get_or (clocks_bytes c.clock) k 0
  unfolding contents_bytes
  clock_byte k at h e =
      right (flat_mask_bytes c.kind c.mask) _ 39 k at (mask_long c.kind c.mask) e
      ∙ get_or-append (clocks_bytes c.clock) from_orbits 0 k (omega (arith, clocks_long c.clock))

  after_clocks : (k at : ℕ) → at ≡ 163 + k → get_or (contents_bytes c) at 0 ≡ get_or from_orbits k 0
  unfolding contents_bytes
  after_clocks k at e =
      right (flat_mask_bytes c.kind c.mask) _ 39 (124 + k) at (mask_long c.kind c.mask) (omega arith)
      ∙ right (clocks_bytes c.clock) from_orbits 124 k (124 + k) (clocks_long c.clock) refl

  orbit_byte : (k at : ℕ) → k < 102 → at ≡ 163 + k → get_or (contents_bytes c) at 0 ≡ get_or (orbits_bytes c.orbit) k 0
  orbit_byte k at h e = after_clocks k at e ∙ get_or-append (orbits_bytes c.orbit) last 0 k (omega (arith, orbits_long c.orbit))

  bias_byte : (k at : ℕ) → k < 174 → at ≡ 265 + k → get_or (contents_bytes c) at 0 ≡ get_or (biases_bytes c.bias) k 0
  bias_byte k at h e =
      after_clocks (102 + k) at (omega arith)
      ∙ right (orbits_bytes c.orbit) last 102 k (102 + k) (orbits_long c.orbit) refl
      ∙ get_or-append (biases_bytes c.bias) (codes_bytes c.code) 0 k (omega (arith, biases_long c.bias))

  code_byte : (k at : ℕ) → k < 77 → at ≡ 439 + k → get_or (contents_bytes c) at 0 ≡ get_or (codes_bytes c.code) k 0
  code_byte k at h e =
      after_clocks (102 + (174 + k)) at (omega arith)
      ∙ right (orbits_bytes c.orbit) last 102 (174 + k) (102 + (174 + k)) (orbits_long c.orbit) refl
      ∙ right (biases_bytes c.bias) (codes_bytes c.code) 174 k (174 + k) (biases_long c.bias) refl

  clock_head_lem : (k at : ℕ) → k < 9 → at ≡ 39 + k →
      get_or (contents_bytes c) at 0 ≡ get_or (clock_head c.clock.epoch c.clock.ssr c.clock.iodp c.clock.start c.clock.count) k 0
  unfolding clocks_bytes
  clock_head_lem k at h e =
      clock_byte k at (omega arith) e
      ∙ get_or-append (clock_head c.clock.epoch c.clock.ssr c.clock.iodp c.clock.start c.clock.count) (rows_to (flat_clock_row c.clock.clocks) 23) 0 k h

  orbit_head_lem : (k at : ℕ) → k < 6 → at ≡ 163 + k → get_or (contents_bytes c) at 0 ≡ get_or (orbit_head c.orbit.epoch c.orbit.ssr c.orbit.count) k 0
  unfolding orbits_bytes
  orbit_head_lem k at h e =
      orbit_byte k at (omega arith) e
      ∙ get_or-append (orbit_head c.orbit.epoch c.orbit.ssr c.orbit.count) (rows_to (flat_orbit_row c.orbit.orbits) 6) 0 k h

  clock_row_lem : (i k at : ℕ) → i < 23 → k < 5 → at ≡ 48 + 5 * i + k → get_or (contents_bytes c) at 0 ≡ get_or (flat_clock_row c.clock.clocks i) k 0
  unfolding clocks_bytes
  clock_row_lem i k at h l e =
      clock_byte (9 + (5 * i + k)) at (omega arith) (omega arith)
      ∙ right (clock_head c.clock.epoch c.clock.ssr c.clock.iodp c.clock.start c.clock.count) (rows_to (flat_clock_row c.clock.clocks) 23) 9 (5 * i + k) _ refl refl
      ∙ row_at_lem (flat_clock_row c.clock.clocks) 5 (λ j. refl) 23 i k h l

  orbit_row_lem : (i k at : ℕ) → i < 6 → k < 16 → at ≡ 169 + 16 * i + k → get_or (contents_bytes c) at 0 ≡ get_or (flat_orbit_row c.orbit.orbits i) k 0
  unfolding orbits_bytes
  orbit_row_lem i k at h l e =
      orbit_byte (6 + (16 * i + k)) at (omega arith) (omega arith)
      ∙ right (orbit_head c.orbit.epoch c.orbit.ssr c.orbit.count) (rows_to (flat_orbit_row c.orbit.orbits) 6) 6 (16 * i + k) _ refl refl
      ∙ row_at_lem (flat_orbit_row c.orbit.orbits) 16 (λ j. refl) 6 i k h l

  -- each record is read as it was written
  clock_nth_lem : (i : ℕ) → i < 23 → Fits16 (get_or c.clock.clocks i blank_clock) → flat_clock_nth (contents_bytes c) i ≡ get_or c.clock.clocks i blank_clock
  clock_nth_lem i h fits =
      let k = get_or c.clock.clocks i blank_clock in
      let at = 48 + 5 * i in
      rw (
        clock_row_lem i 0 at h (omega arith) (omega arith),
        clock_row_lem i 1 (at + 1) h (omega arith) (omega arith),
        clock_row_lem i 2 (at + 2) h (omega arith) (omega arith),
        clock_row_lem i 3 (at + 3) h (omega arith) (omega arith),
        clock_row_lem i 4 (at + 3 + 1) h (omega arith) (omega arith),
        pair_back k.slot,
        pair_back (word k.c0),
        signed_raw 32768 k.c0 fits,
      )

  orbit_nth_lem : (i : ℕ) → i < 6 → OrbitFits (get_or c.orbit.orbits i blank_orbit) → flat_orbit_nth (contents_bytes c) i ≡ get_or c.orbit.orbits i blank_orbit
  orbit_nth_lem i h fits =
      let o = get_or c.orbit.orbits i blank_orbit in
      let at = 169 + 16 * i in
      rw (
        orbit_row_lem i 0 at h (omega arith) (omega arith),
        orbit_row_lem i 1 (at + 1) h (omega arith) (omega arith),
        orbit_row_lem i 2 (at + 2) h (omega arith) (omega arith),
        orbit_row_lem i 3 (at + 2 + 1) h (omega arith) (omega arith),
        orbit_row_lem i 4 (at + 4) h (omega arith) (omega arith),
        orbit_row_lem i 5 (at + 5) h (omega arith) (omega arith),
        orbit_row_lem i 6 (at + 5 + 1) h (omega arith) (omega arith),
        orbit_row_lem i 7 (at + 7) h (omega arith) (omega arith),
        orbit_row_lem i 8 (at + 7 + 1) h (omega arith) (omega arith),
        orbit_row_lem i 9 (at + 9) h (omega arith) (omega arith),
        orbit_row_lem i 10 (at + 9 + 1) h (omega arith) (omega arith),
        orbit_row_lem i 11 (at + 11) h (omega arith) (omega arith),
        orbit_row_lem i 12 (at + 12) h (omega arith) (omega arith),
        orbit_row_lem i 13 (at + 12 + 1) h (omega arith) (omega arith),
        orbit_row_lem i 14 (at + 12 + 2) h (omega arith) (omega arith),
        orbit_row_lem i 15 (at + 12 + 3) h (omega arith) (omega arith),
      )
      (rw (
        pair_back o.slot,
        pair_back o.iodn,
        pair_back (word o.radial),
        signed_raw 32768 o.radial fits.radial,
        pair_back (word o.along),
        signed_raw 32768 o.along fits.along,
        pair_back (word o.cross),
        signed_raw 32768 o.cross fits.cross,
        quad_back (quarters_in o.ura),
        kind_back o.ura,
      ))

  bytes_same : length c.mask.bytes ≡ 32 → row_at (contents_bytes c) 7 32 ≡ c.mask.bytes
  unfolding row_at
  bytes_same e = table_ext _ (λ (i : ℕ). get_or c.mask.bytes i 0) 32 mask_byte ∙ table_same c.mask.bytes 32 0 e

  mask_same : length c.mask.bytes ≡ 32 → flat_mask_in (contents_bytes c) ≡ c.mask
  unfolding flat_mask_in
  mask_same e =
      rw (
        head_byte 1 (omega arith),
        head_byte 2 (omega arith),
        head_byte 3 (omega arith),
        head_byte 4 (omega arith),
        head_byte 5 (omega arith),
        head_byte 6 (omega arith),
        bytes_same e,
        quad_back c.mask.epoch,
      )

  module _ (s : Sound c) where
    clocks_same : flat_clocks_at (contents_bytes c) ≡ c.clock.clocks
    unfolding flat_clocks_at
    clocks_same =
        table_ext (flat_clock_nth (contents_bytes c)) (λ (i : ℕ). get_or c.clock.clocks i blank_clock) 23 (λ i h. clock_nth_lem i h (s.clock i h))
        ∙ table_same c.clock.clocks 23 blank_clock s.clocks

    orbits_same : flat_orbits_at (contents_bytes c) ≡ c.orbit.orbits
    unfolding flat_orbits_at
    orbits_same =
        table_ext (flat_orbit_nth (contents_bytes c)) (λ (i : ℕ). get_or c.orbit.orbits i blank_orbit) 6 (λ i h. orbit_nth_lem i h (s.orbit i h))
        ∙ table_same c.orbit.orbits 6 blank_orbit s.orbits

    clock_part : flat_clocks_in (contents_bytes c) ≡ c.clock
    unfolding flat_clocks_in
    clock_part =
        rw (
          clock_head_lem 0 39 (omega arith) refl,
          clock_head_lem 1 40 (omega arith) refl,
          clock_head_lem 2 41 (omega arith) refl,
          clock_head_lem 3 42 (omega arith) refl,
          clock_head_lem 4 43 (omega arith) refl,
          clock_head_lem 5 44 (omega arith) refl,
          clock_head_lem 6 45 (omega arith) refl,
          clock_head_lem 7 46 (omega arith) refl,
          clock_head_lem 8 47 (omega arith) refl,
          clocks_same,
          quad_back c.clock.epoch,
          pair_back c.clock.start,
        )

    orbit_part : flat_orbits_in (contents_bytes c) ≡ c.orbit
    unfolding flat_orbits_in
    orbit_part =
        rw (
          orbit_head_lem 0 163 (omega arith) refl,
          orbit_head_lem 1 164 (omega arith) refl,
          orbit_head_lem 2 165 (omega arith) refl,
          orbit_head_lem 3 166 (omega arith) refl,
          orbit_head_lem 4 167 (omega arith) refl,
          orbit_head_lem 5 168 (omega arith) refl,
          orbits_same,
          quad_back c.orbit.epoch,
        )

    -- THE LAW: the bytes of contents say the contents
    pub contents_back : flat_contents_of (contents_bytes c) ≡ c
    unfolding flat_contents_of
    contents_back =
        rw (
          head_byte 0 (omega arith),
          mask_same s.mask,
          clock_part,
          orbit_part,
          bias_part_back (contents_bytes c) c.bias bias_byte s.bias,
          code_part_back (contents_bytes c) c.code code_byte s.codes,
        )
