-- What was read from bytes, as values to be written: each is the field that was read, or 0.
use mathlib.Core.Path.{◌≡◌, refl}
use mathlib.Core.Logic.{◌⊎◌, inl, inr}
use mathlib.Core.Bool.{Bool, true, ◌&&◌}
use mathlib.Core.List.{List, [], ◌∷◌}
use Prim.Native.Nat.{ℕ, ◌+◌, ◌*◌, ◌/◌, ◌%◌, ◌^◌, ◌<◌}
use lib.Dec.{eqb, ltb}
use lib.Pow.{pow_pos}
use native.Mathlib.Omega.{arith}
use borrow.Author.Tests.{eq-eqb}
use Rattle.bits.specs.Pick.{pick}
use Rattle.bits.specs.Bits.{bit_at, field_at, Within}
use Rattle.bits.proofs.FieldLaws.{field_lt}
use Rattle.bits.proofs.TableLaws.{get_or_table}
use Rattle.ura.specs.Ura.{ura_of, code_of}
use Rattle.records.specs.Orbit.{blank_orbit, orbit_widths, orbit_at}
use Rattle.records.specs.Clock.{blank_clock, clock_widths, clock_at}
use Rattle.records.specs.declared.orbit.Orbit.{Orbit}
use Rattle.records.specs.declared.clock.Clock.{Clock}
use Rattle.ura.proofs.UraLaws.{code_back}
use Rattle.layout.specs.Layout.{part_widths, orbits_from}
use Rattle.contents.specs.Parts.{clock_nth, clocks_at, orbit_nth, orbits_at, no_mask, no_clocks, no_orbits, mask_part_at, clock_part_at, orbit_part_at, mask_in, clocks_in, orbits_in, biases_in, codes_in, layout_at, contents_at}
use Rattle.bias_writing.specs.Put.{biases_fit}
use Rattle.biases_back.proofs.ReadLaws.{read_fits as biases-read-fits}
use Rattle.code_writing.specs.Codes.{codes_fit}
use Rattle.code_writing.proofs.CodesBack.{read_fits as codes-read-fits}
use Rattle.layout.specs.declared.Layout.{Layout}
use Rattle.contents.specs.declared.parts.MaskPart.{MaskPart}
use Rattle.contents.specs.declared.parts.ClockPart.{ClockPart}
use Rattle.contents.specs.declared.parts.OrbitPart.{OrbitPart}
use Rattle.contents.proofs.MaskLaws.{mask_last, none_bit}
use Rattle.layout.proofs.LayoutLaws.{pick_all}
use Rattle.canonical.proofs.CanonLaws.{layout_read}
use Rattle.fitting.specs.Fits.{head_vals}
use Rattle.writing.specs.Fits.{clock_vals, orbit_vals, clock_row, orbit_row, fits_all}
use Rattle.fitting.proofs.RawBack.{raw_or_read}
use Rattle.fitting.proofs.WithinLaws.{within_fits, all_fits}
use Rattle.written_back.proofs.WithinLaws.{parts_fit_lem}

-- each value is the field of s at its offset, or 0
abbrev pub Said : List ℕ → ℕ → List ℕ → List ℕ → Type 0
Said s at [] [] = Unit {0}
Said s at [] (v ∷ vs) = ⊥
Said s at (w ∷ ws) [] = ⊥
Said s at (w ∷ ws) (v ∷ vs) = ((v ≡ field_at s at w) ⊎ (v ≡ 0)) × Said s (at + w) ws vs

value_lt : (s : List ℕ) (at w v : ℕ) → (v ≡ field_at s at w) ⊎ (v ≡ 0) → v < 2 ^ w
value_lt s at w v (inl e) = rw e (field_lt s at w)
value_lt s at w v (inr e) = rw e (pow_pos w)

-- so it is within its width
pub said_within : (s : List ℕ) (at : ℕ) (ws vs : List ℕ) → Said s at ws vs → Within ws vs
said_within s at [] [] h = tt
said_within s at [] (v ∷ vs) h = h
said_within s at (w ∷ ws) [] h = h
said_within s at (w ∷ ws) (v ∷ vs) h = (value_lt s at w v h.0, said_within s (at + w) ws vs h.1)

-- ---- records
clock_said : (s : List ℕ) (slotted : Bool) (a : ℕ) → Said s a (clock_widths slotted) (clock_vals (clock_at slotted s a))
clock_said s slotted a =
    let x = field_at s (a + pick slotted 9 0 + 3) 15 in
    pick_all (λ (k : Clock). Said s a (clock_widths slotted) (clock_vals k)) (slotted && eqb (field_at s a (pick slotted 9 0)) 0) blank_clock _
    (inr refl, (inr refl, (inr refl, tt)))
    (inl refl, (inl refl, (inl (raw_or_read 16384 x (field_lt s _ 15)), tt)))

-- class and value of the code that was read
high : (x y : ℕ) → x < 8 → y < 8 → code_of (ura_of (8 * x + y)) / 8 ≡ x
high x y a b = rw (code_back (8 * x + y) (omega arith)) (omega arith)

low : (x y : ℕ) → x < 8 → y < 8 → code_of (ura_of (8 * x + y)) % 8 ≡ y
low x y a b = rw (code_back (8 * x + y) (omega arith)) (omega arith)

orbit_said : (s : List ℕ) (a : ℕ) → Said s a orbit_widths (orbit_vals (orbit_at s a))
orbit_said s a =
    let r = a + 9 + 10 + 3 in
    let u = r + 15 + 13 + 13 in
    let x = field_at s u 3 in
    let y = field_at s (u + 3) 3 in
    pick_all (λ (o : Orbit). Said s a orbit_widths (orbit_vals o)) (eqb (field_at s a 9) 0) blank_orbit _
    (inr refl, (inr refl, (inr refl, (inr refl, (inr refl, (inr refl, (inr refl, (inr refl, tt)))))))) (
      inl refl,
      (
        inl refl,
        (
          inl refl,
          (
            inl (raw_or_read 16384 (field_at s r 15) (field_lt s r 15)),
            (
              inl (raw_or_read 4096 (field_at s (r + 15) 13) (field_lt s _ 13)),
              (
                inl (raw_or_read 4096 (field_at s (r + 15 + 13) 13) (field_lt s _ 13)),
                (inl (high x y (field_lt s _ 3) (field_lt s _ 3)), (inl (low x y (field_lt s _ 3) (field_lt s _ 3)), tt)),
              ),
            ),
          ),
        ),
      ),
    )

blank_clock_said : (s : List ℕ) (slotted : Bool) (a : ℕ) → Said s a (clock_widths slotted) (clock_vals blank_clock)
blank_clock_said s slotted a = (inr refl, (inr refl, (inr refl, tt)))

blank_orbit_said : (s : List ℕ) (a : ℕ) → Said s a orbit_widths (orbit_vals blank_orbit)
blank_orbit_said s a = (inr refl, (inr refl, (inr refl, (inr refl, (inr refl, (inr refl, (inr refl, (inr refl, tt))))))))

-- ---- parts: the head, and each record
pub mask_said : (s : List ℕ) (at : ℕ) (l : Layout) → Said s (at + l.head) (part_widths 4 0) (head_vals (mask_in s at l).epoch (mask_in s at l).ssr (mask_in s at l).iodp 0)
unfolding mask_in no_mask
mask_said s at l =
    pick_all (λ (m : MaskPart). Said s (at + l.head) (part_widths 4 0) (head_vals m.epoch m.ssr m.iodp 0)) l.mask (mask_part_at s (at + l.head)) no_mask
    (inl refl, (inr refl, (inl refl, (inl refl, (inr refl, tt)))))
    (inr refl, (inr refl, (inr refl, (inr refl, (inr refl, tt)))))

pub clock_head_said : (s : List ℕ) (at : ℕ) (l : Layout) → Said s (at + l.head) (part_widths l.iodp l.start) (head_vals (clocks_in s at l).epoch (clocks_in s at l).ssr (clocks_in s at l).iodp (clocks_in s at l).start)
unfolding clocks_in no_clocks
clock_head_said s at l =
    pick_all (λ (k : ClockPart). Said s (at + l.head) (part_widths l.iodp l.start) (head_vals k.epoch k.ssr k.iodp k.start)) (eqb l.clocks 0) no_clocks (clock_part_at s (at + l.head) l)
    (inr refl, (inr refl, (inr refl, (inr refl, (inr refl, tt)))))
    (inl refl, (inr refl, (inl refl, (inl refl, (inl refl, tt)))))

pub orbit_head_said : (s : List ℕ) (at : ℕ) (l : Layout) → Said s (at + orbits_from l) (part_widths 0 0) (head_vals (orbits_in s at l).epoch (orbits_in s at l).ssr 0 0)
unfolding orbits_in no_orbits
orbit_head_said s at l =
    pick_all (λ (o : OrbitPart). Said s (at + orbits_from l) (part_widths 0 0) (head_vals o.epoch o.ssr 0 0)) (eqb l.orbits 0) no_orbits (orbit_part_at s (at + orbits_from l) l)
    (inr refl, (inr refl, (inr refl, (inr refl, (inr refl, tt)))))
    (inl refl, (inr refl, (inl refl, (inr refl, (inr refl, tt)))))

clock_nth_said : (s : List ℕ) (slotted : Bool) (at n i : ℕ) → i < 23 → Said s (at + pick slotted 27 18 * i) (clock_widths slotted) (clock_row (clocks_at slotted s at n) i)
unfolding clocks_at
clock_nth_said s slotted at n i h =
    let a = at + pick slotted 27 18 * i in
    rw (get_or_table (clock_nth slotted s at n) 23 i blank_clock h)
    (pick_all (λ (k : Clock). Said s a (clock_widths slotted) (clock_vals k)) (ltb i n) (clock_at slotted s a) blank_clock (clock_said s slotted a) (blank_clock_said s slotted a))

orbit_nth_said : (s : List ℕ) (at n i : ℕ) → i < 6 → Said s (at + 69 * i) orbit_widths (orbit_row (orbits_at s at n) i)
unfolding orbits_at
orbit_nth_said s at n i h =
    let a = at + 69 * i in
    rw (get_or_table (orbit_nth s at n) 6 i blank_orbit h)
    (pick_all (λ (o : Orbit). Said s a orbit_widths (orbit_vals o)) (ltb i n) (orbit_at s a) blank_orbit (orbit_said s a) (blank_orbit_said s a))

none_clock_said : (s : List ℕ) (slotted : Bool) (a i : ℕ) → i < 23 → Said s a (clock_widths slotted) (clock_row no_clocks.clocks i)
unfolding no_clocks
none_clock_said s slotted a i h = rw (get_or_table (λ (j : ℕ). blank_clock) 23 i blank_clock h) (blank_clock_said s slotted a)

none_orbit_said : (s : List ℕ) (a i : ℕ) → i < 6 → Said s a orbit_widths (orbit_row no_orbits.orbits i)
unfolding no_orbits
none_orbit_said s a i h = rw (get_or_table (λ (j : ℕ). blank_orbit) 6 i blank_orbit h) (blank_orbit_said s a)

pub clocks_said : (s : List ℕ) (at : ℕ) (l : Layout) (i : ℕ) → i < 23 → Said s (at + l.head + (23 + l.iodp + l.start) + pick l.slotted 27 18 * i) (clock_widths l.slotted) (clock_row (clocks_in s at l).clocks i)
unfolding clocks_in
clocks_said s at l i h =
    let from = at + l.head + (23 + l.iodp + l.start) in
    pick_all (λ (k : ClockPart). Said s (from + pick l.slotted 27 18 * i) (clock_widths l.slotted) (clock_row k.clocks i)) (eqb l.clocks 0) no_clocks (clock_part_at s (at + l.head) l)
    (none_clock_said s l.slotted _ i h)
    (clock_nth_said s l.slotted from l.clocks i h)

pub orbits_said : (s : List ℕ) (at : ℕ) (l : Layout) (i : ℕ) → i < 6 → Said s (at + orbits_from l + 23 + 69 * i) orbit_widths (orbit_row (orbits_in s at l).orbits i)
unfolding orbits_in
orbits_said s at l i h =
    let from = at + orbits_from l + 23 in
    pick_all (λ (o : OrbitPart). Said s (from + 69 * i) orbit_widths (orbit_row o.orbits i)) (eqb l.orbits 0) no_orbits (orbit_part_at s (at + orbits_from l) l)
    (none_orbit_said s _ i h)
    (orbit_nth_said s from l.orbits i h)

-- 02, CR 13: the last bit of a mask read is 0
last_read : (s : List ℕ) (at : ℕ) (l : Layout) → bit_at (mask_in s at l).bytes 255 ≡ 0
unfolding mask_in
last_read s at l = pick_all (λ (m : MaskPart). bit_at m.bytes 255 ≡ 0) l.mask (mask_part_at s (at + l.head)) no_mask (mask_last s (at + l.head + 27)) (none_bit 255)

biases_fit_lem : (s : List ℕ) (at kind : ℕ) → kind ≡ 3 → biases_fit (biases_in s at kind) ≡ true
unfolding biases_in
biases_fit_lem s at kind e = rw (eq-eqb kind 3 e) (biases-read-fits s (at + 6))

codes_fit_lem : (s : List ℕ) (at kind : ℕ) → kind ≡ 5 → codes_fit (codes_in s at kind) ≡ true
unfolding codes_in
codes_fit_lem s at kind e = rw (eq-eqb kind 5 e) (codes-read-fits s (at + 6))

-- 01, 16: what was read, from any bytes, is within its widths
pub read_fits : (s : List ℕ) (at : ℕ) → fits_all (contents_at s at) ≡ true
unfolding contents_at
read_fits s at =
    let l = layout_at s at in
    let m = mask_in s at l in
    let k = clocks_in s at l in
    let o = orbits_in s at l in
    let mv = head_vals m.epoch m.ssr m.iodp 0 in
    let kv = head_vals k.epoch k.ssr k.iodp k.start in
    let ov = head_vals o.epoch o.ssr 0 0 in
    let hw = part_widths l.iodp l.start in
    let kw = clock_widths l.slotted in
    parts_fit_lem (contents_at s at)
    (rw (layout_read s at) (
      within_fits (part_widths 4 0) mv (said_within s (at + l.head) (part_widths 4 0) mv (mask_said s at l)),
      within_fits hw kv (said_within s (at + l.head) hw kv (clock_head_said s at l)),
      within_fits (part_widths 0 0) ov (said_within s (at + orbits_from l) (part_widths 0 0) ov (orbit_head_said s at l)),
      all_fits kw (clock_row k.clocks) 23 (λ i h. said_within s (at + l.head + (23 + l.iodp + l.start) + pick l.slotted 27 18 * i) kw (clock_row k.clocks i) (clocks_said s at l i h)),
      all_fits orbit_widths (orbit_row o.orbits) 6 (λ i h. said_within s (at + orbits_from l + 23 + 69 * i) orbit_widths (orbit_row o.orbits i) (orbits_said s at l i h)),
      eq-eqb _ 0 (last_read s at l),
    ))
    (biases_fit_lem s at (field_at s at 6))
    (codes_fit_lem s at (field_at s at 6))
