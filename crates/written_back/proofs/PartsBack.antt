-- Each part is read back as it was put, whatever is put after it.
use mathlib.Core.Path.{◌≡◌, refl, sym, ap, ◌∙◌, subst}
use mathlib.Core.Logic.{dite, ◌≢◌}
use mathlib.Core.Bool.{true}
use mathlib.Core.List.{List}
use Prim.Native.Nat.{ℕ, ◌+◌, ◌*◌, ◌≤◌, ◌<◌}
use lib.ListN.{get_or, length}
use native.Mathlib.Nat.{one-mul}
use native.Mathlib.Decide.{dec_lt}
use native.Mathlib.Omega.{arith}
use borrow.Author.Tests.{ne_eqb, lt-ltb, le-ltb}
use Rattle.bits.specs.Pick.{pick}
use Rattle.bits.specs.Bits.{bit_at, field_at, fields_at, puts_at, put_rows, total, Within}
use Rattle.bits.proofs.FieldLaws.{bit_lt, one_bit}
use Rattle.bits.proofs.TableLaws.{table_ext}
use Rattle.records.specs.Orbit.{blank_orbit, orbit_widths, orbit_of}
use Rattle.records.specs.Clock.{blank_clock, clock_widths, clock_of}
use Rattle.layout.specs.Layout.{part_widths, orbits_from, end_of}
use Rattle.contents.specs.Parts.{mask_bytes_at, mask_part_at, clock_nth, clocks_at, clock_part_at, orbit_nth, orbits_at, orbit_part_at}
use Rattle.layout.specs.declared.Layout.{Layout}
use Rattle.contents.specs.declared.parts.MaskPart.{MaskPart}
use Rattle.contents.specs.declared.parts.ClockPart.{ClockPart}
use Rattle.contents.specs.declared.parts.OrbitPart.{OrbitPart}
use Rattle.contents.proofs.MaskLaws.{bytes_back}
use Rattle.layout.proofs.LayoutLaws.{from_some, clock_total}
use Rattle.canonical.specs.Canon.{canon_clock_nth, canon_clock_rows, canon_clocks, canon_orbit_nth, canon_orbit_rows, canon_orbits}
use Rattle.fitting.specs.Fits.{head_vals}
use Rattle.writing.specs.Fits.{clock_row, orbit_row}
use Rattle.writing.specs.Write.{mask_widths, mask_row, mask_put, clocks_put, orbits_put}
use Rattle.written_back.specs.Limits.{Octets}
use Rattle.fitting.proofs.BesideLaws.{Beside}
use Rattle.fitting.proofs.PartBack.{head_back, row_back}
use Rattle.written_back.proofs.RecordsBack.{clock_back, orbit_back, none_back}
use Rattle.writing.proofs.TakenLaws.{end_some}

-- ---- the clock part
module _ (s t : List ℕ) (hi : ℕ) (l : Layout) (k : ClockPart) (ne : l.clocks ≢ 0) (room : orbits_from l ≤ 8 * length s) (kept : Beside (orbits_from l) hi (clocks_put s l k) t) (fh : Within (part_widths l.iodp l.start) (head_vals k.epoch k.ssr k.iodp k.start)) (fr : (i : ℕ) → i < l.clocks → Within (clock_widths l.slotted) (clock_row k.clocks i)) where
  from : ℕ
  from = l.head + (23 + l.iodp + l.start)

  hs : List ℕ
  hs = part_widths l.iodp l.start

  vs : List ℕ
  vs = head_vals k.epoch k.ssr k.iodp k.start

  ws : List ℕ
  ws = clock_widths l.slotted

  made : clocks_put s l k ≡ put_rows (puts_at s l.head hs vs) from ws (clock_row k.clocks) l.clocks
  unfolding clocks_put from hs vs ws
  made = rw (ne_eqb _ _ ne)

  begin : from ≡ l.head + total hs
  unfolding from hs
  begin = omega arith

  end : orbits_from l ≡ from + total ws * l.clocks
  unfolding from ws
  end = rw (clock_total l.slotted) (omega (arith, from_some l ne))

  clock_head_lem : fields_at t l.head hs ≡ vs
  unfolding hs vs
  clock_head_lem = head_back s t (clocks_put s l k) l.head from (orbits_from l) hi hs vs ws (clock_row k.clocks) l.clocks begin end room made kept fh

  clock_row_lem : (i : ℕ) → i < l.clocks → fields_at t (from + pick l.slotted 27 18 * i) (clock_widths l.slotted) ≡ clock_row k.clocks i
  unfolding ws
  clock_row_lem i h =
      subst (λ (e : ℕ). fields_at t (from + e * i) ws ≡ clock_row k.clocks i) (clock_total l.slotted)
      (row_back s t (clocks_put s l k) l.head from (orbits_from l) hi hs vs ws (clock_row k.clocks) l.clocks begin end room made kept i h (fr i h))

  clock_rows : clocks_at l.slotted t from l.clocks ≡ canon_clock_rows l.slotted l.clocks k.clocks
  unfolding clocks_at canon_clock_rows
  clock_rows =
      table_ext (clock_nth l.slotted t from l.clocks) (canon_clock_nth l.slotted l.clocks k.clocks) 23
      (λ i h.
      dite (dec_lt i l.clocks)
      (λ y. rw (lt-ltb i l.clocks y) (ap (clock_of l.slotted) (clock_row_lem i y) ∙ clock_back l.slotted (get_or k.clocks i blank_clock) (fr i y)))
      (λ n. rw (le-ltb i l.clocks (omega arith))))

  pub clocks_back : clock_part_at t l.head l ≡ canon_clocks l k
  unfolding canon_clocks from hs vs
  clocks_back =
      let f : (j : ℕ) → get_or (fields_at t l.head hs) j 0 ≡ get_or vs j 0 = (λ j. ap (λ (xs : List ℕ). get_or xs j 0) clock_head_lem) in
      rw (
        ne_eqb _ _ ne,
        f 0,
        f 2,
        f 3,
        f 4,
        clock_rows,
        ← (none_back l.iodp k.iodp fh.1.1.1.0),
        ← (none_back l.start k.start fh.1.1.1.1.0),
      )

-- ---- the orbit part
module _ (s t : List ℕ) (hi : ℕ) (l : Layout) (o : OrbitPart) (ne : l.orbits ≢ 0) (room : end_of l ≤ 8 * length s) (kept : Beside (end_of l) hi (orbits_put s l o) t) (fh : Within (part_widths 0 0) (head_vals o.epoch o.ssr 0 0)) (fr : (i : ℕ) → i < l.orbits → Within orbit_widths (orbit_row o.orbits i)) where
  a : ℕ
  a = orbits_from l

  ovs : List ℕ
  ovs = head_vals o.epoch o.ssr 0 0

  omade : orbits_put s l o ≡ put_rows (puts_at s a (part_widths 0 0) ovs) (a + 23) orbit_widths (orbit_row o.orbits) l.orbits
  unfolding orbits_put a ovs
  omade = rw (ne_eqb _ _ ne)

  oend : end_of l ≡ a + 23 + 69 * l.orbits
  unfolding a
  oend = omega (arith, end_some l ne)

  orbit_head_lem : fields_at t a (part_widths 0 0) ≡ ovs
  unfolding ovs
  orbit_head_lem = head_back s t (orbits_put s l o) a (a + 23) (end_of l) hi (part_widths 0 0) ovs orbit_widths (orbit_row o.orbits) l.orbits refl oend room omade kept fh

  orbit_row_lem : (i : ℕ) → i < l.orbits → fields_at t (a + 23 + 69 * i) orbit_widths ≡ orbit_row o.orbits i
  orbit_row_lem i h = row_back s t (orbits_put s l o) a (a + 23) (end_of l) hi (part_widths 0 0) ovs orbit_widths (orbit_row o.orbits) l.orbits refl oend room omade kept i h (fr i h)

  orbit_rows : orbits_at t (a + 23) l.orbits ≡ canon_orbit_rows l.orbits o.orbits
  unfolding orbits_at canon_orbit_rows
  orbit_rows =
      table_ext (orbit_nth t (a + 23) l.orbits) (canon_orbit_nth l.orbits o.orbits) 6
      (λ i h.
      dite (dec_lt i l.orbits)
      (λ y. rw (lt-ltb i l.orbits y) (ap orbit_of (orbit_row_lem i y) ∙ orbit_back (get_or o.orbits i blank_orbit) (fr i y)))
      (λ n. rw (le-ltb i l.orbits (omega arith))))

  pub orbits_back : orbit_part_at t (orbits_from l) l ≡ canon_orbits l o
  unfolding canon_orbits a ovs
  orbits_back =
      let f : (j : ℕ) → get_or (fields_at t a (part_widths 0 0)) j 0 ≡ get_or ovs j 0 = (λ j. ap (λ (xs : List ℕ). get_or xs j 0) orbit_head_lem) in
      rw (ne_eqb _ _ ne, f 0, f 2, orbit_rows)

-- ---- the mask
module _ (s t : List ℕ) (hi : ℕ) (l : Layout) (m : MaskPart) (has : l.mask ≡ true) (octets : Octets 32 m.bytes) (last : bit_at m.bytes 255 ≡ 0) (room : l.head + 27 + 255 ≤ 8 * length s) (kept : Beside (l.head + 27 + 255) hi (mask_put s l m) t) (fh : Within (part_widths 4 0) (head_vals m.epoch m.ssr m.iodp 0)) where
  mvs : List ℕ
  mvs = head_vals m.epoch m.ssr m.iodp 0

  mmade : mask_put s l m ≡ put_rows (puts_at s l.head (part_widths 4 0) mvs) (l.head + 27) mask_widths (mask_row m.bytes) 255
  unfolding mask_put mvs
  mmade = rw has

  mask_head : fields_at t l.head (part_widths 4 0) ≡ mvs
  unfolding mvs
  mask_head = head_back s t (mask_put s l m) l.head (l.head + 27) (l.head + 27 + 255) hi (part_widths 4 0) mvs mask_widths (mask_row m.bytes) 255 refl refl room mmade kept fh

  mask_bit : (i : ℕ) → i < 255 → bit_at t (l.head + 27 + i) ≡ bit_at m.bytes i
  mask_bit i h =
      let r : fields_at t (l.head + 27 + 1 * i) mask_widths ≡ mask_row m.bytes i =
      row_back s t (mask_put s l m) l.head (l.head + 27) (l.head + 27 + 255) hi (part_widths 4 0) mvs mask_widths (mask_row m.bytes) 255 refl refl room mmade kept i h (bit_lt m.bytes i, tt) in
      let q : field_at t (l.head + 27 + i) 1 ≡ bit_at m.bytes i = rw (one-mul i) at (ap (λ (xs : List ℕ). get_or xs 0 0) r) in
      sym (one_bit t (l.head + 27 + i)) ∙ q

  mask_bytes : mask_bytes_at t (l.head + 27) ≡ m.bytes
  mask_bytes = bytes_back t (l.head + 27) m.bytes octets.long octets.each last mask_bit

  pub mask_back : mask_part_at t l.head ≡ m
  unfolding mvs
  mask_back =
      let f : (j : ℕ) → get_or (fields_at t l.head (part_widths 4 0)) j 0 ≡ get_or mvs j 0 = (λ j. ap (λ (xs : List ℕ). get_or xs j 0) mask_head) in
      rw (f 0, f 2, f 3, mask_bytes)
