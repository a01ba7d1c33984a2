-- Laws of the canonical form: it is its own, has the same layout, and is what reading gives.
use mathlib.Core.Path.{◌≡◌, refl, sym, ap, ◌∙◌}
use mathlib.Core.Logic.{dite}
use mathlib.Core.Bool.{Bool, true, false}
use mathlib.Core.List.{List}
use Prim.Native.Nat.{ℕ, ◌+◌, ◌*◌}
use lib.Dec.{eqb, ltb}
use lib.ListN.{get_or}
use native.Mathlib.Decide.{ℕ_discrete, dec_lt}
use native.Mathlib.Omega.{arith}
use borrow.Author.Tests.{eq-eqb, ne_eqb, lt-ltb, le-ltb}
use Rattle.bits.specs.Pick.{pick}
use Rattle.bits.specs.Bits.{field_at}
use Rattle.bits.specs.Table.{table}
use Rattle.bits.proofs.TableLaws.{length_table, get_or_table, table_ext}
use Rattle.bits.proofs.FieldLaws.{field_zero}
use Rattle.records.specs.Orbit.{blank_orbit, orbit_at}
use Rattle.records.specs.Clock.{blank_clock, clock_at}
use Rattle.records.specs.declared.orbit.Orbit.{Orbit}
use Rattle.records.specs.declared.clock.Clock.{Clock}
use Rattle.biases.specs.Biases.{no_biases}
use Rattle.biases.specs.declared.BiasPart.{BiasPart}
use Rattle.ura_codes.specs.Codes.{code_nth, codes_at, code_part_at, no_codes}
use Rattle.ura_codes.specs.declared.CodePart.{CodePart}
use Rattle.canonical_biases.specs.Canon.{canon_biases}
use Rattle.biases_back.proofs.ReadLaws.{read_canonical}
use Rattle.contents.specs.Parts.{clocks_at, orbits_at, no_mask, no_clocks, no_orbits, mask_in, clocks_in, orbits_in, biases_in, codes_in, layout_at, contents_at}
use Rattle.contents.proofs.PartLaws.{layout_back}
use Rattle.layout.specs.declared.Layout.{Layout}
use Rattle.contents.specs.declared.parts.ClockPart.{ClockPart}
use Rattle.contents.specs.declared.parts.OrbitPart.{OrbitPart}
use Rattle.contents.specs.declared.parts.Contents.{Contents}
use Rattle.canonical.specs.Canon.{canon_clock, canon_clock_rows, canon_clocks, canon_orbit, canon_orbit_rows, canon_orbits, canon_codes, layout_for, canon}
use Rattle.layout.proofs.LayoutLaws.{layout_same}
use Rattle.canonical.proofs.BiasCanon.{part_twice}
use Rattle.canonical.proofs.CodeCanon.{codes_same, codes_twice}

-- picked twice by one test
pick_right : {A : Type 0} (b : Bool) (x y : A) → pick b x (pick b x y) ≡ pick b x y
pick_right true x y = refl
pick_right false x y = refl

pick_left : {A : Type 0} (b : Bool) (x y : A) → pick b (pick b x y) y ≡ pick b x y
pick_left true x y = refl
pick_left false x y = refl

-- ---- records
clock_twice : (slotted : Bool) (k : Clock) → canon_clock slotted (canon_clock slotted k) ≡ canon_clock slotted k
clock_twice false k = refl
clock_twice true k = dite (ℕ_discrete k.slot 0) (λ e. rw (eq-eqb _ _ e)) (λ n. rw (ne_eqb k.slot 0 n, ne_eqb k.slot 0 n))

orbit_twice : (o : Orbit) → canon_orbit (canon_orbit o) ≡ canon_orbit o
orbit_twice o = dite (ℕ_discrete o.slot 0) (λ e. rw (eq-eqb _ _ e)) (λ n. rw (ne_eqb o.slot 0 n, ne_eqb o.slot 0 n))

clock_read : (slotted : Bool) (s : List ℕ) (at : ℕ) → canon_clock slotted (clock_at slotted s at) ≡ clock_at slotted s at
clock_read false s at = rw (field_zero s at)
clock_read true s at = dite (ℕ_discrete (field_at s at 9) 0) (λ e. rw (eq-eqb _ _ e)) (λ n. rw (ne_eqb (field_at s at 9) 0 n, ne_eqb (field_at s at 9) 0 n))

orbit_read : (s : List ℕ) (at : ℕ) → canon_orbit (orbit_at s at) ≡ orbit_at s at
orbit_read s at = dite (ℕ_discrete (field_at s at 9) 0) (λ e. rw (eq-eqb _ _ e)) (λ n. rw (ne_eqb (field_at s at 9) 0 n, ne_eqb (field_at s at 9) 0 n))

-- n records that f leaves alone, the rest z: f record by record leaves the list alone
rows_same : {A : Type 0} (f : A → A) (g : ℕ → A) (z : A) (m n : ℕ) → ((i : ℕ) → f (g i) ≡ g i) → table (λ (i : ℕ). pick (ltb i n) (f (get_or (table (λ (j : ℕ). pick (ltb j n) (g j) z) m) i z)) z) m ≡ table (λ (j : ℕ). pick (ltb j n) (g j) z) m
rows_same {A} f g z m n e =
    table_ext (λ (i : ℕ). pick (ltb i n) (f (get_or (table (λ (j : ℕ). pick (ltb j n) (g j) z) m) i z)) z) (λ (j : ℕ). pick (ltb j n) (g j) z) m
    (λ i h.
    ap (λ (x : A). pick (ltb i n) (f x) z) (get_or_table (λ (j : ℕ). pick (ltb j n) (g j) z) m i z h)
    ∙ dite (dec_lt i n) (λ y. rw (lt-ltb i n y) (e i)) (λ y. rw (le-ltb i n (omega arith))))

clock_rows_twice : (slotted : Bool) (n : ℕ) (ks : List Clock) → canon_clock_rows slotted n (canon_clock_rows slotted n ks) ≡ canon_clock_rows slotted n ks
unfolding canon_clock_rows
clock_rows_twice slotted n ks = rows_same (canon_clock slotted) (λ (i : ℕ). canon_clock slotted (get_or ks i blank_clock)) blank_clock 23 n (λ i. clock_twice slotted (get_or ks i blank_clock))

clock_rows_read : (slotted : Bool) (s : List ℕ) (at n : ℕ) → canon_clock_rows slotted n (clocks_at slotted s at n) ≡ clocks_at slotted s at n
unfolding canon_clock_rows clocks_at
clock_rows_read slotted s at n =
    rows_same (canon_clock slotted) (λ (i : ℕ). clock_at slotted s (at + pick slotted 27 18 * i)) blank_clock 23 n
    (λ i. clock_read slotted s (at + pick slotted 27 18 * i))

orbit_rows_twice : (n : ℕ) (os : List Orbit) → canon_orbit_rows n (canon_orbit_rows n os) ≡ canon_orbit_rows n os
unfolding canon_orbit_rows
orbit_rows_twice n os = rows_same canon_orbit (λ (i : ℕ). canon_orbit (get_or os i blank_orbit)) blank_orbit 6 n (λ i. orbit_twice (get_or os i blank_orbit))

orbit_rows_read : (s : List ℕ) (at n : ℕ) → canon_orbit_rows n (orbits_at s at n) ≡ orbits_at s at n
unfolding canon_orbit_rows orbits_at
orbit_rows_read s at n = rows_same canon_orbit (λ (i : ℕ). orbit_at s (at + 69 * i)) blank_orbit 6 n (λ i. orbit_read s (at + 69 * i))

-- ---- parts
clocks_twice : (l : Layout) (k : ClockPart) → canon_clocks l (canon_clocks l k) ≡ canon_clocks l k
unfolding canon_clocks
clocks_twice l k =
    dite (ℕ_discrete l.clocks 0)
    (λ e. rw (eq-eqb _ _ e))
    (λ n.
    rw (
      ne_eqb _ _ n,
      pick_right (eqb l.iodp 0) 0 k.iodp,
      pick_right (eqb l.start 0) 0 k.start,
      clock_rows_twice l.slotted l.clocks k.clocks,
    ))

orbits_twice : (l : Layout) (o : OrbitPart) → canon_orbits l (canon_orbits l o) ≡ canon_orbits l o
unfolding canon_orbits
orbits_twice l o =
    dite (ℕ_discrete l.orbits 0)
    (λ e. rw (eq-eqb _ _ e))
    (λ n. rw (ne_eqb _ _ n, orbit_rows_twice l.orbits o.orbits))

-- a field of no width is read as 0
none_read : (s : List ℕ) (at w : ℕ) → pick (eqb w 0) 0 (field_at s at w) ≡ field_at s at w
none_read s at w = dite (ℕ_discrete w 0) (λ e. rw (eq-eqb _ _ e, e) (sym (field_zero s at))) (λ n. rw (ne_eqb _ _ n))

clocks_read : (s : List ℕ) (at : ℕ) (l : Layout) → canon_clocks l (clocks_in s at l) ≡ clocks_in s at l
unfolding canon_clocks clocks_in
clocks_read s at l =
    let a = at + l.head in
    dite (ℕ_discrete l.clocks 0)
    (λ e. rw (eq-eqb _ _ e))
    (λ n.
    rw (
      ne_eqb _ _ n,
      none_read s (a + 17 + 4 + 2) l.iodp,
      none_read s (a + 17 + 4 + 2 + l.iodp) l.start,
      clock_rows_read l.slotted s (a + (23 + l.iodp + l.start)) l.clocks,
    ))

orbits_read : (s : List ℕ) (at : ℕ) (l : Layout) → canon_orbits l (orbits_in s at l) ≡ orbits_in s at l
unfolding canon_orbits orbits_in
orbits_read s at l =
    dite (ℕ_discrete l.orbits 0)
    (λ e. rw (eq-eqb _ _ e))
    (λ n. rw (ne_eqb _ _ n, orbit_rows_read s _ l.orbits))

-- ---- the layout is that of the canonical form
clocks_count : (l : Layout) (k : ClockPart) → (canon_clocks l k).count ≡ l.clocks
unfolding canon_clocks no_clocks
clocks_count l k = dite (ℕ_discrete l.clocks 0) (λ e. rw (eq-eqb _ _ e) (sym e)) (λ n. rw (ne_eqb _ _ n))

orbits_count : (l : Layout) (o : OrbitPart) → (canon_orbits l o).count ≡ l.orbits
unfolding canon_orbits no_orbits
orbits_count l o = dite (ℕ_discrete l.orbits 0) (λ e. rw (eq-eqb _ _ e) (sym e)) (λ n. rw (ne_eqb _ _ n))

pub layout_canon : (c : Contents) → layout_for (canon c) ≡ layout_for c
unfolding canon
layout_canon c =
    layout_same c.kind (canon_clocks (layout_for c) c.clock).count (canon_orbits (layout_for c) c.orbit).count c.clock.count c.orbit.count
    (λ e. (clocks_count (layout_for c) c.clock, orbits_count (layout_for c) c.orbit))

-- and that of what was read
pub layout_read : (s : List ℕ) (at : ℕ) → layout_for (contents_at s at) ≡ layout_at s at
layout_read s at = layout_back s at

-- ---- biases and codes
biases_twice : (b : Bool) (p : BiasPart) → pick b (canon_biases (pick b (canon_biases p) no_biases)) no_biases ≡ pick b (canon_biases p) no_biases
biases_twice true p = part_twice p
biases_twice false p = refl

biases_read : (s : List ℕ) (at kind : ℕ) → pick (eqb kind 3) (canon_biases (biases_in s at kind)) no_biases ≡ biases_in s at kind
unfolding biases_in
biases_read s at kind =
    dite (ℕ_discrete kind 3)
    (λ e. rw (eq-eqb kind 3 e) (read_canonical s (at + 6)))
    (λ n. rw (ne_eqb kind 3 n))

codes_again : (b : Bool) (u : CodePart) → pick b (canon_codes (pick b (canon_codes u) no_codes)) no_codes ≡ pick b (canon_codes u) no_codes
codes_again true u = codes_twice u
codes_again false u = refl

codes_read : (s : List ℕ) (at kind : ℕ) → pick (eqb kind 5) (canon_codes (codes_in s at kind)) no_codes ≡ codes_in s at kind
unfolding codes_in codes_at
codes_read s at kind =
    dite (ℕ_discrete kind 5)
    (λ e. rw (eq-eqb kind 5 e) (codes_same (code_part_at s (at + 6)) (length_table (code_nth s (at + 6 + 30)) 70)))
    (λ n. rw (ne_eqb kind 5 n))

-- the canonical form of the canonical form is itself
pub canon_twice : (c : Contents) → canon (canon c) ≡ canon c
unfolding canon
canon_twice c =
    rw (
      layout_canon c,
      pick_left (layout_for c).mask c.mask no_mask,
      clocks_twice (layout_for c) c.clock,
      orbits_twice (layout_for c) c.orbit,
      biases_twice (eqb c.kind 3) c.bias,
      codes_again (eqb c.kind 5) c.code,
    )

-- what is read, from any bytes, is canonical
pub canon_read : (s : List ℕ) (at : ℕ) → canon (contents_at s at) ≡ contents_at s at
unfolding canon contents_at mask_in
canon_read s at =
    let l = layout_at s at in
    let k = field_at s at 6 in
    rw (layout_read s at, pick_left l.mask _ no_mask, clocks_read s at l, orbits_read s at l, biases_read s at k, codes_read s at k)
