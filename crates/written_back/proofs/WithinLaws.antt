-- What the test of 16 says, part by part.
use mathlib.Core.Path.{◌≡◌}
use mathlib.Core.Logic.{dite}
use mathlib.Core.Bool.{Bool, true, ◌&&◌}
use Prim.Native.Nat.{ℕ}
use lib.Dec.{eqb}
use native.Mathlib.Decide.{ℕ_discrete}
use borrow.Author.Tests.{eq-eqb, ne_eqb}
use Rattle.bits.specs.Pick.{pick}
use Rattle.bits.specs.Bits.{bit_at}
use Rattle.records.specs.Orbit.{orbit_widths}
use Rattle.records.specs.Clock.{clock_widths}
use Rattle.layout.specs.Layout.{part_widths}
use Rattle.layout.specs.declared.Layout.{Layout}
use Rattle.contents.specs.declared.parts.Contents.{Contents}
use Rattle.canonical.specs.Canon.{layout_for}
use Rattle.fitting.specs.Fits.{head_vals, fits, all_fit}
use Rattle.fitting.proofs.FitLaws.{and_left, and_right}
use Rattle.bias_writing.specs.Put.{biases_fit}
use Rattle.code_writing.specs.Codes.{codes_fit}
use Rattle.writing.specs.Fits.{clock_row, orbit_row, parts_fit, last_fit, fits_all}

-- ---- the parts of the test of 16
six : (a b c d e f : Bool) → (a && b && c && d && e && f) ≡ true → (a ≡ true) × (b ≡ true) × (c ≡ true) × (d ≡ true) × (e ≡ true) × (f ≡ true)
six a b c d e f h =
    let o = and_left (a && b && c && d && e) f h in
    let p = and_left (a && b && c && d) e o in
    let q = and_left (a && b && c) d p in
    let r = and_left (a && b) c q in
    (and_left a b r, and_right a b r, and_right (a && b) c q, and_right (a && b && c) d p, and_right (a && b && c && d) e o, and_right (a && b && c && d && e) f h)

-- the heads and the records of contents, and the last bit of the mask's bytes
abbrev pub Parts : Layout → Contents → Type 0
Parts l c =
    (fits (part_widths 4 0) (head_vals c.mask.epoch c.mask.ssr c.mask.iodp 0) ≡ true)
    × (fits (part_widths l.iodp l.start) (head_vals c.clock.epoch c.clock.ssr c.clock.iodp c.clock.start) ≡ true)
    × (fits (part_widths 0 0) (head_vals c.orbit.epoch c.orbit.ssr 0 0) ≡ true)
    × (all_fit (clock_widths l.slotted) (clock_row c.clock.clocks) 23 ≡ true)
    × (all_fit orbit_widths (orbit_row c.orbit.orbits) 6 ≡ true)
    × (eqb (bit_at c.mask.bytes 255) 0 ≡ true)

pub fit_parts : (c : Contents) → fits_all c ≡ true → Parts (layout_for c) c
unfolding fits_all parts_fit
fit_parts c e = six _ _ _ _ _ _ (and_left (parts_fit c) (last_fit c.kind c.bias c.code) e)

-- 02, CR 2: the biases of a type 3, and the URA codes of a type 5
pub fit_biases : (c : Contents) → fits_all c ≡ true → c.kind ≡ 3 → biases_fit c.bias ≡ true
unfolding fits_all
fit_biases c e k =
    let h = and_right (parts_fit c) (last_fit c.kind c.bias c.code) e in
    rw (eq-eqb c.kind 3 k) at (and_left (pick (eqb c.kind 3) (biases_fit c.bias) true) (pick (eqb c.kind 5) (codes_fit c.code) true) h)

pub fit_codes : (c : Contents) → fits_all c ≡ true → c.kind ≡ 5 → codes_fit c.code ≡ true
unfolding fits_all
fit_codes c e k =
    let h = and_right (parts_fit c) (last_fit c.kind c.bias c.code) e in
    rw (eq-eqb c.kind 5 k) at (and_right (pick (eqb c.kind 3) (biases_fit c.bias) true) (pick (eqb c.kind 5) (codes_fit c.code) true) h)

-- a test where it applies
picked : (k n : ℕ) (b : Bool) → (k ≡ n → b ≡ true) → pick (eqb k n) b true ≡ true
picked k n b h = dite (ℕ_discrete k n) (λ e. rw (eq-eqb k n e) (h e)) (λ ne. rw (ne_eqb k n ne))

pub parts_fit_lem : (c : Contents) → Parts (layout_for c) c → (c.kind ≡ 3 → biases_fit c.bias ≡ true) → (c.kind ≡ 5 → codes_fit c.code ≡ true) → fits_all c ≡ true
unfolding fits_all parts_fit
parts_fit_lem c p b u = rw (p.0, p.1, p.2, p.3, p.4, p.5, picked c.kind 3 (biases_fit c.bias) b, picked c.kind 5 (codes_fit c.code) u)
