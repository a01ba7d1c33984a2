-- Laws of the forms: their lengths, and the parts one after the other.
use mathlib.Core.Path.{◌≡◌, refl, sym, ap, ◌∙◌}
use Prim.Native.Nat.{ℕ, ◌*◌}
use mathlib.Core.List.{List, [], ◌∷◌, ◌++◌}
use lib.ListN.{get_or, length, length-append}
use native.Mathlib.Omega.{arith}
use Rattle.bits.specs.Bytes.{store_at, row_at}
use Rattle.bits.proofs.ByteLaws.{length_row, bytes_whole}
use Rattle.records.specs.declared.orbit.Orbit.{Orbit}
use Rattle.records.specs.declared.clock.Clock.{Clock}
use Rattle.contents.specs.declared.parts.MaskPart.{MaskPart}
use Rattle.contents.specs.declared.parts.ClockPart.{ClockPart}
use Rattle.contents.specs.declared.parts.OrbitPart.{OrbitPart}
use Rattle.contents.specs.declared.parts.Contents.{Contents}
use Rattle.row.specs.declared.Row.{Row}
use Rattle.flat_biases.specs.Biases.{biases_bytes}
use Rattle.flat_biases.specs.Codes.{codes_bytes}
use Rattle.flat_biases.proofs.FlatLaws.{biases_long, codes_long}
use Rattle.flat_numbers.specs.Rows.{rows_to}
use Rattle.flat_forms.specs.Write.{flat_clock_row, flat_orbit_row, mask_head, clock_head, orbit_head, flat_mask_bytes, clocks_bytes, orbits_bytes, contents_bytes, row_bytes}
use Rattle.flat_numbers.proofs.StoreLaws.{store_two, store_whole}
use Rattle.flat_numbers.proofs.RowLaws.{length_rows}

-- ---- lengths
pub length_clocks : (ks : List Clock) (n : ℕ) → length (rows_to (flat_clock_row ks) n) ≡ 5 * n
length_clocks ks n = length_rows (flat_clock_row ks) 5 (λ i. refl) n

pub length_orbits : (os : List Orbit) (n : ℕ) → length (rows_to (flat_orbit_row os) n) ≡ 16 * n
length_orbits os n = length_rows (flat_orbit_row os) 16 (λ i. refl) n

pub mask_long : (kind : ℕ) (m : MaskPart) → length (flat_mask_bytes kind m) ≡ 39
unfolding flat_mask_bytes
mask_long kind m = length-append (mask_head kind m.epoch m.ssr m.iodp) (row_at m.bytes 0 32) ∙ omega (arith, length_row m.bytes 0 32)

pub clocks_long : (p : ClockPart) → length (clocks_bytes p) ≡ 124
unfolding clocks_bytes
clocks_long p = length-append (clock_head p.epoch p.ssr p.iodp p.start p.count) (rows_to (flat_clock_row p.clocks) 23) ∙ omega (arith, length_clocks p.clocks 23)

pub orbits_long : (p : OrbitPart) → length (orbits_bytes p) ≡ 102
unfolding orbits_bytes
orbits_long p = length-append (orbit_head p.epoch p.ssr p.count) (rows_to (flat_orbit_row p.orbits) 6) ∙ omega (arith, length_orbits p.orbits 6)

-- contents are 516 bytes
pub contents_long : (c : Contents) → length (contents_bytes c) ≡ 516
unfolding contents_bytes
contents_long c =
    let m = flat_mask_bytes c.kind c.mask in
    let k = clocks_bytes c.clock in
    let o = orbits_bytes c.orbit in
    let b = biases_bytes c.bias in
    let u = codes_bytes c.code in
    length-append m (k ++ (o ++ (b ++ u)))
    ∙ omega (
      arith,
      length-append k (o ++ (b ++ u)),
      length-append o (b ++ u),
      length-append b u,
      mask_long c.kind c.mask,
      clocks_long c.clock,
      orbits_long c.orbit,
      biases_long c.bias,
      codes_long c.code,
    )

-- a row is 27 bytes
pub row_long : (r : Row) → length (row_bytes r) ≡ 27
row_long r = refl

-- what the bytes of two and of four make
abbrev two : List ℕ → List ℕ → List ℕ
two x rest = get_or x 0 0 ∷ get_or x 1 0 ∷ rest

abbrev four : List ℕ → List ℕ → List ℕ
four x rest = get_or x 0 0 ∷ get_or x 1 0 ∷ get_or x 2 0 ∷ get_or x 3 0 ∷ rest

-- the bytes of a row and of an orbit, by those of their numbers
abbrev pub row_digits : ℕ → ℕ → ℕ → List ℕ → ℕ → List ℕ → List ℕ → List ℕ → List ℕ → ℕ → List ℕ → List ℕ
row_digits slot system number iodn corr ra al cr ck kind q = slot ∷ system ∷ number ∷ two iodn (corr ∷ four ra (four al (four cr (four ck (kind ∷ four q [])))))

abbrev pub orbit_digits : List ℕ → List ℕ → ℕ → List ℕ → List ℕ → List ℕ → ℕ → List ℕ → List ℕ
orbit_digits slot iodn corr ra al cr kind q = two slot (two iodn (corr ∷ two ra (two al (two cr (kind ∷ four q [])))))

-- equal numbers, equal rows
pub row_same : (slot number corr : ℕ) {s s' k k' : ℕ} {i i' ra ra' al al' cr cr' ck ck' q q' : List ℕ} →
    s ≡ s' → i ≡ i' → ra ≡ ra' → al ≡ al' → cr ≡ cr' → ck ≡ ck' → k ≡ k' → q ≡ q' →
    row_digits slot s number i corr ra al cr ck k q ≡ row_digits slot s' number i' corr ra' al' cr' ck' k' q'
row_same slot number corr a i b d e f g h = rw (a, i, b, d, e, f, g, h)

-- equal numbers, equal orbits
pub orbit_same : (corr : ℕ) {k k' : ℕ} {s s' i i' r r' a a' c c' q q' : List ℕ} → s ≡ s' → i ≡ i' → r ≡ r' → a ≡ a' → c ≡ c' → k ≡ k' → q ≡ q' →
    orbit_digits s i corr r a c k q ≡ orbit_digits s' i' corr r' a' c' k' q'
orbit_same corr s i r a c k q = rw (s, i, r, a, c, k, q)

-- ---- the parts one after the other
pub mask_two : (s : List ℕ) (kind : ℕ) (m : MaskPart) → length m.bytes ≡ 32
    → store_at (store_at s 0 (mask_head kind m.epoch m.ssr m.iodp)) 7 m.bytes ≡ store_at s 0 (flat_mask_bytes kind m)
unfolding flat_mask_bytes
mask_two s kind m long =
    let head = mask_head kind m.epoch m.ssr m.iodp in
    ap (store_at (store_at s 0 head) 7) (sym (bytes_whole m.bytes 32 long)) ∙ store_two s 0 7 head (row_at m.bytes 0 32) refl

pub clocks_two : (s : List ℕ) (p : ClockPart) → store_at (store_at s 39 (clock_head p.epoch p.ssr p.iodp p.start p.count)) 48 (rows_to (flat_clock_row p.clocks) 23) ≡ store_at s 39 (clocks_bytes p)
unfolding clocks_bytes
clocks_two s p = store_two s 39 48 (clock_head p.epoch p.ssr p.iodp p.start p.count) (rows_to (flat_clock_row p.clocks) 23) refl

pub orbits_two : (s : List ℕ) (p : OrbitPart) → store_at (store_at s 163 (orbit_head p.epoch p.ssr p.count)) 169 (rows_to (flat_orbit_row p.orbits) 6) ≡ store_at s 163 (orbits_bytes p)
unfolding orbits_bytes
orbits_two s p = store_two s 163 169 (orbit_head p.epoch p.ssr p.count) (rows_to (flat_orbit_row p.orbits) 6) refl

pub contents_four : (s : List ℕ) (c : Contents)
    → store_at (store_at (store_at (store_at s 0 (flat_mask_bytes c.kind c.mask)) 39 (clocks_bytes c.clock)) 163 (orbits_bytes c.orbit)) 265 (biases_bytes c.bias ++ codes_bytes c.code)
    ≡ store_at s 0 (contents_bytes c)
unfolding contents_bytes
contents_four s c =
    let m = flat_mask_bytes c.kind c.mask in
    let k = clocks_bytes c.clock in
    let o = orbits_bytes c.orbit in
    let last = biases_bytes c.bias ++ codes_bytes c.code in
    store_two (store_at (store_at s 0 m) 39 k) 163 265 o last (omega (arith, orbits_long c.orbit))
    ∙ store_two (store_at s 0 m) 39 163 k (o ++ last) (omega (arith, clocks_long c.clock))
    ∙ store_two s 0 39 m (k ++ (o ++ last)) (omega (arith, mask_long c.kind c.mask))

-- ---- a room of their length becomes the bytes
pub contents_whole : (s : List ℕ) (c : Contents) → length s ≡ 516 → store_at s 0 (contents_bytes c) ≡ contents_bytes c
contents_whole s c e = store_whole s (contents_bytes c) (e ∙ sym (contents_long c))

pub row_whole : (s : List ℕ) (r : Row) → length s ≡ 27 → store_at s 0 (row_bytes r) ≡ row_bytes r
row_whole s r e = store_whole s (row_bytes r) e
