-- Laws of the layouts: 01, Message fields, in order.
use mathlib.Core.Path.{◌≡◌, refl}
use mathlib.Core.Logic.{◌≢◌, ◌⊎◌, inl, inr, ⊎_elim, dite}
use mathlib.Core.Bool.{Bool, true, false}
use Prim.Native.Nat.{ℕ, ◌+◌, ◌*◌, ◌≤◌, ◌<◌}
use native.Mathlib.Decide.{ℕ_discrete}
use native.Mathlib.Omega.{arith}
use lib.Dec.{eqb}
use borrow.Author.Tests.{eq-eqb, ne_eqb}
use Rattle.bits.specs.Pick.{pick}
use Rattle.bits.specs.Bits.{total}
use Rattle.records.specs.Orbit.{orbit_widths}
use Rattle.records.specs.Clock.{clock_widths}
use Rattle.layout.specs.Layout.{part_widths, layout_of, orbits_from, end_of}
use Rattle.layout.specs.declared.Layout.{Layout}

-- the sums of the widths are the numbers that the offsets use
pub orbit_total : total orbit_widths ≡ 69
orbit_total = refl

pub clock_total : (slotted : Bool) → total (clock_widths slotted) ≡ pick slotted 27 18
clock_total true = refl
clock_total false = refl

pub part_total : (iodp start : ℕ) → total (part_widths iodp start) ≡ 23 + iodp + start
part_total iodp start = omega arith

-- a row of clock records is short
pub width_near : (each : ℕ) (slotted : Bool) (n : ℕ) → each ≡ pick slotted 27 18 → n < 256 → each * n ≤ 6885
width_near each true n e h = rw e (omega arith)
width_near each false n e h = rw e (omega arith)

-- where the orbit part begins
pub from_none : (l : Layout) → l.clocks ≡ 0 → orbits_from l ≡ l.head
from_none l e = rw (eq-eqb _ _ e) (omega arith)

pub from_some : (l : Layout) → l.clocks ≢ 0 → orbits_from l ≡ l.head + (23 + l.iodp + l.start + pick l.slotted 27 18 * l.clocks)
from_some l e = rw (ne_eqb _ _ e)

pub from_near : (l : Layout) → l.head < 256 → l.clocks < 256 → l.iodp < 256 → l.start < 256 → orbits_from l < 8000
from_near l h n p w =
    dite (ℕ_discrete l.clocks 0)
    (λ e. omega (arith, from_none l e))
    (λ ne. omega (arith, from_some l ne, width_near _ l.slotted l.clocks refl n))

-- what holds of both holds of the one that is picked
pub pick_all : {A : Type 0} (P : A → Type 0) (b : Bool) (x y : A) → P x → P y → P (pick b x y)
pick_all P true x y p q = p
pick_all P false x y p q = q

-- no type has a wider IODP than 4 bits, nor a wider start than 9
abbrev pub Narrow : Layout → Type 0
Narrow l = (l.iodp ≤ 4) × (l.start ≤ 9)

pub layout_narrow : (kind numc numo : ℕ) → Narrow (layout_of kind numc numo)
unfolding layout_of
layout_narrow kind numc numo =
    pick_all Narrow (eqb kind 1) _ _ (omega arith, omega arith)
    (pick_all Narrow (eqb kind 2) _ _ (omega arith, omega arith)
    (pick_all Narrow (eqb kind 4) _ _ (omega arith, omega arith)
    (pick_all Narrow (eqb kind 6) _ _ (omega arith, omega arith)
    (pick_all Narrow (eqb kind 7) _ _ (omega arith, omega arith) (omega arith, omega arith)))))

-- 01, 9: only types 6 and 7 can end after bit 462
abbrev Short : Layout → Type 0
Short l = end_of l ≤ 462

pub layout_short : (kind numc numo : ℕ) → kind ≢ 6 → kind ≢ 7 → end_of (layout_of kind numc numo) ≤ 462
unfolding layout_of
layout_short kind numc numo n6 n7 =
    rw (ne_eqb kind 6 n6, ne_eqb kind 7 n7)
    (pick_all Short (eqb kind 1) _ _ (omega arith)
    (pick_all Short (eqb kind 2) _ _ (omega arith)
    (pick_all Short (eqb kind 4) _ _ (omega arith) (omega arith))))

-- and the mask of type 1 ends before it
pub mask_short : (numc numo : ℕ) → (layout_of 1 numc numo).head + total (part_widths 4 0) + 255 ≤ 462
unfolding layout_of
mask_short numc numo = omega arith

-- a part that is there or not
part_bits : (n x m : ℕ) → pick (eqb n 0) 0 x ≤ m → (n ≡ 0) ⊎ (x ≤ m)
part_bits n x m h = dite (ℕ_discrete n 0) (λ e. inl e) (λ ne. inr (rw (ne_eqb n 0 ne) at h))

-- and what does not end after it has room for its records: 23 clocks, six orbits
abbrev Held : Layout → Type 0
Held l = end_of l ≤ 462 → (l.clocks ≤ 23) × (l.orbits ≤ 6)

orbits_held : (numo : ℕ) → pick (eqb numo 0) 0 (23 + 69 * numo) ≤ 462 → numo ≤ 6
orbits_held numo h = ⊎_elim (λ e. omega arith) (λ l. omega arith) (part_bits numo (23 + 69 * numo) 462 h)

pub layout_held : (kind numc numo : ℕ) → end_of (layout_of kind numc numo) ≤ 462 → ((layout_of kind numc numo).clocks ≤ 23) × ((layout_of kind numc numo).orbits ≤ 6)
unfolding layout_of
layout_held kind numc numo =
    pick_all Held (eqb kind 1) _ _ (λ h. (omega arith, omega arith))
    (pick_all Held (eqb kind 2) _ _ (λ h. (omega arith, omega arith))
    (pick_all Held (eqb kind 4) _ _ (λ h. (omega arith, omega arith))
    (pick_all Held (eqb kind 6) _ _
    (λ h. (⊎_elim (λ e. omega arith) (λ l. omega arith) (part_bits numc (36 + 18 * numc) 448 (omega arith)), orbits_held numo (omega arith)))
    (pick_all Held (eqb kind 7) _ _
    (λ h. (⊎_elim (λ e. omega arith) (λ l. omega arith) (part_bits numc (23 + 27 * numc) 448 (omega arith)), orbits_held numo (omega arith)))
    (λ h. (omega arith, omega arith))))))

-- a layout of other counts is the same, where the type has no counts
abbrev pub Counts : ℕ → ℕ → Layout → Type 0
Counts a b l = l.head ≡ 14 → (a ≡ l.clocks) × (b ≡ l.orbits)

pub layout_same : (kind a b numc numo : ℕ) → Counts a b (layout_of kind numc numo) → layout_of kind a b ≡ layout_of kind numc numo
unfolding layout_of
layout_same kind a b numc numo h =
    dite (ℕ_discrete kind 6)
    (λ e. let q = (rw e at h) refl in rw (e, q.0, q.1))
    (λ n.
    dite (ℕ_discrete kind 7)
    (λ e. let q = (rw e at h) refl in rw (e, q.0, q.1))
    (λ m. rw (ne_eqb kind 6 n, ne_eqb kind 7 m)))
