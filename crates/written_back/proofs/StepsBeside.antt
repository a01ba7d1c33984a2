-- Where each step of writing writes: all beside it is left as it was.
use mathlib.Core.Path.{◌≡◌, refl, ap}
use mathlib.Core.Logic.{dite, inl, inr}
use mathlib.Core.List.{List, [], ◌∷◌}
use Prim.Native.Nat.{ℕ, ◌+◌, ◌*◌}
use native.Mathlib.Decide.{ℕ_discrete}
use native.Mathlib.Omega.{arith}
use borrow.Author.Tests.{eq-eqb, ne_eqb}
use Rattle.bits.specs.Pick.{pick}
use Rattle.bits.specs.Bits.{total}
use Rattle.records.specs.Orbit.{orbit_widths}
use Rattle.records.specs.Clock.{clock_widths}
use Rattle.layout.specs.Layout.{part_widths, orbits_from, end_of}
use Rattle.layout.specs.declared.Layout.{Layout}
use Rattle.contents.specs.declared.parts.MaskPart.{MaskPart}
use Rattle.contents.specs.declared.parts.ClockPart.{ClockPart}
use Rattle.contents.specs.declared.parts.OrbitPart.{OrbitPart}
use Rattle.layout.proofs.LayoutLaws.{clock_total}
use Rattle.canonical.proofs.KindLaws.{Headed}
use Rattle.writing.specs.Fits.{clock_row, orbit_row}
use Rattle.writing.specs.Write.{head_put, mask_widths, mask_row, mask_put, clocks_put, orbits_put}
use Rattle.fitting.proofs.BesideLaws.{Beside, beside_same, beside_pick, puts_beside, part_beside}

pub head_beside : (s : List ℕ) (kind : ℕ) (l : Layout) → Headed l → Beside 0 l.head s (head_put s kind l)
unfolding head_put
head_beside s kind l (inl e) = rw e (puts_beside s 0 (6 ∷ 0 ∷ 0 ∷ []) (kind ∷ l.clocks ∷ l.orbits ∷ []))
head_beside s kind l (inr e) = rw e (puts_beside s 0 (6 ∷ 5 ∷ 3 ∷ []) (kind ∷ l.clocks ∷ l.orbits ∷ []))

pub mask_beside : (s : List ℕ) (l : Layout) (m : MaskPart) → Beside l.head (l.head + 27 + 255) s (mask_put s l m)
unfolding mask_put
mask_beside s l m =
    beside_pick l.head (l.head + 27 + 255) l.mask s _ s
    (part_beside s l.head (l.head + 27) (l.head + 27 + 255) (part_widths 4 0) _ mask_widths (mask_row m.bytes) 255 refl refl)
    (beside_same l.head (l.head + 27 + 255) s)

pub clocks_beside : (s : List ℕ) (l : Layout) (k : ClockPart) → Beside l.head (orbits_from l) s (clocks_put s l k)
unfolding clocks_put
clocks_beside s l k =
    dite (ℕ_discrete l.clocks 0)
    (λ e. rw (eq-eqb _ _ e) (beside_same l.head _ s))
    (λ n.
    let f = l.head + (23 + l.iodp + l.start) in
    let t : f + total (clock_widths l.slotted) * l.clocks ≡ f + pick l.slotted 27 18 * l.clocks = ap (λ (w : ℕ). f + w * l.clocks) (clock_total l.slotted) in
    rw (ne_eqb l.clocks 0 n)
    (part_beside s l.head f _ (part_widths l.iodp l.start) _ (clock_widths l.slotted) (clock_row k.clocks) l.clocks (omega arith) (omega arith)))

pub orbits_beside : (s : List ℕ) (l : Layout) (o : OrbitPart) → Beside (orbits_from l) (end_of l) s (orbits_put s l o)
unfolding orbits_put
orbits_beside s l o =
    dite (ℕ_discrete l.orbits 0)
    (λ e. rw (eq-eqb _ _ e) (beside_same (orbits_from l) _ s))
    (λ n.
    rw (ne_eqb l.orbits 0 n)
    (part_beside s (orbits_from l) (orbits_from l + 23) _ (part_widths 0 0) _ orbit_widths (orbit_row o.orbits) l.orbits refl (omega arith)))
