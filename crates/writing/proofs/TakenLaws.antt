-- What contents have that no refusal applies to.
use mathlib.Core.Path.{◌≡◌, refl, sym, ap}
use mathlib.Core.Logic.{dite, ◌≢◌, ◌⊎◌, inl, inr, ⊎_elim}
use mathlib.Core.Bool.{Bool, true, false, not, true≢false}
use Prim.Native.Nat.{ℕ, ◌+◌, ◌*◌, ◌≤◌, ◌<◌}
use lib.Dec.{eqb}
use native.Mathlib.Decide.{ℕ_discrete, dec_lt}
use native.Mathlib.Omega.{arith}
use borrow.Author.Tests.{eq-eqb, ne_eqb, le-leb, lt-leb, ltb-false, not-false}
use Rattle.bits.specs.Pick.{pick}
use Rattle.layout.specs.Layout.{layout_of, orbits_from, end_of}
use Rattle.judge.specs.Judge.{is_kind, too_long, refusal_of}
use Rattle.layout.specs.declared.Layout.{Layout}
use Rattle.contents.specs.declared.parts.Contents.{Contents}
use Rattle.layout.proofs.LayoutLaws.{pick_all, from_some, layout_narrow, layout_short}
use Rattle.canonical.specs.Canon.{layout_for}
use Rattle.canonical.proofs.KindLaws.{headed}
use Rattle.writing.specs.Fits.{fits_all}
use Rattle.writing.specs.Write.{end_for, content_refusal}

-- where the first number is not given, its condition does not hold
pub first_not : (n m : ℕ) (b : Bool) → n ≢ 0 → pick b n m ≡ 0 → (b ≡ false) × (m ≡ 0)
first_not n m true h e = absurd (h e)
first_not n m false h e = (refl, e)

-- 01: a type that is written has 6 bits
kind_lt : (k : ℕ) → is_kind k ≡ true → k < 64
kind_lt k e =
    dite (dec_lt k 64)
    (λ l. l)
    (λ n.
    let g : false ≡ true = rw (le-leb 1 k (omega arith), lt-leb k 7 (omega arith), ne_eqb k 63 (λ z. n (omega arith))) at e in
    absurd (true≢false (sym g)))

-- 02, CR 2: a type 3 has neither clocks nor orbits
end_layout : (c : Contents) → end_for c ≤ 462 → end_of (layout_for c) ≤ 462
end_layout c h =
    dite (ℕ_discrete c.kind 3)
    (λ e. layout_short c.kind c.clock.count c.orbit.count (λ x. omega arith) (λ x. omega arith))
    (λ n. rw (ne_eqb c.kind 3 n) at h)

-- 01, 8 and 9: the type is within its width, the parts within the message
pub judged : (c : Contents) → refusal_of (end_for c) c ≡ 0 → (c.kind < 64) × (end_of (layout_for c) ≤ 462) × (end_for c ≤ 462)
unfolding refusal_of
judged c e =
    let a = first_not 8 _ (not (is_kind c.kind)) (λ z. omega arith) e in
    let b = first_not 9 _ (too_long (end_for c)) (λ z. omega arith) a.1 in
    let h = ltb-false 462 (end_for c) b.0 in
    (kind_lt c.kind (not-false (is_kind c.kind) a.0), end_layout c h, h)

-- ---- no more records than the arrays have
-- 01: clocks by place come after IODP and nine bits at least; others have a slot each
abbrev Broad : Layout → Type 0
Broad l = (9 ≤ l.iodp + l.start) ⊎ ((l.slotted ≡ true) ⊎ (l.clocks ≡ 0))

broad : (kind numc numo : ℕ) → Broad (layout_of kind numc numo)
unfolding layout_of
broad kind numc numo =
    pick_all Broad (eqb kind 1) _ _ (inr (inr refl))
    (pick_all Broad (eqb kind 2) _ _ (inr (inr refl))
    (pick_all Broad (eqb kind 4) _ _ (inl (omega arith))
    (pick_all Broad (eqb kind 6) _ _ (inl (omega arith)) (pick_all Broad (eqb kind 7) _ _ (inr (inl refl)) (inr (inr refl))))))

-- a clock record has 18 bits at least
eighteen : (slotted : Bool) (n : ℕ) → 18 * n ≤ pick slotted 27 18 * n
eighteen true n = omega arith
eighteen false n = omega arith

few_clocks : (l : Layout) → Broad l → 6 ≤ l.head → end_of l ≤ 462 → l.clocks ≤ 23
few_clocks l (inr (inr e)) h g = omega arith
few_clocks l (inr (inl e)) h g =
    dite (ℕ_discrete l.clocks 0)
    (λ z. omega arith)
    (λ n.
    let q : pick l.slotted 27 18 * l.clocks ≡ 27 * l.clocks = ap (λ (b : Bool). pick b 27 18 * l.clocks) e in
    omega (arith, from_some l n))
few_clocks l (inl e) h g =
    dite (ℕ_discrete l.clocks 0)
    (λ z. omega arith)
    (λ n. omega (arith, from_some l n, eighteen l.slotted l.clocks))

-- where the parts end, with orbits
pub end_some : (l : Layout) → l.orbits ≢ 0 → end_of l ≡ orbits_from l + (23 + 69 * l.orbits)
end_some l n = rw (ne_eqb _ _ n)

few_orbits : (l : Layout) → 6 ≤ l.head → end_of l ≤ 462 → l.orbits ≤ 6
few_orbits l h g = dite (ℕ_discrete l.orbits 0) (λ z. omega arith) (λ n. omega (arith, end_some l n))

six : (c : Contents) → 6 ≤ (layout_for c).head
six c = ⊎_elim (λ e. omega arith) (λ e. omega arith) (headed c.kind c.clock.count c.orbit.count)

-- 01, 9: what ends within the message has at most 23 clocks and 6 orbits
pub few : (c : Contents) → end_of (layout_for c) ≤ 462 → ((layout_for c).orbits ≤ 6) × ((layout_for c).clocks ≤ 23)
few c e =
    (few_orbits (layout_for c) (six c) e, few_clocks (layout_for c) (broad c.kind c.clock.count c.orbit.count) (six c) e)

-- 01: 8 to 12 do not apply, nor 16
pub content_taken : (c : Contents) → content_refusal c ≡ 0 → (refusal_of (end_for c) c ≡ 0) × (fits_all c ≡ true)
unfolding content_refusal
content_taken c e =
    dite (ℕ_discrete (refusal_of (end_for c) c) 0)
    (λ z.
    let g : pick (not (fits_all c)) 16 0 ≡ 0 = rw (eq-eqb _ _ z) at e in
    (z, not-false (fits_all c) (first_not 16 0 (not (fits_all c)) (λ q. omega arith) g).0))
    (λ n. absurd (n (rw (ne_eqb _ _ n) at e)))

-- so the layout is narrow
pub narrow : (c : Contents) → content_refusal c ≡ 0 → ((layout_for c).orbits ≤ 6) × ((layout_for c).clocks ≤ 23) × ((layout_for c).iodp ≤ 4) × ((layout_for c).start ≤ 9)
narrow c e =
    let f = few c (judged c (content_taken c e).0).1 in
    let w = layout_narrow c.kind c.clock.count c.orbit.count in
    (f.0, f.1, w.0, w.1)
