-- Laws of what the types carry, for every type at once.
use mathlib.Core.Path.{◌≡◌, refl, sym}
use mathlib.Core.Logic.{◌⊎◌, inl, inr}
use mathlib.Core.Bool.{true, true≢false}
use Prim.Native.Nat.{ℕ}
use lib.Dec.{eqb}
use native.Mathlib.Omega.{arith}
use Rattle.layout.specs.Layout.{layout_of}
use Rattle.layout.specs.declared.Layout.{Layout}
use Rattle.layout.proofs.LayoutLaws.{pick_all}

-- 01: the type alone, or the type and two counts, stand in front of the parts
abbrev pub Headed : Layout → Type 0
Headed l = (l.head ≡ 6) ⊎ (l.head ≡ 14)

pub headed : (kind numc numo : ℕ) → Headed (layout_of kind numc numo)
unfolding layout_of
headed kind numc numo =
    pick_all Headed (eqb kind 1) _ _ (inl refl)
    (pick_all Headed (eqb kind 2) _ _ (inl refl)
    (pick_all Headed (eqb kind 4) _ _ (inl refl)
    (pick_all Headed (eqb kind 6) _ _ (inr refl) (pick_all Headed (eqb kind 7) _ _ (inr refl) (inl refl)))))

-- 01: a mask stands alone
abbrev pub Alone : Layout → Type 0
Alone l = l.mask ≡ true → (l.head ≡ 6) × (l.clocks ≡ 0) × (l.orbits ≡ 0)

pub alone : (kind numc numo : ℕ) → Alone (layout_of kind numc numo)
unfolding layout_of
alone kind numc numo =
    pick_all Alone (eqb kind 1) _ _ (λ e. (refl, refl, refl))
    (pick_all Alone (eqb kind 2) _ _ (λ e. absurd (true≢false (sym e)))
    (pick_all Alone (eqb kind 4) _ _ (λ e. absurd (true≢false (sym e)))
    (pick_all Alone (eqb kind 6) _ _ (λ e. absurd (true≢false (sym e)))
    (pick_all Alone (eqb kind 7) _ _ (λ e. absurd (true≢false (sym e))) (λ e. absurd (true≢false (sym e)))))))

-- 01, types 6 and 7: the counts are those that stand after the type
abbrev pub Counted : ℕ → ℕ → Layout → Type 0
Counted numc numo l = l.head ≡ 14 → (l.clocks ≡ numc) × (l.orbits ≡ numo)

no_counts : ◌≡◌ {A = ℕ} 6 14 → ⊥
no_counts e = omega arith

pub counted : (kind numc numo : ℕ) → Counted numc numo (layout_of kind numc numo)
unfolding layout_of
counted kind numc numo =
    let P = Counted numc numo in
    pick_all P (eqb kind 1) _ _ (λ e. absurd (no_counts e))
    (pick_all P (eqb kind 2) _ _ (λ e. absurd (no_counts e))
    (pick_all P (eqb kind 4) _ _ (λ e. absurd (no_counts e))
    (pick_all P (eqb kind 6) _ _ (λ e. (refl, refl))
    (pick_all P (eqb kind 7) _ _ (λ e. (refl, refl)) (λ e. absurd (no_counts e))))))
