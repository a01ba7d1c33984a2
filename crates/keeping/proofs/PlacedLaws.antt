-- Clock records and codes by place: what is found for one, and what is asked of all of them.
use native.Mathlib.Omega.{arith}
use native.Mathlib.Nat.{add-zero}
use Prim.Native.Nat.{ℕ, ◌+◌, ◌≤◌}
use mathlib.Core.Bool.{Bool, true, not, ◌&&◌}
use mathlib.Core.List.{List}
use mathlib.Core.Path.{◌≡◌, refl, sym, ap, ◌∙◌}
use mathlib.Core.Logic.{◌≢◌}
use lib.Dec.{eqb}
use lib.ListN.{take, drop}
use borrow.Author.Tests.{eqb-true, eqb-false, ne_eqb, not-true}
use Rattle.bits.proofs.TestLaws.{both_hold}
use Rattle.ura_codes.specs.declared.CodePart.{CodePart}
use Rattle.contents.specs.declared.parts.ClockPart.{ClockPart}
use Rattle.slots.specs.Slots.{nth_from, nth_set}
use Rattle.mask_bits.proofs.BitLaws.{length_bits}
use Rattle.mask_bits.proofs.PlaceLaws.{resumed_at}
use Rattle.mask_bits.specs.Bits.{bits_at}
use Rattle.held_mask.specs.Mask.{mask_at}
use Rattle.held_clocks.specs.Clocks.{replace_clocks}
use Rattle.places.specs.Keeps.{held_clock, held_code, by_place, clocks_of, codes_of, needs_mask, as_place, first_place, first_code}
use Rattle.places.proofs.KeepLaws.{place_same, clocks_placed, placed_not_7, codes_some}
use Rattle.in_force.specs.Bytes.{kept_codes}

-- a place other than 0 has no slot
pub filler_found : (x n : ℕ) → eqb x 0 && not (eqb n 0) ≡ true → (x ≡ 0) × (1 ≤ n)
filler_found x n e =
    let h = both_hold (eqb x 0) (not (eqb n 0)) e in
    let q = eqb-false n 0 (not-true (eqb n 0) h.1) in
    (eqb-true x 0 h.0, omega arith)

-- what the walk finds is the slot of place first + j
pub at_place : (bits : List Bool) (first j from n x : ℕ) → x ≡ nth_from (drop from bits) (from + 1) n → nth_from (drop from bits) (from + 1) (n + 0) ≡ nth_set bits (first + j + 0) → x ≡ nth_set bits (first + j)
at_place bits first j from n x found e = found ∙ rw (add-zero n, add-zero (first + j)) at e

-- the records from the first place on are those of the part
pub asked : (t : List ℕ) (kind : ℕ) (p : ClockPart) (first : ℕ) → first ≡ as_place (first_place kind p) → needs_mask kind p ≡ true
    → replace_clocks t (by_place (held_clock true p.epoch p.ssr) (bits_at t) (take p.count p.clocks) first) ≡ replace_clocks t (clocks_of (mask_at t) kind p)
asked t kind p first e needed =
    let records = take p.count p.clocks in
    ap (λ (n : ℕ). replace_clocks t (by_place (held_clock true p.epoch p.ssr) (bits_at t) records n)) e
    ∙ ap (replace_clocks t) (place_same (held_clock true p.epoch p.ssr) (bits_at t) records (first_place kind p) (length_bits t))
    ∙ ap (replace_clocks t) (sym (clocks_placed (mask_at t) kind p (placed_not_7 (mask_at t) kind p needed) needed))

-- and so are the codes of a type 5
pub codes_asked : (t : List ℕ) (u : CodePart) (first : ℕ) → first ≡ first_code u → kept_codes t (by_place held_code (bits_at t) u.codes first) ≡ kept_codes t (codes_of (mask_at t) 5 u)
codes_asked t u first e =
    ap (λ (n : ℕ). kept_codes t (by_place held_code (bits_at t) u.codes n)) e ∙ ap (kept_codes t) (sym (codes_some (mask_at t) 5 u refl))

-- a walk that has found a slot goes on from it
pub goes_on : (from n x : ℕ) → 1 ≤ n → x ≢ 0 → resumed_at from n x ≡ x
goes_on from n x l h = rw (ne_eqb n 0 (λ z. omega arith), ne_eqb x 0 h)
