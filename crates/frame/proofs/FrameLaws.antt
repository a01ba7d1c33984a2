-- Laws of refusals, and of the contents of a frame that none applies to.
use mathlib.Core.Path.{◌≡◌, refl, sym}
use mathlib.Core.Logic.{◌≢◌, dite}
use mathlib.Core.Bool.{Bool, true, false, not, ◌||◌}
use mathlib.Core.List.{List, [], ◌∷◌}
use Prim.Native.Nat.{ℕ, ◌+◌, ◌≤◌}
use native.Mathlib.Decide.{ℕ_discrete}
use native.Mathlib.Omega.{arith}
use lib.Dec.{eqb}
use lib.ListN.{length}
use borrow.Author.Tests.{eq-eqb, ne_eqb, not-false}
use Rattle.bits.specs.Pick.{pick}
use Rattle.bits.proofs.TableLaws.{length_table}
use Rattle.records.specs.Clock.{blank_clock}
use Rattle.records.specs.Orbit.{blank_orbit}
use Rattle.layout.specs.Layout.{orbits_from}
use Rattle.contents.specs.Parts.{clock_nth, orbit_nth, mask_part_at, clock_part_at, orbit_part_at, layout_at, clocks_at, orbits_at, no_mask, no_clocks, no_orbits, mask_in, clocks_in, orbits_in, biases_in, codes_in, contents_at, end_at}
use Rattle.contents.proofs.MaskLaws.{bytes_long, none_long}
use Rattle.layout.proofs.LayoutLaws.{pick_all}
use Rattle.bits.specs.Some.{any_of, first}
use Rattle.biases.specs.Biases.{bias_part_at, sats_at, sat_count, blank_sat, no_biases}
use Rattle.biases.proofs.FilledLaws.{length_filled}
use Rattle.biases.specs.declared.BiasPart.{BiasPart}
use Rattle.ura_codes.specs.Codes.{code_nth, codes_at, code_part_at, no_codes}
use Rattle.ura_codes.specs.declared.CodePart.{CodePart}
use Rattle.judge.specs.Judge.{is_kind, too_long, late, is_high, is_again, sat_slots, high_slot, twice, refusal_of, refusal_at}
use Rattle.contents.specs.declared.parts.MaskPart.{MaskPart}
use Rattle.contents.specs.declared.parts.ClockPart.{ClockPart}
use Rattle.contents.specs.declared.parts.OrbitPart.{OrbitPart}
use Rattle.contents.specs.declared.parts.Contents.{Contents}
use Rattle.frame.specs.Frame.{contents_of, shell_refusal, refusal_with}

-- ---- the first that holds
-- where 0 is given, the condition of a number above 0 does not hold, nor any later one
pub skipped : (n : ℕ) (b : Bool) (r : ℕ) → 1 ≤ n → pick b n r ≡ 0 → (b ≡ false) × (r ≡ 0)
skipped n true r l e = absurd (omega arith)
skipped n false r l e = (refl, e)

-- one refusal after another: none applies only if neither does
pub neither : (a b : ℕ) → first ((a, not (eqb a 0)) ∷ (b, not (eqb b 0)) ∷ []) ≡ 0 → (a ≡ 0) × (b ≡ 0)
neither a b e =
    dite (ℕ_discrete a 0)
    (λ p. dite (ℕ_discrete b 0) (λ q. (p, q)) (λ q. absurd (q (rw (eq-eqb a 0 p, ne_eqb b 0 q) at e))))
    (λ p. absurd (p (rw (ne_eqb a 0 p) at e)))

-- the first is given where it applies
pub leading : (a b : ℕ) → a ≢ 0 → first ((a, not (eqb a 0)) ∷ (b, not (eqb b 0)) ∷ []) ≡ a
leading a b n = rw (ne_eqb a 0 n)

-- and the second where the first does not
pub second : (a b : ℕ) → a ≡ 0 → first ((a, not (eqb a 0)) ∷ (b, not (eqb b 0)) ∷ []) ≡ b
second a b e = dite (ℕ_discrete b 0) (λ q. rw (eq-eqb a 0 e, eq-eqb b 0 q) (sym q)) (λ q. rw (eq-eqb a 0 e, ne_eqb b 0 q))

-- ---- a frame that is not refused: neither its shell is, nor its contents
pub parts_zero : (foreign : Bool) (f : List ℕ) → refusal_with foreign f ≡ 0 → (shell_refusal foreign f ≡ 0) × (refusal_at f 28 ≡ 0)
unfolding refusal_with
parts_zero foreign f e = neither (shell_refusal foreign f) (refusal_at f 28) e

-- ---- contents that are not refused: none of 8 to 12 applies
pub record Sound (end : ℕ) (c : Contents) : Type 0 where
  pub kind : is_kind c.kind ≡ true
  pub short : too_long end ≡ false
  pub early : late c ≡ false
  pub low : (high_slot c.kind c.clock c.orbit || any_of is_high (sat_slots c.bias.sats)) ≡ false
  pub once : (twice c.clock c.orbit || any_of is_again (sat_slots c.bias.sats)) ≡ false

pub sound : (end : ℕ) (c : Contents) → refusal_of end c ≡ 0 → Sound end c
unfolding refusal_of
sound end c e =
    let b9 = too_long end in
    let b10 = late c in
    let b11 = high_slot c.kind c.clock c.orbit || any_of is_high (sat_slots c.bias.sats) in
    let b12 = twice c.clock c.orbit || any_of is_again (sat_slots c.bias.sats) in
    let n12 = pick {A = ℕ} b12 12 0 in
    let n11 = pick {A = ℕ} b11 11 n12 in
    let n10 = pick {A = ℕ} b10 10 n11 in
    let r8 = skipped 8 (not (is_kind c.kind)) (pick {A = ℕ} b9 9 n10) (omega arith) e in
    let r9 = skipped 9 b9 n10 (omega arith) r8.1 in
    let r10 = skipped 10 b10 n11 (omega arith) r9.1 in
    let r11 = skipped 11 b11 n12 (omega arith) r10.1 in
    let r12 = skipped 12 b12 0 (omega arith) r11.1 in
    record { kind = not-false (is_kind c.kind) r8.0; short = r9.0; early = r10.0; low = r11.0; once = r12.0 }

-- of a message as its bits stand
pub sound_at : (s : List ℕ) (at : ℕ) → refusal_at s at ≡ 0 → Sound (end_at s at) (contents_at s at)
unfolding refusal_at
sound_at s at e = sound (end_at s at) (contents_at s at) e

-- ---- the parts of a frame's contents are as long as their arrays
pub mask_long : (f : List ℕ) → length (contents_of f).mask.bytes ≡ 32
unfolding contents_at mask_in
mask_long f =
    let l = layout_at f 28 in
    pick_all (λ (m : MaskPart). length m.bytes ≡ 32) l.mask (mask_part_at f (28 + l.head)) no_mask (bytes_long f (28 + l.head + 27)) none_long

pub clocks_long : (f : List ℕ) → length (contents_of f).clock.clocks ≡ 23
unfolding contents_at clocks_in no_clocks clocks_at
clocks_long f =
    let l = layout_at f 28 in
    go (eqb l.clocks 0) (clock_part_at f (28 + l.head) l) (length_table (clock_nth l.slotted f (28 + l.head + (23 + l.iodp + l.start)) l.clocks) 23)
  where
    go : (b : Bool) (p : ClockPart) → length p.clocks ≡ 23 → length (pick b no_clocks p).clocks ≡ 23
    go true p e = length_table (λ (i : ℕ). blank_clock) 23
    go false p e = e

pub orbits_long : (f : List ℕ) → length (contents_of f).orbit.orbits ≡ 6
unfolding contents_at orbits_in no_orbits orbits_at
orbits_long f =
    let l = layout_at f 28 in
    go (eqb l.orbits 0) (orbit_part_at f (28 + orbits_from l) l) (length_table (orbit_nth f (28 + orbits_from l + 23) l.orbits) 6)
  where
    go : (b : Bool) (p : OrbitPart) → length p.orbits ≡ 6 → length (pick b no_orbits p).orbits ≡ 6
    go true p e = length_table (λ (i : ℕ). blank_orbit) 6
    go false p e = e

pub sats_long : (f : List ℕ) → length (contents_of f).bias.sats ≡ 31
unfolding contents_at biases_in no_biases
sats_long f =
    pick_all (λ (b : BiasPart). length b.sats ≡ 31) (eqb (contents_of f).kind 3) (bias_part_at f 34) no_biases
    (length_filled 31 blank_sat (sats_at f (34 + 28) (sat_count f 34)))
    (length_table (λ (i : ℕ). blank_sat) 31)

pub codes_long : (f : List ℕ) → length (contents_of f).code.codes ≡ 70
unfolding contents_at codes_in no_codes codes_at
codes_long f =
    pick_all (λ (u : CodePart). length u.codes ≡ 70) (eqb (contents_of f).kind 5) (code_part_at f 34) no_codes
    (length_table (code_nth f (34 + 30)) 70)
    (length_table (λ (i : ℕ). 0) 70)
