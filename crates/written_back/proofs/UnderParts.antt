-- What was read, written again: each of the first 462 bits is that of the message read, or 0.
use mathlib.Core.Path.{◌≡◌, refl, sym, ap, ◌∙◌, subst}
use mathlib.Core.Logic.{dite, ◌⊎◌, inl, inr}
use mathlib.Core.List.{List, [], ◌∷◌}
use Prim.Native.Nat.{ℕ, ◌+◌, ◌-◌, ◌*◌, ◌/◌, ◌%◌, ◌^◌, ◌≤◌, ◌<◌}
use lib.Dec.{eqb}
use lib.ListN.{get_or, replicate, length-replicate, get_or-replicate, get_or-eq_default}
use native.Mathlib.Nat.{zero-add, one-mul, zero-div}
use native.Mathlib.Decide.{ℕ_discrete, dec_lt}
use borrow.Author.Tests.{eq-eqb, ne_eqb}
use native.Mathlib.Omega.{arith}
use Rattle.bits.specs.Pick.{pick}
use Rattle.bits.specs.Bits.{bit_at, field_at, put_at, puts_at, put_rows, total}
use Rattle.bits.proofs.FieldLaws.{one_bit}
use Rattle.records.specs.Orbit.{orbit_widths}
use Rattle.records.specs.Clock.{clock_widths}
use Rattle.layout.specs.Layout.{part_widths, orbits_from, end_of}
use Rattle.contents.specs.Parts.{no_mask, mask_part_at, mask_in, clocks_in, orbits_in, biases_in, codes_in, layout_at, contents_at}
use Rattle.layout.specs.declared.Layout.{Layout}
use Rattle.contents.specs.declared.parts.MaskPart.{MaskPart}
use Rattle.contents.proofs.MaskLaws.{mask_bit, none_bit}
use Rattle.layout.proofs.LayoutLaws.{pick_all, clock_total}
use Rattle.canonical.specs.Canon.{layout_for}
use Rattle.canonical.proofs.CanonLaws.{layout_read}
use Rattle.canonical.proofs.KindLaws.{Headed, headed, counted}
use Rattle.fitting.specs.Fits.{head_vals}
use Rattle.writing.specs.Fits.{clock_row, orbit_row}
use Rattle.biases.specs.Biases.{bias_part_at, bias_end}
use Rattle.canonical_biases.specs.Canon.{bias_bits}
use Rattle.writing.specs.Write.{head_put, mask_widths, mask_row, mask_put, clocks_put, orbits_put, bias_put, code_put, parts_put, message_of}
use Rattle.written_back.proofs.CheckBack.{check_beside}
use Rattle.written_back.proofs.ReadSaid.{Said, mask_said, clock_head_said, orbit_head_said, clocks_said, orbits_said}
use Rattle.writing.proofs.TakenLaws.{few}
use Rattle.written_back.proofs.UnderLaws.{Under, under_put, under_puts, under_rows}
use Rattle.written_back.proofs.UnderLast.{under_biases, under_codes}

-- ---- the parts of what was read
under_head : (s t : List ℕ) (l : Layout) → Headed l → (l.head ≡ 14 → (l.clocks ≡ field_at s (0 + 6) 5) × (l.orbits ≡ field_at s (0 + 6 + 5) 3)) → Under s t → Under s (head_put t (field_at s 0 6) l)
unfolding head_put puts_at put_at
under_head s t l (inl e) c u = rw e (under_put s t 0 6 (field_at s 0 6) (inl refl) u)
under_head s t l (inr e) c u =
    let q = c e in
    rw e (under_puts s t 0 (6 ∷ 5 ∷ 3 ∷ []) (field_at s 0 6 ∷ l.clocks ∷ l.orbits ∷ []) (inl refl, (inl q.0, (inl q.1, tt))) u)

mask_bit_said : (s : List ℕ) (l : Layout) (i : ℕ) → i < 255 → Said s (l.head + 27 + total mask_widths * i) mask_widths (mask_row (mask_in s 0 l).bytes i)
unfolding mask_in
mask_bit_said s l i h =
    let a = 0 + l.head + 27 in
    pick_all (λ (m : MaskPart). Said s (l.head + 27 + total mask_widths * i) mask_widths (mask_row m.bytes i)) l.mask (mask_part_at s (0 + l.head)) no_mask (
      inl (mask_bit s a i h ∙ rw (one-mul i, zero-add l.head) (sym (one_bit s (l.head + 27 + i)))),
      tt,
    )
    (inr (none_bit i), tt)

under_mask : (s t : List ℕ) (l : Layout) → Under s t → Under s (mask_put t l (mask_in s 0 l))
unfolding mask_put
under_mask s t l u =
    let m = mask_in s 0 l in
    let vs = head_vals m.epoch m.ssr m.iodp 0 in
    let p = puts_at t l.head (part_widths 4 0) vs in
    let h : Said s l.head (part_widths 4 0) vs = subst (λ (a : ℕ). Said s a (part_widths 4 0) vs) (zero-add l.head) (mask_said s 0 l) in
    pick_all (Under s) l.mask (put_rows p (l.head + 27) mask_widths (mask_row m.bytes) 255) t
    (under_rows s p (l.head + 27) mask_widths (mask_row m.bytes) 255 (mask_bit_said s l) (under_puts s t l.head (part_widths 4 0) vs h u))
    u

under_clocks : (s t : List ℕ) (l : Layout) → l.clocks ≤ 23 → Under s t → Under s (clocks_put t l (clocks_in s 0 l))
unfolding clocks_put
under_clocks s t l n u =
    let k = clocks_in s 0 l in
    let hs = part_widths l.iodp l.start in
    let vs = head_vals k.epoch k.ssr k.iodp k.start in
    let ws = clock_widths l.slotted in
    let from = l.head + (23 + l.iodp + l.start) in
    let p = puts_at t l.head hs vs in
    let h : Said s l.head hs vs = subst (λ (a : ℕ). Said s a hs vs) (zero-add l.head) (clock_head_said s 0 l) in
    pick_all (Under s) (eqb l.clocks 0) t (put_rows p from ws (clock_row k.clocks) l.clocks) u
    (under_rows s p from ws (clock_row k.clocks) l.clocks
    (λ i b.
    subst (λ (w : ℕ). Said s (from + w * i) ws (clock_row k.clocks i)) (sym (clock_total l.slotted))
    (subst (λ (a : ℕ). Said s (a + (23 + l.iodp + l.start) + pick l.slotted 27 18 * i) ws (clock_row k.clocks i)) (zero-add l.head) (clocks_said s 0 l i (omega arith))))
    (under_puts s t l.head hs vs h u))

under_orbits : (s t : List ℕ) (l : Layout) → l.orbits ≤ 6 → Under s t → Under s (orbits_put t l (orbits_in s 0 l))
unfolding orbits_put
under_orbits s t l n u =
    let o = orbits_in s 0 l in
    let vs = head_vals o.epoch o.ssr 0 0 in
    let p = puts_at t (orbits_from l) (part_widths 0 0) vs in
    let h : Said s (orbits_from l) (part_widths 0 0) vs = subst (λ (a : ℕ). Said s a (part_widths 0 0) vs) (zero-add (orbits_from l)) (orbit_head_said s 0 l) in
    pick_all (Under s) (eqb l.orbits 0) t (put_rows p (orbits_from l + 23) orbit_widths (orbit_row o.orbits) l.orbits) u
    (under_rows s p (orbits_from l + 23) orbit_widths (orbit_row o.orbits) l.orbits
    (λ i b. subst (λ (a : ℕ). Said s (a + 23 + 69 * i) orbit_widths (orbit_row o.orbits i)) (zero-add (orbits_from l)) (orbits_said s 0 l i (omega arith)))
    (under_puts s t (orbits_from l) (part_widths 0 0) vs h u))

-- 02, CR 2: biases where no blank has any, so that they are written where they were read
under_bias_part : (s t : List ℕ) (kind : ℕ) → (kind ≡ 3 → (6 + bias_bits (bias_part_at s 6) ≡ bias_end s 6) × (bias_end s 6 ≤ 462)) → Under s t → Under s (bias_put t kind (biases_in s 0 kind))
unfolding bias_put biases_in
under_bias_part s t kind h u =
    dite (ℕ_discrete kind 3)
    (λ e. rw (eq-eqb kind 3 e) (under_biases s (h e).0 (h e).1 t u))
    (λ n. rw (ne_eqb kind 3 n) u)

under_code_part : (s t : List ℕ) (kind : ℕ) → Under s t → Under s (code_put t kind (codes_in s 0 kind))
unfolding code_put codes_in
under_code_part s t kind u =
    dite (ℕ_discrete kind 5)
    (λ e. rw (eq-eqb kind 5 e) (under_codes s t u))
    (λ n. rw (ne_eqb kind 5 n) u)

-- ---- the whole message
under_parts : (s t : List ℕ) (l : Layout) → l ≡ layout_at s 0 → (l.orbits ≤ 6) × (l.clocks ≤ 23)
    → (field_at s 0 6 ≡ 3 → (6 + bias_bits (bias_part_at s 6) ≡ bias_end s 6) × (bias_end s 6 ≤ 462)) → Under s t → Under s (parts_put t (contents_at s 0) l)
unfolding parts_put contents_at
under_parts s t l e n q u =
    let a = field_at s 0 6 in
    let b = field_at s (0 + 6) 5 in
    let d = field_at s (0 + 6 + 5) 3 in
    rw (← e)
    (under_code_part s _ a
    (under_bias_part s _ a q
    (under_orbits s _ l n.0 (under_clocks s _ l n.1 (under_mask s _ l (under_head s t l (rw e (headed a b d)) (rw e (counted a b d)) u))))))

zero_bit : (n j : ℕ) → bit_at (replicate n 0) j ≡ 0
unfolding bit_at
zero_bit n j =
    let e : get_or (replicate {A = ℕ} n 0) (j / 8) 0 ≡ 0 =
    dite (dec_lt (j / 8) n)
    (λ l. get_or-replicate n (j / 8) 0 0 l)
    (λ m. get_or-eq_default (replicate n 0) 0 (omega (arith, length-replicate {A = ℕ} n 0))) in
    rw e (ap (λ (x : ℕ). x % 2) (zero-div (2 ^ (7 - j % 8))))

pub under_message : (s : List ℕ) → end_of (layout_at s 0) ≤ 462 → (field_at s 0 6 ≡ 3 → (6 + bias_bits (bias_part_at s 6) ≡ bias_end s 6) × (bias_end s 6 ≤ 462)) → (j : ℕ) → j < 462 → (bit_at (message_of (contents_at s 0)) j ≡ bit_at s j) ⊎ (bit_at (message_of (contents_at s 0)) j ≡ 0)
unfolding message_of
under_message s e q j h =
    let c = contents_at s 0 in
    let z = replicate {A = ℕ} 61 0 in
    let p = parts_put z c (layout_for c) in
    let n = few c (rw (layout_read s 0) e) in
    rw ((check_beside p).out j (inl h)) (under_parts s z (layout_for c) (layout_read s 0) n q (λ i. inr (zero_bit 61 i)) j)
