-- Contents are taken exactly if they are within their limits.
use mathlib.Core.Path.{◌≡◌, refl, sym, ◌∙◌}
use mathlib.Core.Logic.{◌≢◌, dite}
use mathlib.Core.Bool.{Bool, true, false, not, ◌||◌}
use mathlib.Core.List.{List}
use Prim.Native.Nat.{ℕ, ◌-◌, ◌^◌, ◌≤◌, ◌<◌}
use lib.Dec.{eqb, ltb}
use lib.ListN.{get_or, length}
use native.Mathlib.Decide.{ℕ_discrete, dec_lt}
use native.Mathlib.Omega.{arith}
use borrow.Author.Tests.{eqb-true, eq-eqb, ne_eqb, lt-ltb, le-ltb, ltb-false, not-false}
use Rattle.bits.specs.Some.{any_of}
use Rattle.records.specs.Orbit.{blank_orbit, orbit_widths}
use Rattle.records.specs.Clock.{blank_clock, clock_widths}
use Rattle.bits.specs.Bits.{Within}
use Rattle.bits.specs.Table.{table}
use Rattle.layout.specs.Layout.{part_widths}
use Rattle.biases.specs.Biases.{sat_widths, bias_widths, blank_sat, no_biases}
use Rattle.ura_codes.specs.Codes.{no_codes}
use Rattle.ura_codes.specs.declared.CodePart.{CodePart}
use Rattle.fitting.specs.Fits.{fits, all_fit}
use Rattle.bias_writing.specs.Put.{sat_row, bias_row, head_of, biases_fit}
use Rattle.biases_back.proofs.BiasesBack.{head_in, sat_in, bias_in}
use Rattle.code_writing.specs.Codes.{code_widths, code_row, code_head, codes_fit}
use Rattle.judge.specs.Judge.{clock_slots, orbit_slots, sat_slots, is_kind, too_long, late, is_high, bad_start, high_slot, is_again, twice, refusal_of}
use Rattle.contents.specs.declared.parts.Contents.{Contents}
use Rattle.canonical.specs.Canon.{layout_for, canon}
use Rattle.writing.specs.Fits.{clock_row, orbit_row, fits_all}
use Rattle.written_back.specs.Limits.{Octets, Once, Limits}
use Rattle.writing.specs.Write.{end_for, content_refusal, write_refusal}
use Rattle.fitting.proofs.FitLaws.{and_left, and_right, all_fit_lem}
use Rattle.fitting.proofs.WithinLaws.{fits_within, within_fits, all_fits}
use Rattle.written_back.proofs.WithinLaws.{fit_parts, fit_biases, fit_codes, parts_fit_lem}
use Rattle.written_back.proofs.SearchLaws.{or_left, or_right, eqb_no, low_found, found_low, single_found, found_single}
use Rattle.writing.proofs.TakenLaws.{first_not, content_taken}
use Rattle.written_back.proofs.ValueLimits.{slot_low, clock_within, within_clock, orbit_within, within_orbit, sat_within, within_sat, bias_within, within_bias, head_within, within_head}
use Rattle.writing.proofs.WriteLaws.{refuses_room, refuses_content}

-- where 8 to 12 do not apply, nor 16, none does
pub content_ok : (c : Contents) → refusal_of (end_for c) c ≡ 0 → fits_all c ≡ true → content_refusal c ≡ 0
unfolding content_refusal
content_ok c z f = rw (eq-eqb _ _ z, f)

-- taken: the room has 61 bytes and nothing applies to the contents
pub write_taken : (room : List ℕ) (c : Contents) → write_refusal room c ≡ 0 → (length room ≡ 61) × (content_refusal (canon c) ≡ 0)
write_taken room c e =
    dite (ℕ_discrete (length room) 61)
    (λ h. (h, sym (refuses_content room c h) ∙ e))
    (λ n. absurd (let z : ◌≡◌ {A = ℕ} 1 0 = sym (refuses_room room c n) ∙ e in let y : ⊥ = omega arith in y))

-- the slots of the records
abbrev clock_slot : Contents → ℕ → ℕ
clock_slot c i = (get_or c.clock.clocks i blank_clock).slot

abbrev orbit_slot : Contents → ℕ → ℕ
orbit_slot c i = (get_or c.orbit.orbits i blank_orbit).slot

abbrev sat_slot : Contents → ℕ → ℕ
sat_slot c i = (get_or c.bias.sats i blank_sat).slot

-- ---- within the limits: taken
biases_fit_lem : (c : Contents) → Limits c → biases_fit c.bias ≡ true
unfolding biases_fit
biases_fit_lem c h =
    rw (
      within_fits (part_widths 0 5) (head_of c.bias) (head_within 0 5 _ _ _ _ h.bias),
      all_fits sat_widths (sat_row c.bias.sats) 31 (λ i b. sat_within _ (h.sats i b)),
      all_fits bias_widths (bias_row c.bias.biases) 25 (λ i b. bias_within _ (h.biases i b)),
    )

codes_fit_lem : (c : Contents) → Limits c → codes_fit c.code ≡ true
unfolding codes_fit
codes_fit_lem c h =
    rw (
      within_fits (part_widths 4 3) (code_head c.code) (head_within 4 3 _ _ _ _ h.code),
      all_fits code_widths (code_row c.code.codes) 70 (λ i b. (h.codes i b, tt)),
    )

-- 01, 16: every field is within its width
limits_fit : (c : Contents) → Limits c → fits_all c ≡ true
limits_fit c h =
    let l = layout_for c in
    parts_fit_lem c (
      within_fits (part_widths 4 0) _ (head_within 4 0 _ _ _ _ h.mask),
      within_fits (part_widths l.iodp l.start) _ (head_within l.iodp l.start _ _ _ _ h.clock),
      within_fits (part_widths 0 0) _ (head_within 0 0 _ _ _ _ h.orbit),
      all_fits (clock_widths l.slotted) (clock_row c.clock.clocks) 23 (λ i b. clock_within l.slotted _ (h.clocks i b)),
      all_fits orbit_widths (orbit_row c.orbit.orbits) 6 (λ i b. orbit_within _ (h.orbits i b)),
      eq-eqb _ 0 h.last,
    )
    (λ e. biases_fit_lem c h)
    (λ e. codes_fit_lem c h)

module _ (c : Contents) (h : Limits c) where
  clocks_low : any_of is_high (clock_slots c.clock.clocks) ≡ false
  unfolding clock_slots
  clocks_low = low_found (clock_slot c) 23 (λ i b. slot_low (layout_for c).slotted (clock_slot c i) (h.clocks i b).slot)

  orbits_low : any_of is_high (orbit_slots c.orbit.orbits) ≡ false
  unfolding orbit_slots
  orbits_low = low_found (orbit_slot c) 6 (λ i b. (h.orbits i b).slot)

  clocks_single : any_of is_again (clock_slots c.clock.clocks) ≡ false
  unfolding clock_slots
  clocks_single = single_found (clock_slot c) 23 h.clocks_once

  orbits_single : any_of is_again (orbit_slots c.orbit.orbits) ≡ false
  unfolding orbit_slots
  orbits_single = single_found (orbit_slot c) 6 h.orbits_once

  sats_low : any_of is_high (sat_slots c.bias.sats) ≡ false
  unfolding sat_slots
  sats_low = low_found (sat_slot c) 31 (λ i b. (h.sats i b).slot)

  sats_single : any_of is_again (sat_slots c.bias.sats) ≡ false
  unfolding sat_slots
  sats_single = single_found (sat_slot c) 31 h.sats_once

  start_good : bad_start c.kind c.clock.count c.clock.start ≡ false
  start_good =
      dite (ℕ_discrete c.kind 6)
      (λ e.
      dite (dec_lt 0 c.clock.count)
      (λ l.
      let g = h.start e l in
      rw (eq-eqb c.kind 6 e, lt-ltb 0 c.clock.count l, ne_eqb c.clock.start 0 (λ z. omega (arith, g.0)), le-ltb 255 c.clock.start g.1))
      (λ n. rw (eq-eqb c.kind 6 e, le-ltb 0 c.clock.count (omega arith))))
      (λ n. rw (ne_eqb c.kind 6 n))

  -- 01, 8 to 12: none applies
  limits_judged : refusal_of (end_for c) c ≡ 0
  unfolding refusal_of
  limits_judged =
      rw (
        h.kind,
        le-ltb 462 (end_for c) h.end,
        le-ltb 86399 c.mask.epoch h.mask.epoch,
        le-ltb 86399 c.clock.epoch h.clock.epoch,
        le-ltb 86399 c.orbit.epoch h.orbit.epoch,
        le-ltb 86399 c.bias.epoch h.bias.epoch,
        le-ltb 86399 c.code.epoch h.code.epoch,
        clocks_low,
        orbits_low,
        start_good,
        clocks_single,
        orbits_single,
        sats_low,
        sats_single,
      )

-- every content within its limits is taken, into any room of 61 bytes
pub limits_taken : (room : List ℕ) (c : Contents) → length room ≡ 61 → Limits (canon c) → write_refusal room c ≡ 0
limits_taken room c e h = refuses_content room c e ∙ content_ok (canon c) (limits_judged (canon c) h) (limits_fit (canon c) h)

-- ---- taken: within the limits
start_right : (kind count start : ℕ) → bad_start kind count start ≡ false → kind ≡ 6 → 0 < count → (1 ≤ start) × (start ≤ 255)
start_right kind count start e k l =
    let g : (eqb start 0 || ltb 255 start) ≡ false = rw (eq-eqb kind 6 k, lt-ltb 0 count l) at e in
    let n = eqb_no start 0 (or_left (eqb start 0) (ltb 255 start) g) in
    (omega (arith, n), ltb-false 255 start (or_right (eqb start 0) (ltb 255 start) g))

found_clocks : (c : Contents) → any_of is_high (clock_slots c.clock.clocks) ≡ false → (i : ℕ) → i < 23 → clock_slot c i ≤ 255
unfolding clock_slots
found_clocks c e = found_low (clock_slot c) 23 e

found_orbits : (c : Contents) → any_of is_high (orbit_slots c.orbit.orbits) ≡ false → (i : ℕ) → i < 6 → orbit_slot c i ≤ 255
unfolding orbit_slots
found_orbits c e = found_low (orbit_slot c) 6 e

once_clocks : (c : Contents) → any_of is_again (clock_slots c.clock.clocks) ≡ false → Once 23 (clock_slot c)
unfolding clock_slots
once_clocks c e = found_single (clock_slot c) 23 e

once_orbits : (c : Contents) → any_of is_again (orbit_slots c.orbit.orbits) ≡ false → Once 6 (orbit_slot c)
unfolding orbit_slots
once_orbits c e = found_single (orbit_slot c) 6 e

found_sats : (c : Contents) → any_of is_high (sat_slots c.bias.sats) ≡ false → (i : ℕ) → i < 31 → sat_slot c i ≤ 255
unfolding sat_slots
found_sats c e = found_low (sat_slot c) 31 e

once_sats : (c : Contents) → any_of is_again (sat_slots c.bias.sats) ≡ false → Once 31 (sat_slot c)
unfolding sat_slots
once_sats c e = found_single (sat_slot c) 31 e

-- 01, 8 to 12: what each says where none applies
pub record Judged (end : ℕ) (c : Contents) : Type 0 where
  pub kind : is_kind c.kind ≡ true
  pub short : end ≤ 462
  pub early : late c ≡ false
  pub low : (high_slot c.kind c.clock c.orbit || any_of is_high (sat_slots c.bias.sats)) ≡ false
  pub once : (twice c.clock c.orbit || any_of is_again (sat_slots c.bias.sats)) ≡ false

pub judged_all : (end : ℕ) (c : Contents) → refusal_of end c ≡ 0 → Judged end c
unfolding refusal_of
judged_all end c e =
    let n8 = first_not 8 _ (not (is_kind c.kind)) (λ z. omega arith) e in
    let n9 = first_not 9 _ (too_long end) (λ z. omega arith) n8.1 in
    let n10 = first_not 10 _ (late c) (λ z. omega arith) n9.1 in
    let n11 = first_not 11 _ (high_slot c.kind c.clock c.orbit || any_of is_high (sat_slots c.bias.sats)) (λ z. omega arith) n10.1 in
    let n12 = first_not 12 _ (twice c.clock c.orbit || any_of is_again (sat_slots c.bias.sats)) (λ z. omega arith) n11.1 in
    record { kind = not-false (is_kind c.kind) n8.0; short = ltb-false 462 end n9.0; early = n10.0; low = n11.0; once = n12.0 }

-- each epoch of five
early_all : (a b d e f : Bool) → (a || b || d || e || f) ≡ false → (a ≡ false) × (b ≡ false) × (d ≡ false) × (e ≡ false) × (f ≡ false)
early_all a b d e f h =
    let o = or_left (a || b || d || e) f h in
    let p = or_left (a || b || d) e o in
    let q = or_left (a || b) d p in
    (or_left a b q, or_right a b q, or_right (a || b) d p, or_right (a || b || d) e o, or_right (a || b || d || e) f h)

-- 02, CR 2: the parts of types 3 and 5 are there, or all zero
abbrev Whole : Contents → Type 0
Whole c = (c.kind ≢ 3 → c.bias ≡ no_biases) × (c.kind ≢ 5 → c.code ≡ no_codes)

no_biases_fit : biases_fit no_biases ≡ true
unfolding no_biases biases_fit fits all_fit table
no_biases_fit = refl

no_codes_fit : codes_fit no_codes ≡ true
unfolding no_codes codes_fit fits all_fit table
no_codes_fit = refl

whole_biases : (c : Contents) → Whole c → fits_all c ≡ true → biases_fit c.bias ≡ true
whole_biases c w f = dite (ℕ_discrete c.kind 3) (fit_biases c f) (λ n. rw (w.0 n) no_biases_fit)

whole_codes : (c : Contents) → Whole c → fits_all c ≡ true → codes_fit c.code ≡ true
whole_codes c w f = dite (ℕ_discrete c.kind 5) (fit_codes c f) (λ n. rw (w.1 n) no_codes_fit)

code_in : (u : CodePart) → codes_fit u ≡ true → Within (part_widths 4 3) (code_head u)
unfolding codes_fit
code_in u e = fits_within (part_widths 4 3) (code_head u) tt (and_left _ _ e)

codes_in : (u : CodePart) → codes_fit u ≡ true → (i : ℕ) → i < 70 → get_or u.codes i 0 < 2 ^ 6
unfolding codes_fit
codes_in u e i h = (fits_within code_widths (code_row u.codes i) tt (all_fit_lem code_widths (code_row u.codes) 70 (and_right (fits (part_widths 4 3) (code_head u)) _ e) i h)).0

content_limits : (c : Contents) → Octets 32 c.mask.bytes → Whole c → content_refusal c ≡ 0 → Limits c
content_limits c octets w e =
    let l = layout_for c in
    let k = content_taken c e in
    let j = judged_all (end_for c) c k.0 in
    let f = fit_parts c k.1 in
    let fb = whole_biases c w k.1 in
    let fu = whole_codes c w k.1 in
    let early = early_all _ _ _ _ _ j.early in
    let hk = any_of is_high (clock_slots c.clock.clocks) in
    let ho = any_of is_high (orbit_slots c.orbit.orbits) in
    let hs = any_of is_high (sat_slots c.bias.sats) in
    let bad = bad_start c.kind c.clock.count c.clock.start in
    let low = or_left (hk || ho || bad) hs j.low in
    let high = or_left (hk || ho) bad low in
    let ak = any_of is_again (clock_slots c.clock.clocks) in
    let ao = any_of is_again (orbit_slots c.orbit.orbits) in
    let ab = any_of is_again (sat_slots c.bias.sats) in
    let once = or_left (ak || ao) ab j.once in
    record {
      kind = j.kind;
      end = j.short;
      mask = within_head 4 0 _ _ _ _ (ltb-false 86399 c.mask.epoch early.0) (fits_within (part_widths 4 0) _ tt f.0);
      clock = within_head l.iodp l.start _ _ _ _ (ltb-false 86399 c.clock.epoch early.1) (fits_within (part_widths l.iodp l.start) _ tt f.1);
      orbit = within_head 0 0 _ _ _ _ (ltb-false 86399 c.orbit.epoch early.2) (fits_within (part_widths 0 0) _ tt f.2);
      bias = within_head 0 5 _ _ _ _ (ltb-false 86399 c.bias.epoch early.3) (head_in c.bias fb);
      code = within_head 4 3 _ _ _ _ (ltb-false 86399 c.code.epoch early.4) (code_in c.code fu);
      start = start_right c.kind c.clock.count c.clock.start (or_right (hk || ho) bad low);
      clocks = λ i b. within_clock l.slotted _ (found_clocks c (or_left hk ho high) i b) (fits_within (clock_widths l.slotted) _ tt (all_fit_lem (clock_widths l.slotted) (clock_row c.clock.clocks) 23 f.3 i b));
      orbits = λ i b. within_orbit _ (found_orbits c (or_right hk ho high) i b) (fits_within orbit_widths _ tt (all_fit_lem orbit_widths (orbit_row c.orbit.orbits) 6 f.4 i b));
      sats = λ i b. within_sat _ (found_sats c (or_right (hk || ho || bad) hs j.low) i b) (sat_in c.bias fb i b);
      biases = λ i b. within_bias _ (bias_in c.bias fb i b);
      codes = codes_in c.code fu;
      clocks_once = once_clocks c (or_left ak ao once);
      orbits_once = once_orbits c (or_right ak ao once);
      sats_once = once_sats c (or_right (ak || ao) ab j.once);
      bytes = octets;
      last = eqb-true _ 0 f.5;
    }

-- canonical contents have no other parts than their type's
canon_whole : (c : Contents) → Whole (canon c)
unfolding canon
canon_whole c = (λ n. rw (ne_eqb c.kind 3 n), λ n. rw (ne_eqb c.kind 5 n))

-- what is taken is within its limits
pub taken_limits : (room : List ℕ) (c : Contents) → Octets 32 (canon c).mask.bytes → write_refusal room c ≡ 0 → Limits (canon c)
taken_limits room c octets e = content_limits (canon c) octets (canon_whole c) (write_taken room c e).1
