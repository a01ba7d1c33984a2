-- 01, Examples to hold against it: the statement holds, computed.
use mathlib.Core.Path.{◌≡◌, refl, sym, ap, ◌∙◌}
use Prim.Native.Nat.{ℕ}
use mathlib.Core.List.{List, [], ◌∷◌}
use Rattle.bits.specs.Bits.{bit_at}
use Rattle.bits.specs.Table.{table}
use Rattle.bits.specs.Some.{any_of}
use Rattle.field64.proofs.Examples.{products}
use Rattle.check24.proofs.Examples.{checks}
use Rattle.slots.specs.Slots.{set_count, nth_from}
use native.Mathlib.Omega.{arith}
use Rattle.layout.specs.Layout.{layout_of, end_of}
use Rattle.contents.specs.Parts.{mask_bits_at, no_mask, no_clocks, no_orbits, contents_at}
use Rattle.biases.specs.Biases.{no_biases}
use Rattle.ura_codes.specs.Codes.{no_codes}
use Rattle.judge.specs.Judge.{clock_slots, orbit_slots, sat_slots, refusal_of, refusal_at}
use Rattle.judge.proofs.Examples.{refused_6_3_5}
use Rattle.lookback.specs.Store.{naming, all_same}
use Rattle.lookback.specs.Walk.{rows_from}
use Rattle.newest.specs.Newest.{is_newer, replaces}
use Rattle.held_clocks.specs.Clocks.{clock_replaces}
use Rattle.held_orbits.specs.Orbits.{orbit_replaces}
use Rattle.held_mask.specs.Mask.{held_mask, same_bits, same_mask}
use Rattle.held_mask.specs.OldForm.{number_of, packed}
use Rattle.places.specs.Keeps.{by_place, by_slot, mask_of, orbits_of, clocks_of, codes_of, place_refusal, mask_refusal}
use Rattle.row.specs.Row.{is_assigned, usable, agrees, coded, qualifies, row_of}
use Rattle.in_force.specs.Back.{mask_in_force}
use Rattle.list_right.specs.Good.{Good}
use Rattle.list_right.specs.Examples.{one, two, four, other, sent, issues, row19, Hold}
use Rattle.list_right.proofs.FramesLaws.{frames_good}
use Rattle.list_right.proofs.AcceptedLaws.{refusal_by_layout, mask_over, orbit_over, clock_over, code_over, Readable, Sound, list_from, mask_over_lem, list_over, taken_over, refusal_good}

-- 8 to 12 do not apply to any of the contents
pub judged : Readable other × Readable four × Readable two × Readable one
unfolding refusal_of clock_slots orbit_slots sat_slots any_of layout_of no_mask no_clocks no_orbits no_biases no_codes table
judged =
    (record { kind = omega arith; sound = refl }, record { kind = omega arith; sound = refl }, record { kind = omega arith; sound = refl }, record { kind = omega arith; sound = refl })

-- type 6: 3 and 5
too_long : (s : List ℕ) (at : ℕ) → (contents_at s at).kind ≡ 6 → (contents_at s at).clock.count ≡ 3 → (contents_at s at).orbit.count ≡ 5 → refusal_at s at ≡ 9
too_long s at k n m =
    let c = contents_at s at in
    refusal_by_layout s at (λ e. let z : ◌≡◌ {A = ℕ} 6 3 = sym k ∙ e in omega arith)
    ∙ ap (λ (j : ℕ). refusal_of (end_of (layout_of j c.clock.count c.orbit.count)) c) k
    ∙ ap (λ (j : ℕ). refusal_of (end_of (layout_of 6 j c.orbit.count)) c) n
    ∙ ap (λ (j : ℕ). refusal_of (end_of (layout_of 6 3 j)) c) m
    ∙ refused_6_3_5 c k

-- 14 and 15 do not apply, under the mask that the contents before them leave
placed : (mask_refusal (mask_over sent) other ≡ 0) × (mask_refusal (mask_over (two ∷ one ∷ [])) four ≡ 0) × (mask_refusal (mask_over (one ∷ [])) two ≡ 0) × (mask_refusal (mask_over []) one ≡ 0)
unfolding place_refusal mask_over mask_of mask_bits_at bit_at packed number_of set_count no_mask no_clocks no_orbits table
placed = (refl, refl, refl, refl)

pub sound_sent : Sound sent
sound_sent = (judged.1, placed.1, (judged.2, placed.2, (judged.3, placed.3, tt)))

pub sound_other : Sound (other ∷ sent)
sound_other = (judged.0, placed.0, sound_sent)

whole_over : list_from 60 sent issues ≡ row19 ∷ []
unfolding list_from mask_over mask_bits_at bit_at packed number_of orbit_over clock_over code_over mask_of orbits_of clocks_of codes_of by_place by_slot naming clock_replaces orbit_replaces replaces is_newer all_same same_bits same_mask set_count nth_from rows_from row_of coded qualifies is_assigned agrees usable no_mask no_clocks no_orbits table
whole_over = refl

gone_over : list_from 60 (other ∷ sent) issues ≡ []
unfolding list_from mask_over mask_bits_at bit_at packed number_of orbit_over clock_over code_over mask_of orbits_of clocks_of codes_of by_place by_slot naming clock_replaces orbit_replaces replaces is_newer all_same same_bits same_mask set_count nth_from rows_from row_of coded qualifies is_assigned agrees usable no_mask no_clocks no_orbits table
gone_over = refl

again_over : mask_refusal (mask_over (other ∷ sent)) four ≡ 14
unfolding place_refusal mask_over mask_of mask_bits_at bit_at packed number_of set_count no_mask no_clocks no_orbits table
again_over = refl

-- the mask in force after the frames of the whole list is that of its type 1
pub mask_one : (h : List (List ℕ)) → Good 60 h sent → mask_in_force 60 h ≡ held_mask one.mask
unfolding mask_over mask_of
mask_one h G = mask_over_lem 60 h sent G sound_sent

-- THE EXAMPLES HOLD
pub examples : Hold
unfolding layout_of
examples = record {
  field = products;
  check = checks;
  ends = (refl, refl, refl, refl);
  long = too_long;
  ura = (refl, refl);
  there = frames_good;
  taken = λ h G. taken_over 60 h sent G sound_sent;
  whole = λ h G. list_over 60 h sent issues G sound_sent ∙ whole_over;
  gone = λ h G. (taken_over 60 h (other ∷ sent) G sound_other, list_over 60 h (other ∷ sent) issues G sound_other ∙ gone_over);
  again = λ f h G. refusal_good 60 f h four (other ∷ sent) G judged.1 sound_other ∙ again_over;
}
