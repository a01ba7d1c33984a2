-- 02, CR 2: what a type 5 makes of the list of 01's example, computed.
use mathlib.Core.Path.{◌≡◌, refl, ◌∙◌}
use Prim.Native.Nat.{ℕ}
use mathlib.Core.List.{[], ◌∷◌}
use native.Mathlib.Omega.{arith}
use Rattle.bits.specs.Bits.{bit_at}
use Rattle.bits.specs.Table.{table}
use Rattle.bits.specs.Some.{any_of}
use Rattle.slots.specs.Slots.{set_count, nth_from}
use Rattle.ura.specs.declared.Ura.TheVariants.{Quarters}
use Rattle.biases.specs.Biases.{no_biases}
use Rattle.ura_codes.specs.Codes.{no_codes}
use Rattle.layout.specs.Layout.{layout_of}
use Rattle.contents.specs.Parts.{mask_bits_at, no_mask, no_clocks, no_orbits}
use Rattle.judge.specs.Judge.{clock_slots, orbit_slots, sat_slots, refusal_of}
use Rattle.lookback.specs.Store.{naming, all_same}
use Rattle.lookback.specs.Walk.{rows_from}
use Rattle.newest.specs.Newest.{is_newer, replaces}
use Rattle.held_clocks.specs.Clocks.{clock_replaces}
use Rattle.held_orbits.specs.Orbits.{orbit_replaces}
use Rattle.held_mask.specs.Mask.{same_bits, same_mask}
use Rattle.held_mask.specs.OldForm.{number_of, packed}
use Rattle.places.specs.Keeps.{by_place, by_slot, mask_of, orbits_of, clocks_of, codes_of, place_refusal, code_refusal, mask_refusal}
use Rattle.row.specs.Row.{is_assigned, usable, agrees, coded, qualifies, row_of}
use Rattle.list_right.specs.Examples.{one, two, four, other, sent, issues, row19}
use Rattle.list_right.specs.Codes.{five, row19_with, Replaced}
use Rattle.list_right.proofs.Examples.{judged, sound_sent, sound_other}
use Rattle.list_right.proofs.AcceptedLaws.{mask_over, orbit_over, clock_over, code_over, Readable, Sound, list_from, list_over, taken_over, refusal_good}

-- 8 to 12 do not apply to a type 5 of epoch 3618
read_five : (sub code : ℕ) → Readable (five sub code)
unfolding refusal_of clock_slots orbit_slots sat_slots any_of layout_of no_mask no_clocks no_orbits no_biases table
read_five sub code = record { kind = omega arith; sound = refl }

-- 14 and 15 do not apply under the masks that come before, to a type 5 of sub-type 0 and to what follows it
placed_5 : (code : ℕ) → (mask_refusal (mask_over sent) (five 0 code) ≡ 0) × (mask_refusal (mask_over (five 0 0 ∷ sent)) (five 0 code) ≡ 0) × (mask_refusal (mask_over (one ∷ [])) (five 0 code) ≡ 0)
unfolding code_refusal mask_over mask_of mask_bits_at bit_at packed number_of set_count no_mask table
placed_5 code = (refl, refl, refl)

placed_after : (mask_refusal (mask_over (five 0 0 ∷ sent)) two ≡ 0)
    × (mask_refusal (mask_over (five 0 0 ∷ sent)) other ≡ 0)
    × (mask_refusal (mask_over (other ∷ five 0 0 ∷ sent)) one ≡ 0)
    × (mask_refusal (mask_over (one ∷ other ∷ five 0 0 ∷ sent)) four ≡ 0)
    × (mask_refusal (mask_over (five 0 0 ∷ one ∷ [])) two ≡ 0)
    × (mask_refusal (mask_over (two ∷ five 0 0 ∷ one ∷ [])) four ≡ 0)
    × (mask_refusal (mask_over []) one ≡ 0)
unfolding place_refusal code_refusal mask_over mask_of mask_bits_at bit_at packed number_of set_count no_mask no_clocks no_orbits table
placed_after = (refl, refl, refl, refl, refl, refl, refl)

sound_5 : (code : ℕ) → Sound (five 0 code ∷ sent)
sound_5 code = (read_five 0 code, (placed_5 code).0, sound_sent)

sound_latest : Sound (five 0 1 ∷ five 0 0 ∷ sent)
sound_latest = (read_five 0 1, (placed_5 1).1, sound_5 0)

sound_orbit : Sound (two ∷ five 0 0 ∷ sent)
sound_orbit = (judged.2, placed_after.0, sound_5 0)

sound_mask : Sound (four ∷ one ∷ other ∷ five 0 0 ∷ sent)
sound_mask = (judged.1, placed_after.3, (judged.3, placed_after.2, (judged.0, placed_after.1, sound_5 0)))

sound_early : Sound (four ∷ two ∷ five 0 0 ∷ one ∷ [])
sound_early = (judged.1, placed_after.5, (judged.2, placed_after.4, (read_five 0 0, (placed_5 0).2, (judged.3, placed_after.6, tt))))

-- the lists
lists : (list_from 60 (five 0 1 ∷ sent) issues ≡ row19_with (Quarters 1) ∷ [])
    × (list_from 60 (five 0 0 ∷ sent) issues ≡ [])
    × (list_from 60 (five 0 1 ∷ five 0 0 ∷ sent) issues ≡ row19_with (Quarters 1) ∷ [])
    × (list_from 60 (two ∷ five 0 0 ∷ sent) issues ≡ row19 ∷ [])
    × (list_from 60 (four ∷ one ∷ other ∷ five 0 0 ∷ sent) issues ≡ row19 ∷ [])
    × (list_from 60 (four ∷ two ∷ five 0 0 ∷ one ∷ []) issues ≡ row19 ∷ [])
unfolding list_from mask_over mask_bits_at bit_at packed number_of orbit_over clock_over code_over mask_of orbits_of clocks_of codes_of by_place by_slot naming clock_replaces orbit_replaces replaces is_newer all_same same_bits same_mask set_count nth_from rows_from row_of coded qualifies is_assigned agrees usable no_mask no_clocks no_orbits no_codes table
lists = (refl, refl, refl, refl, refl, refl)

-- 14 and 15
refused : (mask_refusal (mask_over (other ∷ sent)) (five 0 1) ≡ 14) × (mask_refusal (mask_over sent) (five 1 1) ≡ 15)
unfolding code_refusal mask_over mask_of mask_bits_at bit_at packed number_of set_count no_mask table
refused = (refl, refl)

-- THE CASES OF A TYPE 5
pub replaced : Replaced
replaced = record {
  code = λ h G. (taken_over 60 h (five 0 1 ∷ sent) G (sound_5 1), list_over 60 h (five 0 1 ∷ sent) issues G (sound_5 1) ∙ lists.0);
  unknown = λ h G. (taken_over 60 h (five 0 0 ∷ sent) G (sound_5 0), list_over 60 h (five 0 0 ∷ sent) issues G (sound_5 0) ∙ lists.1);
  latest = λ h G. (taken_over 60 h (five 0 1 ∷ five 0 0 ∷ sent) G sound_latest, list_over 60 h (five 0 1 ∷ five 0 0 ∷ sent) issues G sound_latest ∙ lists.2);
  orbit = λ h G. (taken_over 60 h (two ∷ five 0 0 ∷ sent) G sound_orbit, list_over 60 h (two ∷ five 0 0 ∷ sent) issues G sound_orbit ∙ lists.3);
  mask = λ h G. (taken_over 60 h (four ∷ one ∷ other ∷ five 0 0 ∷ sent) G sound_mask, list_over 60 h (four ∷ one ∷ other ∷ five 0 0 ∷ sent) issues G sound_mask ∙ lists.4);
  early = λ h G. (taken_over 60 h (four ∷ two ∷ five 0 0 ∷ one ∷ []) G sound_early, list_over 60 h (four ∷ two ∷ five 0 0 ∷ one ∷ []) issues G sound_early ∙ lists.5);
  foreign = λ f h G. refusal_good 60 f h (five 0 1) (other ∷ sent) G (read_five 0 1) sound_other ∙ refused.0;
  far = λ f h G. refusal_good 60 f h (five 1 1) sent G (read_five 1 1) sound_sent ∙ refused.1;
}
