-- The part of a type 5 is read back as it was put, and what is read fits.
use mathlib.Core.Path.{◌≡◌, refl, ap, ◌∙◌}
use mathlib.Core.Bool.{true}
use mathlib.Core.List.{List}
use Prim.Native.Nat.{ℕ, ◌+◌, ◌*◌, ◌≤◌, ◌<◌}
use lib.ListN.{get_or, length}
use native.Mathlib.Omega.{arith}
use Rattle.bits.specs.Bits.{field_at, fields_at}
use Rattle.bits.proofs.FieldLaws.{field_lt}
use Rattle.bits.proofs.TableLaws.{get_or_table, length_table, table_ext, table_same}
use Rattle.layout.specs.Layout.{part_widths}
use Rattle.ura_codes.specs.Codes.{code_nth, codes_at, code_part_at}
use Rattle.ura_codes.specs.declared.CodePart.{CodePart}
use Rattle.fitting.specs.Fits.{fits}
use Rattle.fitting.proofs.FitLaws.{and_left, and_right, all_fit_lem}
use Rattle.fitting.proofs.WithinLaws.{fits_within, within_fits, all_fits}
use Rattle.fitting.proofs.BesideLaws.{Beside, beside_same, part_beside}
use Rattle.fitting.proofs.PartBack.{head_back, row_back}
use Rattle.code_writing.specs.Codes.{code_widths, code_row, code_head, codes_fit, codes_put}

-- only bits from `at` up to its end change
pub codes_beside : (s : List ℕ) (at : ℕ) (u : CodePart) → Beside at (at + 450) s (codes_put s at u)
unfolding codes_put
codes_beside s at u = part_beside s at (at + 30) (at + 450) (part_widths 4 3) (code_head u) code_widths (code_row u.codes) 70 refl (omega arith)

-- ---- the part put into s; and t, which has it but for bits from its end up to hi
module _ (s t : List ℕ) (at hi : ℕ) (u : CodePart) (fit : codes_fit u ≡ true) (room : at + 450 ≤ 8 * length s) (kept : Beside (at + 450) hi (codes_put s at u) t) where
  head_fields : fields_at t at (part_widths 4 3) ≡ code_head u
  unfolding codes_put codes_fit
  head_fields =
      head_back s t (codes_put s at u) at (at + 30) (at + 450) hi (part_widths 4 3) (code_head u) code_widths (code_row u.codes) 70 refl (omega arith) room refl kept
      (fits_within (part_widths 4 3) (code_head u) tt (and_left _ _ fit))

  code_field : (i : ℕ) → i < 70 → field_at t (at + 30 + 6 * i) 6 ≡ get_or u.codes i 0
  unfolding codes_put codes_fit
  code_field i h =
      ap (λ (xs : List ℕ). get_or xs 0 0)
      (row_back s t (codes_put s at u) at (at + 30) (at + 450) hi (part_widths 4 3) (code_head u) code_widths (code_row u.codes) 70 refl (omega arith) room refl kept
      i h (fits_within code_widths (code_row u.codes i) tt (all_fit_lem code_widths (code_row u.codes) 70 (and_right (fits (part_widths 4 3) (code_head u)) _ fit) i h)))

  -- 02: what was put is read
  pub codes_back : length u.codes ≡ 70 → code_part_at t at ≡ u
  unfolding codes_at
  codes_back long =
      let f : (j : ℕ) → get_or (fields_at t at (part_widths 4 3)) j 0 ≡ get_or (code_head u) j 0 = (λ j. ap (λ (xs : List ℕ). get_or xs j 0) head_fields) in
      let e : codes_at t (at + 30) ≡ u.codes = table_ext (code_nth t (at + 30)) (λ (i : ℕ). get_or u.codes i 0) 70 code_field ∙ table_same u.codes 70 0 long in
      rw (f 0, f 2, f 3, f 4, e)

-- with nothing put after it
pub put_read : (s : List ℕ) (at : ℕ) (u : CodePart) → codes_fit u ≡ true → length u.codes ≡ 70 → at + 450 ≤ 8 * length s → code_part_at (codes_put s at u) at ≡ u
put_read s at u fit long room = codes_back s (codes_put s at u) at 0 u fit room (beside_same _ _ _) long

-- 01, 16: what is read fits
pub read_fits : (s : List ℕ) (at : ℕ) → codes_fit (code_part_at s at) ≡ true
unfolding codes_fit codes_at
read_fits s at =
    rw (
      within_fits (part_widths 4 3) (code_head (code_part_at s at))
          (field_lt s at 17, (omega arith, (field_lt s (at + 17 + 4) 2, (field_lt s (at + 17 + 4 + 2) 4, (field_lt s (at + 17 + 4 + 2 + 4) 3, tt))))),
      all_fits code_widths (code_row (code_part_at s at).codes) 70 (λ i h. (rw (get_or_table (code_nth s (at + 30)) 70 i 0 h) (field_lt s (at + 30 + 6 * i) 6), tt)),
    )

-- it has 70 codes
pub read_long : (s : List ℕ) (at : ℕ) → length (code_part_at s at).codes ≡ 70
unfolding codes_at
read_long s at = length_table (code_nth s (at + 30)) 70
