-- 02, CR 2: the part of a type 5 written: whether its fields are within their widths, and what is put.
use Rattle.std.specs.Prelude.{ℕ, ◌+◌, Bool, ◌&&◌, List, [], ◌∷◌, get_or}
use Rattle.bits.specs.Bits.{puts_at, put_rows}
use Rattle.layout.specs.Layout.{part_widths}
use Rattle.ura_codes.specs.declared.CodePart.{CodePart}
use Rattle.fitting.specs.Fits.{head_vals, fits, all_fit}

-- 000, table 6-8: URAI [6]
abbrev pub code_widths : List ℕ
code_widths = 6 ∷ []

-- code i, from 0
abbrev pub code_row : List ℕ → ℕ → List ℕ
code_row codes i = get_or codes i 0 ∷ []

-- 000, table 6-8: epoch, reserved (zero), IOD SSR, IODP, sub-type
abbrev pub code_head : CodePart → List ℕ
code_head u = head_vals u.epoch u.ssr u.iodp u.sub

-- 01, 16: every field of the part is within its width
unfoldable pub codes_fit : CodePart → Bool
codes_fit u = fits (part_widths 4 3) (code_head u) && all_fit code_widths (code_row u.codes) 70

-- the part put from bit `at` on, the bit after the type
unfoldable pub codes_put : List ℕ → ℕ → CodePart → List ℕ
codes_put s at u = put_rows (puts_at s at (part_widths 4 3) (code_head u)) (at + 30) code_widths (code_row u.codes) 70
