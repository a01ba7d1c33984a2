-- 02, CR 2; 000, section 6.2.6: the part of a type 5, URA codes by place.
use Rattle.std.specs.Prelude.{ℕ, ◌+◌, ◌*◌, List, get_or}
use Rattle.bits.specs.Bits.{field_at, fields_at}
use Rattle.bits.specs.Table.{table}
use Rattle.layout.specs.Layout.{part_widths}
use Rattle.ura_codes.specs.declared.CodePart.{CodePart}

-- 000, table 6-8: each URAI [6] is a code (01: 8 × class + value); code i, from 0, of a row from bit `at` on
abbrev pub code_nth : List ℕ → ℕ → ℕ → ℕ
code_nth s at i = field_at s (at + 6 * i) 6

-- 000, section 6.2.6: the 70 codes of a part
unfoldable pub codes_at : List ℕ → ℕ → List ℕ
codes_at s at = table (code_nth s at) 70

-- 000, table 6-8: epoch [17], reserved [4], IOD SSR [2], IODP [4], sub-type [3], 70 codes; `at` is the bit after the type
abbrev pub code_part_at : List ℕ → ℕ → CodePart
code_part_at s at =
    let h = fields_at s at (part_widths 4 3) in
    record { epoch = get_or h 0 0; ssr = get_or h 2 0; iodp = get_or h 3 0; sub = get_or h 4 0; codes = codes_at s (at + 30) }

-- an absent part is all zero
unfoldable pub no_codes : CodePart
no_codes = record { epoch = 0; ssr = 0; iodp = 0; sub = 0; codes = table (λ (i : ℕ). 0) 70 }
