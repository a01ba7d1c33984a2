-- The C boundary; 02, CR 2: the code part of contents, bytes 439 to 515. Numbers are high byte first.
use Rattle.std.specs.Prelude.{ℕ, ◌/◌, ◌%◌, List, [], ◌∷◌, ◌++◌, get_or}
use Rattle.bits.specs.Bytes.{row_at}
use Rattle.lent.specs.Digits.{four_at}
use Rattle.ura_codes.specs.declared.CodePart.{CodePart}

-- epoch (4), IOD SSR (1), IODP (1), sub-type (1)
abbrev pub flat_code_head : ℕ → ℕ → ℕ → ℕ → List ℕ
flat_code_head epoch ssr iodp sub =
    epoch / 65536 / 256 ∷ epoch / 65536 % 256 ∷ epoch % 65536 / 256 ∷ epoch % 65536 % 256 ∷ ssr ∷ iodp ∷ sub ∷ []

-- the code part: 77 bytes
unfoldable pub codes_bytes : CodePart → List ℕ
codes_bytes u = flat_code_head u.epoch u.ssr u.iodp u.sub ++ row_at u.codes 0 70

-- the code part that bytes say
unfoldable pub flat_codes_in : List ℕ → CodePart
flat_codes_in s = record { epoch = four_at s 439; ssr = get_or s 443 0; iodp = get_or s 444 0; sub = get_or s 445 0; codes = row_at s 446 70 }
