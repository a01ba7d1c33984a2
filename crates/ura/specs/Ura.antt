-- 01, URA: code 0 is unknown, codes 1 to 62 give quarter millimetres, code 63 is above 5466.5 mm.
use Rattle.std.specs.Prelude.{ℕ, zero, suc, ◌+◌, ◌-◌, ◌*◌, ◌/◌, ◌%◌, ◌^◌, eqb, ltb}
use Rattle.bits.specs.Pick.{pick}
use Rattle.ura.specs.declared.Ura.{Ura}
use Rattle.ura.specs.declared.Ura.TheVariants.{Unknown, Quarters, Above}

-- 01: code = 8 × class + value gives 3^class × (4 + value) − 4 quarter millimetres
abbrev pub quarters_of : ℕ → ℕ
quarters_of code = 3 ^ (code / 8) * (4 + code % 8) - 4

-- 01: the three kinds by the code
abbrev pub ura_of : ℕ → Ura
ura_of code = pick (eqb code 0) Unknown (pick (ltb code 63) (Quarters (quarters_of code)) Above)

-- the first of the n codes from c on that gives q quarters; 64 if none does
unfoldable pub code_from : ℕ → ℕ → ℕ → ℕ
code_from q c zero = 64
code_from q c (suc n) = pick (eqb (quarters_of c) q) c (code_from q (c + 1) n)

-- 01, Refusal numbers, 16: the code of an index; 64, one bit too wide, where no code gives the quarters
abbrev pub code_of : Ura → ℕ
code_of Unknown = 0
code_of (Quarters q) = code_from q 1 62
code_of Above = 63

-- FORM: the kind of an index as a byte
abbrev pub kind_of : Ura → ℕ
kind_of Unknown = 0
kind_of (Quarters q) = 1
kind_of Above = 2

-- FORM: the quarters of an index, 0 where it has none
abbrev pub quarters_in : Ura → ℕ
quarters_in Unknown = 0
quarters_in (Quarters q) = q
quarters_in Above = 0

-- FORM: the index of a kind byte and quarters; other kinds are unknown
abbrev pub held_ura : ℕ → ℕ → Ura
held_ura kind q = pick (eqb kind 1) (Quarters q) (pick (eqb kind 2) Above Unknown)
