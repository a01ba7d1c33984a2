-- A B-CNAV1 subframe 2 heard from a BeiDou satellite, joined into the broadcast list (02, CR 6).
use Rattle.std.specs.Prelude.{ℕ, List, eqb}
use Rattle.bits.specs.Pick.{pick}
use Rattle.bits.specs.Bits.{field_at}
use Rattle.subframe2.specs.Read.{subframe2_refusal}
use Rattle.joining.specs.Join.{join_refusal, joined}

-- 001, figure 6-6: IODC, the 10 bits after WN and HOW
abbrev pub iodc_of : List ℕ → ℕ
iodc_of s = field_at s 21 10

-- 02, CR 6: why a subframe is not joined: 35 to 37 by the reader, else 1, 11, 17 by the joining step; 0 if it is joined
abbrev pub heard_refusal : List ℕ → ℕ → List ℕ → ℕ
heard_refusal is prn s = pick (eqb (subframe2_refusal s) 0) (join_refusal is prn (iodc_of s)) (subframe2_refusal s)

-- 02, CR 6: the list with the IODC of a subframe at the slot of a PRN; as it was on a refusal
abbrev pub heard : List ℕ → ℕ → List ℕ → List ℕ
heard is prn s = pick (eqb (subframe2_refusal s) 0) (joined is prn (iodc_of s)) is
