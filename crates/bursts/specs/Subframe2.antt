-- 02, CR 6 and CR 8: a run of errors in subframe 2 of B-CNAV1.
use Rattle.std.specs.Prelude.{ℕ, ◌≡◌, ◌≢◌, List, pos, replicate, Err}
use Rattle.verdict.specs.Verdict.{says, number_in}
use Rattle.verdict.specs.declared.Refusal.TheVariants.{Number}
use Rattle.subframe2.specs.Read.{Answer, read_subframe2}
use Rattle.bursts.specs.Run.{Run}

-- 02, CR 6: the number that the subframe is refused with; 0 if it is taken
abbrev pub subframe2_number : List ℕ → ℕ
subframe2_number s = number_in (read_subframe2 s).said

-- 02, CR 6: refused neither 35 nor 36: 75 bytes whose check is right
abbrev pub Subframe2Passes : List ℕ → Type 0
Subframe2Passes s = (subframe2_number s ≢ 35) × (subframe2_number s ≢ 36)

-- 02, CR 6: refused with n, and nothing else said: all 31 fields are 0
abbrev pub subframe2_refused_with : ℕ → Answer
subframe2_refused_with n = record { said = says (Err (Number n)); fields = replicate 31 (pos 0) }

-- 02, CR 8, of the 600 bits of a subframe: one or more changed, all within k neighbouring positions, it is refused 36
abbrev pub Subframe2Caught : ℕ → Type 0
Subframe2Caught k = (s t : List ℕ) → Subframe2Passes s → Run 600 k s t → read_subframe2 t ≡ subframe2_refused_with 36

-- 02, CR 8: "A run of errors is always caught", within 24 neighbouring positions
abbrev pub Subframe2RunsCaught : Type 0
Subframe2RunsCaught = Subframe2Caught 24
