-- 02, CR 8: a run of errors in a message as read without a ledger.
use Rattle.std.specs.Prelude.{ℕ, ◌≡◌, ◌≢◌, List, Err}
use Rattle.contents.specs.Parts.{no_contents}
use Rattle.verdict.specs.Verdict.{says, number_in}
use Rattle.message.specs.Read.{Answer, read_message}
use Rattle.verdict.specs.declared.Refusal.TheVariants.{Number}
use Rattle.bursts.specs.Run.{Run}

-- 02, CR 8: the number that the message is refused with, as read without a ledger; 0 if it is taken
abbrev pub refusal : List ℕ → ℕ
refusal s = number_in (read_message s).said

-- 02, CR 8: "refused neither 1, 2 nor 7"
abbrev pub Passes : List ℕ → Type 0
Passes s = (refusal s ≢ 1) × (refusal s ≢ 2) × (refusal s ≢ 7)

-- 01, Refusal numbers: refused with n, and nothing else said
abbrev pub refused_with : ℕ → Answer
refused_with n = record { said = says (Err (Number n)); contents = no_contents }

-- 02, CR 8: "one or more of its 486 bits" changed, "the changed message is refused 7", whatever the message and the run
abbrev pub Caught : ℕ → Type 0
Caught k = (s t : List ℕ) → Passes s → Run 486 k s t → read_message t ≡ refused_with 7

-- 02, CR 8: "A run of errors is always caught", within 24 neighbouring positions
abbrev pub RunsCaught : Type 0
RunsCaught = Caught 24
