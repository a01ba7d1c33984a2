-- 01, What arrives and what is handled: 16 symbols of sync, 6 of PRN, 6 of flags, 972 coded; the message is the first 486 of those.
use Rattle.std.specs.Prelude.{ℕ, Bool, false, not, ◌&&◌, ◌||◌, List, [], ◌∷◌, eqb, leb, length}
use Rattle.bits.specs.Pick.{pick}
use Rattle.bits.specs.Bits.{bit_at, field_at}
use Rattle.bits.specs.Some.{first}
use Rattle.check24.specs.Check.{check_ok}
use Rattle.parity.specs.Parity.{parity_ok, failed_groups}
use Rattle.contents.specs.Parts.{contents_at, no_contents}
use Rattle.judge.specs.Judge.{refusal_at}
use Rattle.verdict.specs.Verdict.{refused_by}
use Rattle.contents.specs.declared.parts.Contents.{Contents}
use Rattle.message.specs.Read.{Answer}

-- 01: the satellite's PRN, after the sync
abbrev pub prn_of : List ℕ → ℕ
prn_of f = field_at f 16 6

-- 01: the message begins at bit 28
abbrev pub contents_of : List ℕ → Contents
contents_of f = contents_at f 28

-- 01, Refusal numbers 1, 3, 4 where the frame is foreign, 5, 6, 7: the lowest that applies
unfoldable pub shell_refusal : Bool → List ℕ → ℕ
shell_refusal foreign f =
    first
    ((1, not (eqb (length f) 125))
    ∷ (3, not (eqb (field_at f 0 16) 0xEB90))
    ∷ (4, foreign)
    ∷ (5, eqb (bit_at f 22) 1)
    ∷ (6, not (parity_ok f))
    ∷ (7, not (check_ok f 28 462))
    ∷ [])

-- 01, Refusal numbers: those of the frame around its message, then 8 to 12
unfoldable pub refusal_with : Bool → List ℕ → ℕ
refusal_with foreign f =
    first ((shell_refusal foreign f, not (eqb (shell_refusal foreign f) 0)) ∷ (refusal_at f 28, not (eqb (refusal_at f 28) 0)) ∷ [])

-- 02, CR 1: what is said of a frame's number; 6 also gives the first failing group and how many of the 81 fail
unfoldable pub frame_says : List ℕ → ℕ → List ℕ
frame_says f n = pick (eqb n 6) (6 ∷ (failed_groups f).first ∷ (failed_groups f).failing ∷ []) (refused_by n)

-- the answer: the contents, or only the refusal
unfoldable pub read_with : Bool → List ℕ → Answer
read_with foreign f =
    record { said = frame_says f (refusal_with foreign f); contents = pick (eqb (refusal_with foreign f) 0) (contents_of f) no_contents }

-- 01: reading without a ledger makes no check 4
abbrev pub read_frame : List ℕ → Answer
read_frame f = read_with false f

-- 01: a ledger is made for one PRN among 1 to 5 and 59 to 63
abbrev pub is_prn : ℕ → Bool
is_prn prn = (leb 1 prn && leb prn 5) || (leb 59 prn && leb prn 63)

-- 01, 4: the frame's PRN is not the ledger's; bytes that are no ledger of the ten have none
abbrev pub foreign_to : ℕ → List ℕ → Bool
foreign_to prn f = not (is_prn prn && eqb (prn_of f) prn)

-- what is said of the frame around its message, for a ledger's PRN
abbrev pub shell_for : ℕ → List ℕ → List ℕ
shell_for prn f = frame_says f (shell_refusal (foreign_to prn f) f)
