-- 02, CR 9: "a small checker accepts only a frame that keeps the 81 message symbols and has all 81 groups zero".
use Rattle.std.specs.Prelude.{ℕ, zero, suc, Bool, true, not, ◌&&◌, List, [], ◌∷◌, eqb, length}
use Rattle.bits.specs.Bits.{field_at}
use Rattle.bits.specs.Some.{first}
use Rattle.parity.specs.Parity.{symbol_of, parity_ok}
use Rattle.frame.specs.Frame.{frame_says}
use Rattle.making.specs.Make.{message_symbol, wrong_length}

-- 02, CR 9: the frame's first n symbols are those of the message
unfoldable pub keeps : List ℕ → List ℕ → ℕ → Bool
keeps message frame zero = true
keeps message frame (suc n) = eqb (message_symbol message n) (symbol_of frame n) && keeps message frame n

-- 02, CR 9: "refuses 1, 2, 3 for the sync, 6 for a group, 38 for changed message symbols; lowest first"
unfoldable pub check_refusal : List ℕ → List ℕ → ℕ
check_refusal message frame =
    first
    ((1, wrong_length (length message) (length frame))
    ∷ (2, not (eqb (field_at message 486 2) 0))
    ∷ (3, not (eqb (field_at frame 0 16) 0xEB90))
    ∷ (6, not (parity_ok frame))
    ∷ (38, not (keeps message frame 81))
    ∷ [])

-- 02, CR 9 and CR 1: what is said of it; 6 also gives the first failing group and how many of the 81 fail
abbrev pub check_says : List ℕ → List ℕ → List ℕ
check_says message frame = frame_says frame (check_refusal message frame)
