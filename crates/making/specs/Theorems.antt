-- 02, CR 9: what holds between making, checking and reading.
use Rattle.std.specs.Prelude.{ℕ, ◌<◌, ◌≤◌, ◌≡◌, true, List, length}
use Rattle.bits.specs.Bits.{field_at}
use Rattle.parity.specs.Parity.{symbol_of}
use Rattle.frame.specs.Frame.{is_prn}
use Rattle.making.specs.Make.{Made, make_refusal, Leaves}
use Rattle.making.specs.Check.{check_refusal}

-- 02, CR 9: "No message may be refused for want of parity symbols": any 486 bits, a PRN among the ten and six flags are taken
abbrev pub NoneRefused : Type 0
NoneRefused =
    (message room : List ℕ) (prn flags : ℕ)
    → length message ≡ 61 → length room ≡ 125 → field_at message 486 2 ≡ 0 → is_prn prn ≡ true → flags ≤ 63
    → make_refusal message prn flags room ≡ 0

-- 02, CR 9: the parity "is also the only one": a message, a PRN and flags have a single frame
abbrev pub MadeOnce : Type 0
MadeOnce = (message f g : List ℕ) (prn flags : ℕ) → Made message prn flags f → Made message prn flags g → f ≡ g

-- 01, How tight the wording has to be: what the room holds at the end is a single answer, made or refused
abbrev pub LeavesOnce : Type 0
LeavesOnce =
    (message room a b : List ℕ) (prn flags : ℕ) → Leaves message prn flags room a → Leaves message prn flags room b → a ≡ b

-- 02, CR 9: the checker accepts what the maker makes
abbrev pub MadeAccepted : Type 0
MadeAccepted =
    (message room frame : List ℕ) (prn flags : ℕ)
    → make_refusal message prn flags room ≡ 0 → Made message prn flags frame → check_refusal message frame ≡ 0

-- 02, CR 9: a frame that the checker accepts has the maker's coded part
abbrev pub AcceptedMade : Type 0
AcceptedMade =
    (message room f g : List ℕ) (prn flags : ℕ)
    → check_refusal message f ≡ 0 → make_refusal message prn flags room ≡ 0 → Made message prn flags g
    → (k : ℕ) → k < 162 → symbol_of f k ≡ symbol_of g k
