-- A log, taken piece by piece: each piece goes to the ledger as a frame.
use Rattle.std.specs.Prelude.{ℕ, ◌≤◌, ◌≡◌, List, [], ◌∷◌, reverse, length, take, drop}
use Rattle.pieces.specs.Pieces.{piece_length}
use Rattle.pieces.specs.Cut.{cut, InStep}
use Rattle.held_mask.specs.Size.{size}
use Rattle.in_force.specs.Bytes.{fresh, take_bytes, run_bytes, frames_of, Holds}

-- the next piece of the bytes that are left
abbrev pub piece_of : List ℕ → List ℕ
piece_of s = take (piece_length s) s

-- a ledger's bytes after pieces taken one after the other, in order
unfoldable pub taken_all : List ℕ → List (List ℕ) → List ℕ
taken_all t [] = t
taken_all t (p ∷ ps) = taken_all (take_bytes t p) ps

-- what is promised of a log s whose pieces are taken into a ledger of bytes t
pub record TakenPieces (t s : List ℕ) : Type 0 where
  -- one step, then those of what is left
  pub next : 1 ≤ length s → taken_all t (cut s) ≡ taken_all (take_bytes t (piece_of s)) (cut (drop (piece_length s) s))
  -- the pieces are the frames handed in, newest first
  pub run : taken_all t (cut s) ≡ run_bytes t (reverse (cut s))
  -- so a fresh ledger then holds what is in force after them, by looking back
  pub holds : (prn : ℕ) → length t ≡ size → Holds (taken_all (fresh t prn) (cut s)) prn (reverse (cut s))
  -- of a log in step, as one of whole frames is, they are the frames counted off
  pub same : InStep s → reverse (cut s) ≡ frames_of s
