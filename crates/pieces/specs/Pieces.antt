-- Frames are found in a log, not counted off: where a frame stands, and how long the next piece is.
use Rattle.std.specs.Prelude.{ℕ, zero, suc, ◌+◌, min, Bool, ◌&&◌, List, eqb, length, take, drop}
use Rattle.bits.specs.Pick.{pick}
use Rattle.bits.specs.Bits.{field_at}
use Rattle.parity.specs.Parity.{parity_ok}

-- 01, What arrives: a frame is 125 bytes that begin with the sync 0xEB90; here also all its 81 parity groups are zero
unfoldable pub is_frame : List ℕ → Bool
is_frame f = eqb (length f) 125 && eqb (field_at f 0 16) 0xEB90 && parity_ok f

-- such a frame stands at byte p, from 0, of the bytes s
unfoldable pub stands_at : List ℕ → ℕ → Bool
stands_at s p = is_frame (take 125 (drop p s))

-- the first of n offsets from p on at which a frame stands; 125 if there is none, or all bytes where they are fewer
unfoldable pub piece_from : List ℕ → ℕ → ℕ → ℕ
piece_from s p zero = min 125 (length s)
piece_from s p (suc n) = pick (stands_at s p) p (piece_from s (p + 1) n)

-- the bytes of the next piece: a frame that stands at the start; else what comes before the first that stands at 1 to 125
unfoldable pub piece_length : List ℕ → ℕ
piece_length s = pick (stands_at s 0) 125 (piece_from s 1 125)
