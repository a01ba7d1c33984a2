-- A log cut into its pieces, and what is promised of them.
use Rattle.std.specs.Prelude.{ℕ, zero, suc, ◌+◌, ◌*◌, ◌/◌, ◌≤◌, ◌<◌, ◌≡◌, true, false, ◌⊎◌, List, [], ◌∷◌, ◌++◌, length, take, drop}
use Rattle.bits.specs.Table.{table}
use Rattle.pieces.specs.Pieces.{is_frame, stands_at, piece_length}

-- the pieces of s in order, at most n of them
unfoldable pub cut_to : ℕ → List ℕ → List (List ℕ)
cut_to zero s = []
cut_to (suc n) [] = []
cut_to (suc n) (b ∷ bs) = take (piece_length (b ∷ bs)) (b ∷ bs) ∷ cut_to n (drop (piece_length (b ∷ bs)) (b ∷ bs))

-- the pieces of s in order: there are at most as many as bytes
unfoldable pub cut : List ℕ → List (List ℕ)
cut s = cut_to (length s) s

-- the bytes of the pieces, one after the other
unfoldable pub joined : List (List ℕ) → List ℕ
joined [] = []
joined (p ∷ ps) = p ++ joined ps

-- each piece has 1 to 125 bytes
unfoldable pub Sized : List (List ℕ) → Type 0
Sized [] = Unit {0}
Sized (p ∷ ps) = (1 ≤ length p) × (length p ≤ 125) × Sized ps

-- every byte is in exactly one piece, in order
pub record InPieces (s : List ℕ) : Type 0 where
  pub all : joined (cut s) ≡ s
  pub sized : Sized (cut s)

-- a frame f that no earlier frame overlaps: none that begins before it reaches into it
pub record Clear (before f after : List ℕ) : Type 0 where
  pub frame : is_frame f ≡ true
  pub clear : (q : ℕ) → q < length before → length before < q + 125 → stands_at (before ++ (f ++ after)) q ≡ false

-- f is handed in whole: it is a piece, after pieces of what comes before it and before those of what comes after
pub record HandedWhole (before f after : List ℕ) : Type 0 where
  pub pieces : List (List ℕ)
  pub earlier : joined pieces ≡ before
  pub whole : cut (before ++ (f ++ after)) ≡ pieces ++ (f ∷ cut after)

-- chunk i of s, from 0: 125 bytes; what is left at the end is a shorter one
abbrev pub chunk_at : List ℕ → ℕ → List ℕ
chunk_at s i = take 125 (drop (125 * i) s)

-- the chunks of s in order
unfoldable pub chunks : List ℕ → List (List ℕ)
chunks s = table (chunk_at s) ((length s + 124) / 125)

-- every whole chunk of s is a frame, or else no frame begins inside it; so it is where all are frames
abbrev pub InStep : List ℕ → Type 0
InStep s = (i : ℕ) → 125 * i + 125 ≤ length s →
    (stands_at s (125 * i) ≡ true) ⊎ ((q : ℕ) → 125 * i < q → q < 125 * i + 125 → stands_at s q ≡ false)

-- all that is promised of the pieces of a log
pub record Promised : Type 0 where
  -- every byte is in exactly one piece, in order
  pub bytes : (s : List ℕ) → InPieces s
  -- a frame that no earlier frame overlaps is handed in whole, wherever it stands
  pub frames : (before f after : List ℕ) → Clear before f after → HandedWhole before f after
  -- a log in step, as one of whole frames is, is cut into chunks of 125
  pub chunked : (s : List ℕ) → InStep s → cut s ≡ chunks s
  -- the next 250 bytes decide the next piece
  pub near : (s : List ℕ) (w : ℕ) → 250 ≤ w → piece_length (take w s) ≡ piece_length s
