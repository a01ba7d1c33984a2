-- Bytes stored into a room at an offset; what is kept; a row of bytes read.
use Rattle.std.specs.Prelude.{◌≡◌, ◌⊎◌, ℕ, ◌+◌, ◌≤◌, ◌<◌, List, [], ◌∷◌, get_or, set, length}
use Rattle.bits.specs.Table.{table}

-- every element is a byte
abbrev pub Bytes : List ℕ → Type 0
Bytes s = (j : ℕ) → get_or s j 0 < 256

-- the bytes with those of r stored from `at` on
unfoldable pub store_at : List ℕ → ℕ → List ℕ → List ℕ
store_at s at [] = s
store_at s at (b ∷ bs) = store_at (set s at b) (at + 1) bs

-- t is s but for the bytes from lo up to hi
pub record Kept (lo hi : ℕ) (s t : List ℕ) : Type 0 where
  pub long : length t ≡ length s
  pub out : (j : ℕ) → (j < lo) ⊎ (hi ≤ j) → get_or t j 0 ≡ get_or s j 0

-- n bytes from `at` on
unfoldable pub row_at : List ℕ → ℕ → ℕ → List ℕ
row_at s at n = table (λ (i : ℕ). get_or s (at + i) 0) n
