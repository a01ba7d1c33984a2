-- 02, CR 8: a run of errors. Nothing is assumed of the elements of s and t: eight bits of each count.
use Rattle.std.specs.Prelude.{ℕ, ◌+◌, ◌≤◌, ◌<◌, ◌≡◌, ◌≢◌, List, length}
use Rattle.bits.specs.Bits.{bit_at}

-- 02, CR 8: bit i of s is another in t
abbrev pub Changed : List ℕ → List ℕ → ℕ → Type 0
Changed s t i = bit_at s i ≢ bit_at t i

-- 02, CR 8: t is s but for "one or more of its" n "bits, all within" k "neighbouring positions": those from `first` on; `one` is a changed bit
pub record Run (n k : ℕ) (s t : List ℕ) : Type 0 where
  pub long : length t ≡ length s
  pub first : ℕ
  pub near : (i : ℕ) → Changed s t i → (first ≤ i) × (i < first + k)
  pub inside : (i : ℕ) → Changed s t i → i < n
  pub one : ℕ
  pub more : Changed s t one
