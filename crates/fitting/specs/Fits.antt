-- 01, Refusal numbers, 16: values, and whether each is within its width. A value that cannot be coded is one bit too wide.
use Rattle.std.specs.Prelude.{ℕ, zero, suc, ◌*◌, ◌^◌, Bool, true, ◌&&◌, List, [], ◌∷◌, ◌++◌, ltb, ℤ, take, replicate}
use Rattle.std.specs.Int.Signed.{mag}
use Rattle.bits.specs.Pick.{pick}
use Rattle.records.specs.Signed.{raw_half}

-- a row of at most eight, filled up with zeros
abbrev pub eight : List ℕ → List ℕ
eight xs = take 8 (xs ++ replicate 8 0)

-- the bits of a signed number whose highest weighs half; one bit too wide where it is out of range
abbrev pub raw_or : ℕ → ℤ → ℕ
raw_or half z = pick (ltb (mag z) half) (raw_half half z) (2 * half)

-- 01: epoch, reserved (zero), IOD SSR, IODP, sub-type or Slot_S
abbrev pub head_vals : ℕ → ℕ → ℕ → ℕ → List ℕ
head_vals epoch ssr iodp start = epoch ∷ 0 ∷ ssr ∷ iodp ∷ start ∷ []

-- each value within its width
unfoldable pub fits : List ℕ → List ℕ → Bool
fits [] vs = true
fits (w ∷ ws) [] = true
fits (w ∷ ws) (v ∷ vs) = ltb v (2 ^ w) && fits ws vs

-- the values of the first n records, each within its width
unfoldable pub all_fit : List ℕ → (ℕ → List ℕ) → ℕ → Bool
all_fit ws f zero = true
all_fit ws f (suc n) = all_fit ws f n && fits ws (f n)
