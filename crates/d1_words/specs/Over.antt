-- A walk over the bits of a number, the highest first.
use Rattle.std.specs.Prelude.{ℕ, zero, suc, ◌/◌, ◌%◌, ◌^◌}

-- f over n bits of w that stand m bits apart, the lowest of them bit 0 of w; the highest goes first, into 0
unfoldable pub over_bits : ℕ → (ℕ → ℕ → ℕ) → ℕ → ℕ → ℕ
over_bits m f zero w = 0
over_bits m f (suc n) w = f (over_bits m f n (w / 2 ^ m)) (w % 2)
