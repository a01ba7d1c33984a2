-- 01, Examples to hold against it: the check of 462 zero bits, and of 462 bits of which only the last is set.
use mathlib.Core.Path.{◌≡◌, refl}
use mathlib.Core.List.{[], ◌∷◌, ◌++◌}
use lib.ListN.{replicate}
use Rattle.bits.specs.Bits.{bit_at, bits_from}
use Rattle.bits.specs.Poly.{times_x}
use Rattle.check24.specs.Check.{feed_of, check_bits, check_of}

-- 0, and 0x864CFB
pub checks : (check_of (replicate 58 0) 0 462 ≡ 0) × (check_of (replicate 57 0 ++ 4 ∷ []) 0 462 ≡ 0x864CFB)
unfolding check_of check_bits bits_from feed_of times_x bit_at
checks = (refl, refl)
