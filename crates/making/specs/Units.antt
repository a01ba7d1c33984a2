-- A frame's bytes by its units of six bits after the sync: PRN, flags, then the 162 symbols. Four units fill three bytes.
use Rattle.std.specs.Prelude.{ℕ, ◌+◌, ◌-◌, ◌*◌, ◌/◌, ◌%◌, ◌^◌, List, eqb, ltb, get_or}
use Rattle.bits.specs.Pick.{pick}

-- unit k: the PRN, the flags, a symbol of the message m or of the parity v
unfoldable pub unit_of : ℕ → ℕ → List ℕ → List ℕ → ℕ → ℕ
unit_of prn flags m v k = pick (eqb k 0) prn (pick (eqb k 1) flags (pick (ltb k 83) (get_or m (k - 2) 0) (get_or v (k - 83) 0)))

-- the eight bits from bit 8 n on of the units u
unfoldable pub unit_byte : List ℕ → ℕ → ℕ
unit_byte u n = (get_or u (4 * n / 3) 0 * 64 + get_or u (4 * n / 3 + 1) 0) / 2 ^ (4 - 2 * (4 * n % 3)) % 256

-- byte j of the frame: the two of the sync, then those of the units
unfoldable pub frame_byte : List ℕ → ℕ → ℕ
frame_byte u j = pick (eqb j 0) 0xEB (pick (eqb j 1) 0x90 (unit_byte u (j - 2)))
