-- The check of 24 bits, eight bits at once (01, Parity and check bits).
use Rattle.std.specs.Prelude.{ℕ, zero, suc, ◌*◌, ◌^◌, List}
use Rattle.bits.specs.Poly.{times_x}
use Rattle.bits.specs.Table.{table}
use Rattle.check24.specs.Check.{polynomial}

-- 01, Parity and check bits: the register a after n zero bits
unfoldable pub shifted : ℕ → ℕ → ℕ
shifted zero a = a
shifted (suc n) a = times_x 23 polynomial (shifted n a)

-- the table of what eight zero bits make of a register that holds k in its top eight bits, and nothing else
unfoldable pub eights : List ℕ
eights = table (λ (k : ℕ). shifted 8 (k * 2 ^ 16)) 256
