-- Opening a ledger: 01, Refusal numbers, 4.
use Rattle.std.specs.Prelude.{ℕ, List}
use Rattle.bits.specs.Pick.{pick}
use Rattle.frame.specs.Frame.{is_prn}
use Rattle.in_force.specs.Bytes.{fresh}

-- 01, 4: a ledger asked for another PRN than the ten
abbrev pub open_refusal : ℕ → ℕ
open_refusal prn = pick (is_prn prn) 0 4

-- a refusal leaves the bytes as they were
abbrev pub open_bytes : List ℕ → ℕ → List ℕ
open_bytes s prn = pick (is_prn prn) (fresh s prn) s
