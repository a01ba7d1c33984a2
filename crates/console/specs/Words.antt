-- Numbers of a line.
use Rattle.std.specs.Prelude.{ℕ, ℤ, nat_abs, Option, Some, None}

-- the number, 0 where there is none
abbrev pub value_of : Option ℕ → ℕ
value_of (Some v) = v
value_of None = 0

-- how far the raw value lies from 0; 0 where there is none
abbrev pub size_of : Option ℤ → ℕ
size_of (Some z) = nat_abs z
size_of None = 0
