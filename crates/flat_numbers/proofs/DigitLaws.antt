-- The bytes of a number, high byte first, by halves.
use mathlib.Core.Path.{◌≡◌}
use Prim.Native.Nat.{ℕ, ◌/◌, ◌%◌, ◌<◌}
use mathlib.Core.List.{List, [], ◌∷◌}
use native.Mathlib.Omega.{arith}
use mir.Syntax.{w16, w32}
use Rattle.std.specs.Int.{to_be_bytes}

abbrev pub pairs : ℕ → List ℕ
pairs n = n / 256 ∷ n % 256 ∷ []

abbrev pub quads : ℕ → List ℕ
quads n = n / 65536 / 256 ∷ n / 65536 % 256 ∷ n % 65536 / 256 ∷ n % 65536 % 256 ∷ []

pub two_bytes : (n : ℕ) → n < 65536 → to_be_bytes w16 n ≡ pairs n
two_bytes n h =
    let a : n / 256 % 256 ≡ n / 256 = omega arith in
    rw a

pub four_bytes : (n : ℕ) → n < 4294967296 → to_be_bytes w32 n ≡ quads n
four_bytes n h =
    let a : n / 16777216 % 256 ≡ n / 65536 / 256 = omega arith in
    let b : n / 256 % 256 ≡ n % 65536 / 256 = omega arith in
    let c : n % 256 ≡ n % 65536 % 256 = omega arith in
    rw (a, b, c)
